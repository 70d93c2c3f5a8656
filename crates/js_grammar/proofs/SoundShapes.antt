-- The shape of an expression in a tree is sound.
use Rattle.std.proofs.Common.{◌≡◌, ℕ, zero, suc, Bool, true, false, Option, Some, None, IfSome, option_map, if◌then◌else◌, refl}
use Rattle.syntax_lex.specs.Keyword.{is_reserved_keyword}
use Rattle.syntax_lex.specs.declared.operator.update.UpdateOperator.{UpdateOperator}
use Rattle.tree_nodes.specs.Literals.{case_of}
use Rattle.tree_nodes.specs.Tree.{Parts, Text, atom, child, done, flag, flag_of, many, part, text_of, units, whole}
use Rattle.tree_nodes.specs.declared.kind.Kind.{Kind}
use Rattle.tree_nodes.specs.declared.kind.Kind.TheVariants.{ArrayExpression, AssignmentExpression, BinaryExpression, CallExpression, ConditionalExpression, Identifier, Literal, LogicalExpression, MemberExpression, NewExpression, SequenceExpression, ThisExpression, UnaryExpression, UpdateExpression}
use Rattle.tree_nodes.specs.declared.literals.LiteralCase.{LiteralCase}
use Rattle.tree_nodes.specs.declared.literals.LiteralCase.TheVariants as case
use Rattle.js_grammar.specs.Expressions.{in_sequence, operand_by_case, shape_at, shape_from, shapes_at, shapes_in, target, three, two, unreserved, updated, value_operand}
use Rattle.js_grammar.specs.Laws.{ShapesAreSound}
use Rattle.js_grammar.specs.Printed.{AreSound, IsSound}
use Rattle.js_grammar.specs.Shapes.{Array, Assign, Call, Conditional, Index, Member, Name, New, One, Shape, Shapes, Unary, also, is_target, none}

pub of_two : {A B C : Type 0} (f : A → B → C) (P : A → Type 0) (Q : B → Type 0) (R : C → Type 0) (o : Option A) (p : Option B) → IfSome o P → IfSome p Q → ((a : A) (b : B) → P a → Q b → R (f a b)) → IfSome (two f o p) R
of_two f P Q R None p h g go = tt
of_two f P Q R (Some a) None h g go = tt
of_two f P Q R (Some a) (Some b) h g go = go a b h g

pub of_three : {A B C D : Type 0} (f : A → B → C → D) (P : A → Type 0) (Q : B → Type 0) (R : C → Type 0) (S : D → Type 0) (o : Option A) (p : Option B) (q : Option C) → IfSome o P → IfSome p Q → IfSome q R → ((a : A) (b : B) (c : C) → P a → Q b → R c → S (f a b c)) → IfSome (three f o p q) S
of_three f P Q R S None p q h g i go = tt
of_three f P Q R S (Some a) None q h g i go = tt
of_three f P Q R S (Some a) (Some b) None h g i go = tt
of_three f P Q R S (Some a) (Some b) (Some c) h g i go = go a b c h g i

pub of_map : {A B : Type 0} (f : A → B) (P : A → Type 0) (Q : B → Type 0) (o : Option A) → IfSome o P → ((a : A) → P a → Q (f a)) → IfSome (option_map f o) Q
of_map f P Q None h go = tt
of_map f P Q (Some a) h go = go a h

abbrev pub Anything : {A : Type 0} → A → Type 0
Anything a = Unit {0}

pub of_any : {A : Type 0} (o : Option A) → IfSome o Anything
of_any None = tt
of_any (Some a) = tt

name_sound : (w : Text) (b : Bool) → is_reserved_keyword w ≡ b → IfSome (option_map One (if b then None else Some (Name w))) IsSound
name_sound w true e = tt
name_sound w false e = e

value_sound : (v : Parts) → IfSome (option_map One (value_operand v)) IsSound
unfolding value_operand
value_sound (atom (units u) more) = tt
value_sound (atom (flag b) more) = tt
value_sound (atom (whole n) more) = tt
value_sound _ = tt

literal_sound : (c : LiteralCase) (v : Parts) → IfSome (option_map One (operand_by_case c v)) IsSound
unfolding operand_by_case
literal_sound case.Text v = value_sound v
literal_sound case.Boolean v = value_sound v
literal_sound case.Number v = value_sound v
literal_sound case.Null v = tt
literal_sound _ v = tt

abbrev IsSoundTarget : Shape → Type 0
IsSoundTarget s = IsSound s × (is_target s ≡ true)

chosen_target : (s : Shape) (b : Bool) → is_target s ≡ b → IsSound s → IfSome (if b then Some s else None) IsSoundTarget
chosen_target s true e h = (h, e)
chosen_target s false e h = tt

target_sound : (o : Option Shape) → IfSome o IsSound → IfSome (target o) IsSoundTarget
unfolding target
target_sound None h = tt
target_sound (Some s) h = chosen_target s (is_target s) refl h

sequence_sound : (o : Option Shapes) → IfSome o AreSound → IfSome (in_sequence o) IsSound
unfolding in_sequence
sequence_sound None h = tt
sequence_sound (Some none) h = tt
sequence_sound (Some (also x none)) h = tt
sequence_sound (Some (also x (also y ss))) h = (h.0, refl, h.1)

updated_sound : (b : Bool) (o : UpdateOperator) (s : Shape) → IsSoundTarget s → IsSound (updated b o s)
updated_sound true o s h = h
updated_sound false o s h = h

either : (b : Bool) (x y : Option Shape) → IfSome x IsSound → IfSome y IsSound → IfSome (if b then x else y) IsSound
either true x y h g = h
either false x y h g = g

module _ (fields : Parts) (shape : ℕ → Option Shape) (shapes : ℕ → Option Shapes) (h : (i : ℕ) → IfSome (shape i) IsSound) (g : (i : ℕ) → IfSome (shapes i) AreSound) where
  sound_from : (k : Kind) → IfSome (shape_from k fields shape shapes) IsSound
  unfolding shape_from unreserved
  sound_from Identifier = name_sound (text_of fields) (is_reserved_keyword (text_of fields)) refl
  sound_from Literal = literal_sound (case_of fields) (part fields 0)
  sound_from ThisExpression = tt
  sound_from ArrayExpression = of_map Array AreSound IsSound (shapes 0) (g 0) (λ ss p. p)
  sound_from UnaryExpression = either (flag_of (part fields 1)) _ _ (of_two Unary Anything IsSound IsSound _ (shape 2) (of_any _) (h 2) (λ o s p q. q)) tt
  sound_from UpdateExpression = of_two (updated (flag_of (part fields 1))) Anything IsSoundTarget IsSound _ (target (shape 2)) (of_any _) (target_sound (shape 2) (h 2)) (λ o s p q. updated_sound (flag_of (part fields 1)) o s q)
  sound_from BinaryExpression = of_three _ Anything IsSound IsSound IsSound _ (shape 0) (shape 2) (of_any _) (h 0) (h 2) (λ o x y p q r. (q, r))
  sound_from LogicalExpression = of_three _ Anything IsSound IsSound IsSound _ (shape 0) (shape 2) (of_any _) (h 0) (h 2) (λ o x y p q r. (q, r))
  sound_from AssignmentExpression = of_three Assign Anything IsSoundTarget IsSound IsSound _ (target (shape 1)) (shape 2) (of_any _) (target_sound (shape 1) (h 1)) (h 2) (λ o x y p q r. (q.0, q.1, r))
  sound_from ConditionalExpression = of_three Conditional IsSound IsSound IsSound IsSound (shape 0) (shape 1) (shape 2) (h 0) (h 1) (h 2) (λ x y z p q r. (p, q, r))
  sound_from CallExpression = either (flag_of (part fields 2)) None _ tt (of_two Call IsSound AreSound IsSound (shape 0) (shapes 1) (h 0) (g 1) (λ s ss p q. (p, q)))
  sound_from NewExpression = of_two New IsSound AreSound IsSound (shape 0) (shapes 1) (h 0) (g 1) (λ s ss p q. (p, q))
  sound_from MemberExpression =
      either (flag_of (part fields 3)) None _ tt
      (either (flag_of (part fields 2)) _ _
      (of_two Index IsSound IsSound IsSound (shape 0) (shape 1) (h 0) (h 1) (λ s x p q. (p, q)))
      (of_two Member IsSound Anything IsSound (shape 0) _ (h 0) (of_any _) (λ s w p q. p)))
  sound_from SequenceExpression = sequence_sound (shapes 0) (g 0)
  sound_from _ = tt

mutual
  unfolding shape_at

  sound_at : (ps : Parts) (i : ℕ) → IfSome (shape_at ps i) IsSound
  sound_at done i = tt
  sound_at (atom a rest) zero = tt
  sound_at (atom a rest) (suc i) = sound_at rest i
  sound_at (child k s e fields rest) zero = sound_from fields (λ j. shape_at fields j) (λ j. shapes_at fields j) (λ j. sound_at fields j) (λ j. lists_sound fields j) k
  sound_at (child k s e fields rest) (suc i) = sound_at rest i
  sound_at (many items rest) zero = tt
  sound_at (many items rest) (suc i) = sound_at rest i

  lists_sound : (ps : Parts) (i : ℕ) → IfSome (shapes_at ps i) AreSound
  lists_sound done i = tt
  lists_sound (atom a rest) zero = tt
  lists_sound (atom a rest) (suc i) = lists_sound rest i
  lists_sound (child k s e fields rest) zero = tt
  lists_sound (child k s e fields rest) (suc i) = lists_sound rest i
  lists_sound (many items rest) zero = all_sound items
  lists_sound (many items rest) (suc i) = lists_sound rest i

  all_sound : (ps : Parts) → IfSome (shapes_in ps) AreSound
  all_sound done = tt
  all_sound (atom a rest) = tt
  all_sound (child k s e fields rest) =
      of_two also IsSound AreSound AreSound _ (shapes_in rest)
      (sound_from fields (λ j. shape_at fields j) (λ j. shapes_at fields j) (λ j. sound_at fields j) (λ j. lists_sound fields j) k)
      (all_sound rest) (λ s ss p q. (p, q))
  all_sound (many items rest) = tt

pub shapes_sound : ShapesAreSound
shapes_sound t = sound_at _ 0
