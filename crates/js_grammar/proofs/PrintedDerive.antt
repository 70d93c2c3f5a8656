-- The printed tokens of an expression are that expression.
use Rattle.std.proofs.Common.{◌≡◌, ℕ, suc, ◌≤◌, List, [], ◌∷◌, ◌++◌, append-nil, refl, sym, subst, arith, Bool, true, false, inl, inr, true≢false, if◌then◌else◌}
use Rattle.std.proofs.lemmas.Bool.Decides.{leb_tells}
use Rattle.std.proofs.lemmas.Bool.{cases_lt}
use Rattle.syntax_lex.specs.declared.operator.binary.BinaryOperator.TheVariants.{Exponential}
use Rattle.syntax_lex.specs.declared.operator.logical.LogicalOperator.TheVariants.{Coalesce}
use Rattle.js_grammar.specs.Derives.{Coalesces, Derives, Listed, Parts, array, assignment, between, call, coalescing, conditional, first, index, last, member, more, new, next, nothing, operand, parentheses, postfix, power, prefix, sequence, some, unary}
use Rattle.js_grammar.specs.Laws.{PrintedTokensDerive}
use Rattle.js_grammar.specs.Printed.{AreSound, IsSound, bare, is_none, is_over_call, level, parts, printed, right_level}
use Rattle.js_grammar.specs.Shapes.{Array, Assign, Binary, COALESCE, Call, Conditional, Index, Infix, Logical, Member, New, One, Operator, Postfix, Prefix, Sequence, Shape, Shapes, Unary, also, groups_left, infix_level, none}
use Rattle.js_grammar.specs.Tokens.{CLOSE, OPEN, Token, infix_token}
use Rattle.js_grammar.proofs.Levels.{any_range, left_range, member_level, member_range, part_levels}

-- what stands at a level stands at each below it
lower : {j k : ℕ} {ts : List Token} {s : Shape} → j ≤ k → Derives k ts s → Derives j ts s
lower le (operand h u) = operand (omega arith) u
lower le (parentheses h d) = parentheses (omega arith) d
lower le (array h p) = array (omega arith) p
lower le (new h d p) = new (omega arith) d p
lower le (member h a b d) = member (omega arith) a b d
lower le (index h a b d e) = index (omega arith) a b d e
lower le (call h d p) = call (omega arith) d p
lower le (postfix h d g) = postfix (omega arith) d g
lower le (prefix h d g) = prefix (omega arith) d g
lower le (unary h d) = unary (omega arith) d
lower le (power h d e) = power (omega arith) d e
lower le (between o h d e) = between o (omega arith) d e
lower le (coalescing h c) = coalescing (omega arith) c
lower le (conditional h d e g) = conditional (omega arith) d e g
lower le (assignment h d g e) = assignment (omega arith) d g e
lower le (sequence h d p) = sequence (omega arith) d p

positive : (s : Shape) → 1 ≤ level s
positive (Member s w) = let m = member_range (is_over_call s) in omega (arith, m.0)
positive (Index s x) = let m = member_range (is_over_call s) in omega (arith, m.0)
positive (Infix o x y) = let b = any_range o in omega (arith, b.0)
positive _ = omega arith

-- in parentheses where the level asks for it
at_level : (k : ℕ) (s : Shape) → k ≤ 23 → Derives (level s) (bare s) s → Derives k (printed k s) s
at_level k s h d =
    elim (leb_tells k (level s)) [
      | inl e ↦ subst (λ b. Derives k (if b then bare s else OPEN ∷ (bare s ++ CLOSE ∷ [])) s) (sym e.0) (lower e.1 d)
      | inr e ↦ subst (λ b. Derives k (if b then bare s else OPEN ∷ (bare s ++ CLOSE ∷ [])) s) (sym e.0) (parentheses h (lower (positive s) d))
    ]

member_not_21 : (b : Bool) → b ≡ false → member_level b ≡ 21 → ⊥
member_not_21 true e l = true≢false e
member_not_21 false e l = omega arith

-- what isn't over a call never stands at level 21 by itself
not_21 : (s : Shape) → is_over_call s ≡ false → level s ≡ 21 → ⊥
not_21 (Call s ss) e l = true≢false e
not_21 (Member s w) e l = member_not_21 (is_over_call s) e l
not_21 (Index s x) e l = member_not_21 (is_over_call s) e l
not_21 (Infix o x y) e l = let b = any_range o in omega (arith, b.1, l)
not_21 _ e l = omega arith

-- so its printed form at 21 serves at 22
at_22 : (s : Shape) → is_over_call s ≡ false → Derives (level s) (bare s) s → Derives 22 (printed 21 s) s
at_22 s e d =
    elim (leb_tells 21 (level s)) [
      | inl g ↦ let n = not_21 s e in
          let m : 22 ≤ level s = elim (cases_lt 21 (level s)) [ inl lt ↦ omega arith | inr ge ↦ absurd (n (omega (arith, g.1))) ] in
          subst (λ b. Derives 22 (if b then bare s else OPEN ∷ (bare s ++ CLOSE ∷ [])) s) (sym g.0) (lower m d)
      | inr g ↦ subst (λ b. Derives 22 (if b then bare s else OPEN ∷ (bare s ++ CLOSE ∷ [])) s) (sym g.0) (parentheses (omega arith) (lower (positive s) d))
    ]

-- the object of a member, at the member's level
object : (s : Shape) → Derives (level s) (bare s) s → Derives (member_level (is_over_call s)) (printed 21 s) s
object s d = go (is_over_call s) refl
  where
    go : (b : Bool) → is_over_call s ≡ b → Derives (member_level b) (printed 21 s) s
    go true e = at_level 21 s (omega arith) d
    go false e = at_22 s e d

abbrev ChainOf : Shape → Type 0
ChainOf (Infix (Logical Coalesce) x y) = Coalesces (bare (Infix COALESCE x y)) (Infix COALESCE x y)
ChainOf _ = Unit {0}

-- what is printed with no parentheses around it is the expression; of a row of `??`, as such a row
record Made (s : Shape) : Type 0 where
  derives : Derives (level s) (bare s) s
  chain : ChainOf s

chained : (x : Shape) → Made x → (y : Shape) → Derives 9 (printed 9 y) y → Coalesces (bare (Infix COALESCE x y)) (Infix COALESCE x y)
chained (Infix (Logical Coalesce) a b) q y d = next q.chain d
chained x q y d = first (at_level 9 x (omega arith) q.derives) d

between_made : (o : Operator) (x y : Shape) → groups_left o ≡ true → Made x → Made y → Derives (infix_level o) (bare (Infix o x y)) (Infix o x y)
between_made o x y g p q =
    let r = left_range o g in
    let v = part_levels o x g in
    let a = at_level (infix_level o) x (omega (arith, r.1)) p.derives in
    let b = at_level (suc (infix_level o)) y (omega (arith, r.1)) q.derives in
    subst (λ l. Derives (infix_level o) (printed l x ++ infix_token o ∷ printed (right_level o) y) (Infix o x y)) (sym v.0)
    (subst (λ l. Derives (infix_level o) (printed (infix_level o) x ++ infix_token o ∷ printed l y) (Infix o x y)) (sym v.1) (between g (omega arith) a b))

infix_made : (o : Operator) (x y : Shape) → Made x → Made y → Made (Infix o x y)
infix_made (Binary Exponential) x y p q = record { derives = power (omega arith) (at_level 19 x (omega arith) p.derives) (at_level 17 y (omega arith) q.derives); chain = tt }
infix_made (Logical Coalesce) x y p q = let c = chained x p y (at_level 9 y (omega arith) q.derives) in record { derives = coalescing (omega arith) c; chain = c }
infix_made o x y p q = record { derives = between_made o x y refl p q; chain = tt }

abbrev PartsOf : Shapes → Type 0
PartsOf none = Unit {0}
PartsOf (also x ss) = Parts (parts (also x ss)) (also x ss)

-- one part and then the others
parts_made : (x : Shape) (ss : Shapes) → Derives 4 (printed 4 x) x → PartsOf ss → Parts (parts (also x ss)) (also x ss)
parts_made x none d p = subst (λ ts. Parts ts (also x none)) (sym (append-nil (printed 4 x))) (last d)
parts_made x (also y us) d p = more d p

listed : (ss : Shapes) → PartsOf ss → Listed (parts ss) ss
listed none p = nothing
listed (also x ss) p = some p

sequence_made : (x : Shape) (ss : Shapes) → is_none ss ≡ false → Derives 4 (printed 4 x) x → PartsOf ss → Derives 1 (bare (Sequence x ss)) (Sequence x ss)
sequence_made x none h d p = absurd (true≢false h)
sequence_made x (also y ss) h d p = sequence (omega arith) d p

mutual
  made : (s : Shape) → IsSound s → Made s
  made (One o) f = record { derives = operand (omega arith) f; chain = tt }
  made (Array ss) f = record { derives = array (omega arith) (listed ss (all_made ss f)); chain = tt }
  made (New s ss) f = record { derives = new (omega arith) (at_level 22 s (omega arith) (made s f.0).derives) (listed ss (all_made ss f.1)); chain = tt }
  made (Member s w) f = let m = member_range (is_over_call s) in record { derives = member (omega arith) m.0 m.1 (object s (made s f).derives); chain = tt }
  made (Index s x) f = let m = member_range (is_over_call s) in record { derives = index (omega arith) m.0 m.1 (object s (made s f.0).derives) (at_level 1 x (omega arith) (made x f.1).derives); chain = tt }
  made (Call s ss) f = record { derives = call (omega arith) (at_level 21 s (omega arith) (made s f.0).derives) (listed ss (all_made ss f.1)); chain = tt }
  made (Postfix o s) f = record { derives = postfix (omega arith) (at_level 21 s (omega arith) (made s f.0).derives) f.1; chain = tt }
  made (Prefix o s) f = record { derives = prefix (omega arith) (at_level 18 s (omega arith) (made s f.0).derives) f.1; chain = tt }
  made (Unary o s) f = record { derives = unary (omega arith) (at_level 18 s (omega arith) (made s f).derives); chain = tt }
  made (Infix o x y) f = infix_made o x y (made x f.0) (made y f.1)
  made (Conditional x y z) f = record { derives = conditional (omega arith) (at_level 6 x (omega arith) (made x f.0).derives) (at_level 4 y (omega arith) (made y f.1).derives) (at_level 4 z (omega arith) (made z f.2).derives); chain = tt }
  made (Assign o x y) f = record { derives = assignment (omega arith) (at_level 21 x (omega arith) (made x f.0).derives) f.1 (at_level 4 y (omega arith) (made y f.2).derives); chain = tt }
  made (Sequence x ss) f = record { derives = sequence_made x ss f.1 (at_level 4 x (omega arith) (made x f.0).derives) (all_made ss f.2); chain = tt }

  all_made : (ss : Shapes) → AreSound ss → PartsOf ss
  all_made none f = tt
  all_made (also x ss) f = parts_made x ss (at_level 4 x (omega arith) (made x f.0).derives) (all_made ss f.1)

pub printed_derive : PrintedTokensDerive
printed_derive s f = at_level 1 s (omega arith) (made s f).derives
