-- Where a node may stand is told without its names and its shorthand mark.
use Rattle.std.proofs.Common.{◌≡◌, true, false, not, ◌&&◌, ◌||◌, nat_eq, [], ◌∷◌, if◌then◌else◌, refl, ap, ap₂, ◌∙◌}
use Rattle.tree_nodes.specs.Kinds.{is_in, is_kind}
use Rattle.tree_nodes.specs.Literals.{by_raw, case_from, case_of, has_case, is_key, is_text, with_value, without_value}
use Rattle.tree_nodes.specs.Standing.{admits, bodies, group_admits, is_expression, is_named, is_plain_key, is_read, is_string_literal, is_var_alone, module_declarations, statements, word_in}
use Rattle.tree_nodes.specs.Tree.{Atom, Parts, atom, empty, flag, part, text, text_of, units, whole, word}
use Rattle.tree_nodes.specs.declared.kind.Kind.{Kind}
use Rattle.tree_nodes.specs.declared.kind.Kind.TheVariants.{ClassDeclaration, FunctionDeclaration, Identifier, Literal, PrivateIdentifier, VariableDeclaration}
use Rattle.tree_nodes.specs.declared.literals.LiteralCase.TheVariants as case
use Rattle.tree_nodes.specs.declared.table.Class.{Class as FieldClass}
use Rattle.tree_nodes.specs.declared.table.Class.TheVariants.{Holes, Many, ManyOr, Maybe, One}
use Rattle.tree_nodes.specs.declared.table.Group.{Group}
use Rattle.tree_nodes.specs.declared.table.Group.TheVariants.{Bodies, Declarations, Keys, LeftOperands, Locals, MemberKeys, Members, ModuleItems, Names, Statements, Strings}
use Rattle.tree_nodes.specs.declared.table.Role.{Role}
use Rattle.tree_places.proofs.Blind.{blank_at, flag_at, part-blind, word_at}
use Rattle.tree_places.specs.Open.{all_open}
use Rattle.tree_places.specs.Places.{hide}
use Rattle.tree_places.specs.Renaming.{blind}

pub text_of_blind : (x : Parts) → text_of (blind x) ≡ text_of x
unfolding all_open
text_of_blind (atom (text t) more) = refl
text_of_blind _ = refl

-- ---- the case of a literal

by_raw_blind : (r : Parts) → by_raw (blind r) ≡ by_raw r
unfolding all_open
by_raw_blind (atom (text t) more) = refl
by_raw_blind (atom empty more) = refl
by_raw_blind _ = refl

without_value_blind : (r p b : Parts) → without_value (blind r) (blind p) (blind b) ≡ without_value r p b
unfolding all_open
without_value_blind r (atom (text p) x) (atom empty y) = refl
without_value_blind r (atom empty x) (atom (text b) y) = refl
without_value_blind r (atom empty x) (atom empty y) = by_raw_blind r
without_value_blind r _ _ = refl

with_value_blind : (a : Atom) (p b : Parts) → with_value a (blind p) (blind b) ≡ with_value a p b
unfolding all_open
with_value_blind (units u) (atom empty x) (atom empty y) = refl
with_value_blind (flag b) (atom empty x) (atom empty y) = refl
with_value_blind (whole n) (atom empty x) (atom empty y) = refl
with_value_blind _ _ _ = refl

case_from_blind : (v r p b : Parts) → case_from (blind v) (blind r) (blind p) (blind b) ≡ case_from v r p b
unfolding all_open
case_from_blind (atom empty more) r p b = without_value_blind r p b
case_from_blind (atom (flag x) more) r p b = with_value_blind (flag x) p b
case_from_blind (atom (word x) more) r p b = with_value_blind (word x) p b
case_from_blind (atom (text x) more) r p b = with_value_blind (text x) p b
case_from_blind (atom (units x) more) r p b = with_value_blind (units x) p b
case_from_blind (atom (whole x) more) r p b = with_value_blind (whole x) p b
case_from_blind _ r p b = refl

pub case_of_blind : (fields : Parts) → case_of (blind fields) ≡ case_of fields
unfolding all_open
case_of_blind fields =
    ap₂ (λ v r. case_from v r (part (blind fields) 2) (part (blind fields) 4)) (part-blind fields 0) (part-blind fields 1)
    ∙ ap₂ (λ p b. case_from (blind (part fields 0)) (blind (part fields 1)) p b) (part-blind fields 2) (part-blind fields 4)
    ∙ case_from_blind (part fields 0) (part fields 1) (part fields 2) (part fields 4)

is_text_blind : (fields : Parts) → is_text (blind fields) ≡ is_text fields
unfolding is_text
is_text_blind fields = ap (λ c. elim c [ case.Text ↦ true | _ ↦ false ]) (case_of_blind fields)

is_key_blind : (fields : Parts) → is_key (blind fields) ≡ is_key fields
unfolding is_key
is_key_blind fields = ap (λ c. elim c [ case.Text ↦ true | case.Number ↦ true | case.OtherNumber ↦ true | case.BigInt ↦ true | _ ↦ false ]) (case_of_blind fields)

pub has_case_blind : (fields : Parts) → has_case (blind fields) ≡ has_case fields
unfolding has_case
has_case_blind fields = ap (λ c. elim c [ case.NoCase ↦ false | _ ↦ true ]) (case_of_blind fields)

-- ---- conditions on the node that stands there

is_named_blind : (k : Kind) (fields : Parts) → is_named k (hide k (blind fields)) ≡ is_named k fields
unfolding all_open
is_named_blind FunctionDeclaration fields = ap not (blank_at fields 0)
is_named_blind ClassDeclaration fields = ap not (blank_at fields 0)
is_named_blind _ fields = refl

is_var_alone_blind : (k : Kind) (fields : Parts) → is_var_alone k (hide k (blind fields)) ≡ is_var_alone k fields
unfolding all_open
is_var_alone_blind VariableDeclaration fields = ap (λ n. nat_eq n 0) (word_at fields 0)
is_var_alone_blind _ fields = refl

is_string_literal_blind : (k : Kind) (fields : Parts) → is_string_literal k (hide k (blind fields)) ≡ is_string_literal k fields
unfolding hide is_string_literal
is_string_literal_blind Literal fields = is_text_blind fields
is_string_literal_blind _ fields = refl

is_plain_key_blind : (k : Kind) (fields : Parts) → is_plain_key k (hide k (blind fields)) ≡ is_plain_key k fields
unfolding hide is_plain_key
is_plain_key_blind Identifier fields = refl
is_plain_key_blind Literal fields = is_key_blind fields
is_plain_key_blind _ fields = refl

admits_blind : (g : Group) (r : Role) (within : Parts) (k : Kind) (fields : Parts)
    → admits g r (blind within) k (hide k (blind fields)) ≡ admits g r within k fields
unfolding admits
admits_blind Statements r within k fields = ap (λ b. is_in k statements && b) (is_named_blind k fields)
admits_blind Bodies r within k fields = ap (λ b. is_in k bodies && b) (is_var_alone_blind k fields)
admits_blind (ModuleItems i) r within k fields =
    ap₂ (λ b n. is_in k statements && b || nat_eq n 1 && is_in k module_declarations) (is_named_blind k fields) (word_at within i)
admits_blind (LeftOperands i) r within k fields = ap (λ n. is_expression k || nat_eq n word_in && is_kind k PrivateIdentifier) (word_at within i)
admits_blind (Keys i) r within k fields = ap₂ (λ c b. if c then is_expression k else b) (flag_at within i) (is_plain_key_blind k fields)
admits_blind (MemberKeys i) r within k fields =
    ap₂ (λ c b. if c then is_expression k else b || is_kind k PrivateIdentifier) (flag_at within i) (is_plain_key_blind k fields)
admits_blind (Members i) r within k fields =
    ap (λ c. if c then is_expression k else is_in k (Identifier ∷ PrivateIdentifier ∷ [])) (flag_at within i)
admits_blind Names r within k fields = ap (λ b. is_kind k Identifier || b) (is_string_literal_blind k fields)
admits_blind Strings r within k fields = is_string_literal_blind k fields
admits_blind Locals r within k fields = ap (λ b. is_kind k Identifier || not (is_read r) && b) (is_string_literal_blind k fields)
admits_blind Declarations r within k fields =
    ap (λ b. is_in k (VariableDeclaration ∷ FunctionDeclaration ∷ ClassDeclaration ∷ []) && b) (is_named_blind k fields)
admits_blind _ r within k fields = refl

pub group_admits_blind : (c : FieldClass) (r : Role) (within : Parts) (k : Kind) (fields : Parts)
    → group_admits c r (blind within) k (hide k (blind fields)) ≡ group_admits c r within k fields
unfolding group_admits
group_admits_blind (One g) r within k fields = admits_blind g r within k fields
group_admits_blind (Maybe g) r within k fields = admits_blind g r within k fields
group_admits_blind (Many g) r within k fields = admits_blind g r within k fields
group_admits_blind (ManyOr g) r within k fields = admits_blind g r within k fields
group_admits_blind (Holes g) r within k fields = admits_blind g r within k fields
group_admits_blind _ r within k fields = refl
