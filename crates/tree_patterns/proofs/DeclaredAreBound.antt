-- Bound names by roles: which role declares makes no difference.
use Rattle.std.proofs.Common.{◌≡◌, Bool, true, false, not, ◌&&◌, List, [], ◌∷◌, ◌++◌, if◌then◌else◌, refl, ap, ap₂, ◌∙◌}
use Rattle.std.proofs.lemmas.Bool.{and_parts}
use Rattle.std.proofs.lemmas.List.Elements.{All-append, All-cons, All-nil}
use Rattle.std.specs.Prelude.{All}
use Rattle.tree_nodes.specs.Along.{Along, all, each, first_column, other_columns}
use Rattle.tree_nodes.specs.Kinds.{is_kind}
use Rattle.tree_nodes.specs.Roles.{role_at}
use Rattle.tree_nodes.specs.Standing.{declares_role}
use Rattle.tree_nodes.specs.Table.{row}
use Rattle.tree_nodes.specs.Tree.{Parts, Tree, alone, atom, child, done, many}
use Rattle.tree_nodes.specs.declared.kind.Kind.TheVariants.{Identifier}
use Rattle.tree_nodes.specs.declared.table.Declared.{Declared}
use Rattle.tree_nodes.specs.declared.table.Mode.{Mode}
use Rattle.tree_nodes.specs.declared.table.Mode.TheVariants.{ByKind, ByOperator, Gives, Leaves, NamesExpression, NamesFunction, Same, UnlessComputed, UnlessOptional, UnlessSource}
use Rattle.tree_nodes.specs.declared.table.Role.{Role}
use Rattle.tree_nodes.specs.declared.table.Role.TheVariants.{Called, Declares, MemberKey, Plain, Read, ReadWrite, Write}
use Rattle.tree_patterns.specs.BoundNames.{BoundNamesAreIdentifiers, bound, declares, declaring, hands_on}
use Rattle.tree_patterns.specs.ByRoles.{BoundNamesAreDeclared, declared}
use Rattle.tree_nodes.proofs.EachKind.{kind_told}
use Rattle.tree_patterns.proofs.BoundAlong.{if_so}

-- a field gives a declaring role in a node of the one declaring role where it does so in a node of the other
same_answer : (m : Mode) (d : Declared) (within : Parts) → declares_role (role_at m (Declares d) within) ≡ declares_role (role_at m declaring within)
unfolding declares_role role_at
same_answer (Gives r) d within = refl
same_answer Same d within = refl
same_answer Leaves d within = refl
same_answer (UnlessComputed i r) d within = refl
same_answer (ByKind i) d within = refl
same_answer (UnlessOptional i) d within = refl
same_answer (ByOperator i) d within = refl
same_answer (UnlessSource i) d within = refl
same_answer (NamesFunction i j) d within = refl
same_answer (NamesExpression i j) d within = refl

if_declares : {A : Type 0} (r : Role) → declares_role r ≡ true → ((d : Declared) → r ≡ Declares d → A) → A
unfolding declares_role
if_declares (Declares d) e f = f d refl
if_declares Plain e f = absurd (cc)
if_declares MemberKey e f = absurd (cc)
if_declares Read e f = absurd (cc)
if_declares Write e f = absurd (cc)
if_declares ReadWrite e f = absurd (cc)
if_declares Called e f = absurd (cc)

by_test : (a b : Bool) (xs ys : List Tree) → a ≡ b → (a ≡ true → xs ≡ ys) → if_so a xs ≡ if_so b ys
by_test true b xs ys e h = h refl ∙ ap (λ c. if_so c ys) e
by_test false b xs ys e h = ap (λ c. if_so c ys) e

walk : (ps : Parts) (cs : Along) (d : Declared) (within : Parts) → declared ps cs (Declares d) within ≡ bound ps cs within
unfolding bound declared declares
walk done cs d within = refl
walk (atom a more) cs d within = walk more (other_columns cs) d within
walk (many items more) cs d within = ap₂ (λ x y. x ++ y) (walk items (all (first_column cs)) d within) (walk more (other_columns cs) d within)
walk (child k s e fields more) cs d within =
    let c = first_column cs in
    let r = role_at c.mode (Declares d) within in
    let t : Tree = record { kind = k; start = s; stop = e; fields = fields } in
    let below = each (row k).columns in
    let inside : declares_role r ≡ true → declared fields below r fields ≡ bound fields below fields =
    λ so. if_declares r so (λ f is. rw is (walk fields below f fields)) in
    let here = by_test (not c.inside && declares_role r) (not c.inside && declares_role (role_at c.mode declaring within))
    (if is_kind k Identifier then t ∷ [] else declared fields below r fields) (if is_kind k Identifier then t ∷ [] else bound fields below fields)
    (ap (λ b. not c.inside && b) (same_answer c.mode d within))
    (λ so. ap (λ xs. if is_kind k Identifier then t ∷ [] else xs) (inside (and_parts (not c.inside) (declares_role r) so).1)) in
    ap₂ (λ x y. x ++ y) here (walk more (other_columns cs) d within)

pub bound_names_are_declared : BoundNamesAreDeclared
bound_names_are_declared t d = walk (alone t) (all hands_on) d done

-- ---- each bound name is an Identifier

abbrev Identifies : Tree → Type 0
Identifies t = t.kind ≡ Identifier

abbrev AreIdentifiers : List Tree → Type 0
AreIdentifiers names = All Identifies names

one_of : (a b : Bool) (t : Tree) (names : List Tree) → (b ≡ true → t.kind ≡ Identifier) → AreIdentifiers names → AreIdentifiers (if_so a (if b then t ∷ [] else names))
one_of false b t names here below = All-nil Identifies
one_of true true t names here below = All-cons Identifies t [] (here refl) (All-nil Identifies)
one_of true false t names here below = below

each_found : (ps : Parts) (cs : Along) (within : Parts) → AreIdentifiers (bound ps cs within)
unfolding bound is_kind
each_found done cs within = All-nil Identifies
each_found (atom a more) cs within = each_found more (other_columns cs) within
each_found (many items more) cs within = All-append Identifies _ _ (each_found items (all (first_column cs)) within) (each_found more (other_columns cs) within)
each_found (child k s e fields more) cs within =
    All-append Identifies _ _
    (one_of (declares declaring (first_column cs) within) (is_kind k Identifier) (record { kind = k; start = s; stop = e; fields = fields }) (bound fields (each (row k).columns) fields) (kind_told k Identifier) (each_found fields (each (row k).columns) fields))
    (each_found more (other_columns cs) within)

pub bound_names_are_identifiers : BoundNamesAreIdentifiers
bound_names_are_identifiers t = each_found (alone t) (all hands_on) done
