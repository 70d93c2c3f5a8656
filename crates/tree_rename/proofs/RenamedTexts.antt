-- A run's texts are those that a renaming keeps, and its names.
use Rattle.std.proofs.Common.{◌≡◌, ℕ, ◌≤◌, ◌<◌, ◌^◌, max, Bool, true, false, List, [], ◌∷◌, ◌++◌, if◌then◌else◌, refl, sym, ap, subst, arith}
use Rattle.std.specs.List.{AllByRecursion}
use Rattle.list_laws.proofs.AllOf.{AllOf_append}
use Rattle.tree_core.specs.LongestText.{longest_text}
use Rattle.tree_nodes.specs.Table.{row}
use Rattle.tree_nodes.specs.Tree.{Parts, Text, Tree, alone, atom, child, done, flag, many, text, text_of}
use Rattle.tree_nodes.specs.declared.kind.Kind.{Kind}
use Rattle.tree_nodes.specs.declared.kind.Kind.TheVariants.{Identifier, PrivateIdentifier, Property}
use Rattle.tree_places.specs.Places.{hide, is_place, names, unmarked, unnamed}
use Rattle.tree_places.specs.Renaming.{blind}
use Rattle.tree_rename.specs.Laws.{IsShort}
use Rattle.tree_rename.specs.Renamed.{has_name}
use Rattle.tree_rename.proofs.OwnFirst.{with_own}
use Rattle.tree_rename.proofs.RenamedNames.{place_kind}

-- ---- a renaming hides no text but names

longest_unmarked : (x : Parts) → longest_text (unmarked x) ≡ longest_text x
unfolding unmarked
longest_unmarked (atom kind (child k s e key (child k' s' e' value (atom method (atom (flag mark) more))))) = refl
longest_unmarked _ = refl

unnamed_most : (x : Parts) → longest_text (unnamed x) ≤ longest_text x
unfolding unnamed
unnamed_most (atom (text t) more) = omega arith
unnamed_most _ = omega arith

hide_most : (k : Kind) (x : Parts) → longest_text (hide k x) ≤ longest_text x
unfolding hide
hide_most Identifier x = unnamed_most x
hide_most PrivateIdentifier x = unnamed_most x
hide_most Property x = omega (arith, longest_unmarked x)
hide_most _ x = omega arith

blind_most : (x : Parts) → longest_text (blind x) ≤ longest_text x
unfolding blind
blind_most done = omega arith
blind_most (atom a more) = omega (arith, blind_most more)
blind_most (many items more) = omega (arith, blind_most items, blind_most more)
blind_most (child k s e fields more) = omega (arith, hide_most k (blind fields), blind_most fields, blind_most more)

-- ---- the names are short where all texts are

own_short : (x : Parts) → longest_text x < 2 ^ 32 → IsShort (text_of x)
own_short (atom (text t) more) h = omega (arith, h)
own_short _ h = omega arith

pub names_short : (p : Parts) → longest_text p < 2 ^ 32 → AllByRecursion IsShort (names p)
unfolding names
names_short done h = tt
names_short (atom a more) h = names_short more (omega (arith, h))
names_short (many items more) h = AllOf_append IsShort (names items) (names more) (names_short items (omega (arith, h))) (names_short more (omega (arith, h)))
names_short (child k s e fields more) h =
    let low : longest_text fields < 2 ^ 32 = omega (arith, h) in
    AllOf_append IsShort (if is_place (row k).opens then text_of fields ∷ names fields else names fields) (names more)
    (own (is_place (row k).opens) (own_short fields low) (names_short fields low)) (names_short more (omega (arith, h)))
  where
    own : (b : Bool) → IsShort (text_of fields) → AllByRecursion IsShort (names fields) → AllByRecursion IsShort (if b then text_of fields ∷ names fields else names fields)
    own true t ns = (t, ns)
    own false t ns = ns

-- ---- all texts are short where the names are, and the texts that are kept

text_blind : (x : Parts) → text_of (blind x) ≡ text_of x
unfolding blind
text_blind (atom (text t) more) = refl
text_blind _ = refl

unnamed_back : (x : Parts) → longest_text (unnamed x) < 2 ^ 32 → IsShort (text_of x) → longest_text x < 2 ^ 32
unfolding unnamed
unnamed_back (atom (text t) more) h s = omega (arith, h, s)
unnamed_back _ h s = h

hide_back : (k : Kind) (x : Parts) → longest_text (hide k x) < 2 ^ 32 → (has_name k ≡ true → IsShort (text_of x)) → longest_text x < 2 ^ 32
unfolding hide has_name
hide_back Identifier x h s = unnamed_back x h (s refl)
hide_back PrivateIdentifier x h s = unnamed_back x h (s refl)
hide_back Property x h s = subst (λ (n : ℕ). n < 2 ^ 32) (longest_unmarked x) h
hide_back _ x h s = h

short_parts : (xs ys : List Text) → AllByRecursion IsShort (xs ++ ys) → AllByRecursion IsShort xs × AllByRecursion IsShort ys
short_parts [] ys a = (tt, a)
short_parts (x ∷ xs) ys a = let rest = short_parts xs ys a.1 in ((a.0, rest.0), rest.1)

own_parts : (b : Bool) (fields : Parts) → AllByRecursion IsShort (with_own text_of names b fields)
    → (b ≡ true → IsShort (text_of fields)) × AllByRecursion IsShort (names fields)
own_parts true fields a = (λ e. a.0, a.1)
own_parts false fields a = (λ e. absurd (cc), a)

short_by_names : (p : Parts) → longest_text (blind p) < 2 ^ 32 → AllByRecursion IsShort (names p) → longest_text p < 2 ^ 32
unfolding blind names
short_by_names done h a = omega arith
short_by_names (atom x more) h a = omega (arith, h, short_by_names more (omega (arith, h)) a)
short_by_names (many items more) h a =
    let parts = short_parts (names items) (names more) a in
    let first : longest_text items < 2 ^ 32 = short_by_names items (omega (arith, h)) parts.0 in
    let rest : longest_text more < 2 ^ 32 = short_by_names more (omega (arith, h)) parts.1 in
    omega (arith, first, rest)
short_by_names (child k s e fields more) h a =
    let parts = short_parts (with_own text_of names (has_name k) fields) (names more) (subst (λ (b : Bool). AllByRecursion IsShort (with_own text_of names b fields ++ names more)) (place_kind k) a) in
    let own = own_parts (has_name k) fields parts.0 in
    let kept : longest_text (blind fields) < 2 ^ 32 = hide_back k (blind fields) (omega (arith, h)) (λ n. subst IsShort (sym (text_blind fields)) (own.0 n)) in
    let first : longest_text fields < 2 ^ 32 = short_by_names fields kept own.1 in
    let rest : longest_text more < 2 ^ 32 = short_by_names more (omega (arith, h)) parts.1 in
    omega (arith, first, rest)

pub renamed_texts : (u t : Tree) → blind (alone u) ≡ blind (alone t) → longest_text t.fields < 2 ^ 32 → AllByRecursion IsShort (names (alone u)) → longest_text u.fields < 2 ^ 32
renamed_texts u t e h a =
    let kept : longest_text (blind (alone t)) ≤ max (longest_text t.fields) 0 = blind_most (alone t) in
    let same : longest_text (blind (alone u)) ≡ longest_text (blind (alone t)) = ap longest_text e in
    let all : max (longest_text u.fields) 0 < 2 ^ 32 = short_by_names (alone u) (omega (arith, kept, same, h)) a in
    omega (arith, all)
