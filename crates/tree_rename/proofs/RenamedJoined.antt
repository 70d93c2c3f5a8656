-- Runs of parts, one before another: how many places they have, and how they are renamed.
use Rattle.std.proofs.Common.{◌≡◌, ℕ, suc, ◌+◌, List, Bool, true, false, Option, drop, if◌then◌else◌, refl, sym, ap, ◌∙◌, arith}
use Rattle.std.proofs.lemmas.List.{drop-drop}
use Rattle.tree_nodes.specs.Look.{onto}
use Rattle.tree_nodes.specs.Tree.{Parts, Text, atom, child, done, many}
use Rattle.tree_nodes.specs.declared.kind.Kind.{Kind}
use Rattle.tree_rename.specs.Renamed.{after, count, finished, has_name, inner, renamed}

add_assoc : (a b c d : ℕ) → b ≡ c + d → a + b ≡ (a + c) + d
add_assoc a b c d e = omega arith

pub count_onto : (p q : Parts) → count (onto p q) ≡ count p + count q
unfolding count
count_onto done q = omega arith
count_onto (atom a more) q = count_onto more q
count_onto (many items more) q = add_assoc (count items) _ (count more) (count q) (count_onto more q)
count_onto (child k s e fields more) q = add_assoc (if has_name k then suc (count fields) else count fields) _ (count more) (count q) (count_onto more q)

-- the choices past a run and past one more
pub drop_both : (p q : ℕ) (cs : List (Option ℕ)) → drop (p + q) cs ≡ drop q (drop p cs)
drop_both p q cs = sym (drop-drop q p cs)

pub inner_drop : (k : Kind) (n : ℕ) (cs : List (Option ℕ)) → drop n (inner k cs) ≡ drop (if has_name k then suc n else n) cs
unfolding inner
inner_drop k n cs = by_test (has_name k)
  where
    by_test : (b : Bool) → drop n (if b then drop 1 cs else cs) ≡ drop (if b then suc n else n) cs
    by_test true = drop-drop n 1 cs ∙ (let same : 1 + n ≡ suc n = omega arith in ap (λ m. drop m cs) same)
    by_test false = refl

-- what a run leaves of the choices, node by node
left_after : (k : Kind) (fields more : Parts) (cs : List (Option ℕ)) → drop (count more) (after k fields cs) ≡ drop ((if has_name k then suc (count fields) else count fields) + count more) cs
unfolding after
left_after k fields more cs = ap (drop (count more)) (inner_drop k (count fields) cs) ∙ drop-drop (count more) _ cs

pub renamed_onto : (given : List Text) (cs : List (Option ℕ)) (p q : Parts)
    → renamed given cs (onto p q) ≡ onto (renamed given cs p) (renamed given (drop (count p) cs) q)
unfolding count renamed
renamed_onto given cs done q = refl
renamed_onto given cs (atom a more) q = ap (atom a) (renamed_onto given cs more q)
renamed_onto given cs (many items more) q =
    ap (many (renamed given cs items)) (renamed_onto given (drop (count items) cs) more q
    ∙ ap (λ ds. onto (renamed given (drop (count items) cs) more) (renamed given ds q)) (drop-drop (count more) (count items) cs))
renamed_onto given cs (child k s e fields more) q =
    ap (child k s e (finished k given cs (renamed given (inner k cs) fields))) (renamed_onto given (after k fields cs) more q
    ∙ ap (λ ds. onto (renamed given (after k fields cs) more) (renamed given ds q)) (left_after k fields more cs))

-- a node of the walk: its fields, and what it leaves of the choices
pub node_made : (given : List Text) (cs ds : List (Option ℕ)) (k : Kind) (s e : ℕ) (old made new : Parts) → ds ≡ inner k cs
    → made ≡ renamed given ds old → new ≡ finished k given cs made → child k s e new done ≡ renamed given cs (child k s e old done)
unfolding renamed
node_made given cs ds k s e old made new inside below own =
    ap (λ f. child k s e f done) (own ∙ ap (finished k given cs) (below ∙ ap (λ d. renamed given d old) inside))

plus_zero : (n : ℕ) → n ≡ n + 0
plus_zero n = omega arith

pub node_left : (cs ds left : List (Option ℕ)) (k : Kind) (s e : ℕ) (old : Parts) → ds ≡ inner k cs
    → left ≡ drop (count old) ds → left ≡ drop (count (child k s e old done)) cs
unfolding count
node_left cs ds left k s e old inside below =
    below ∙ ap (drop (count old)) inside ∙ inner_drop k (count old) cs ∙ ap (λ n. drop n cs) (plus_zero (if has_name k then suc (count old) else count old))

-- a list, as the one part of a run
pub list_made : (given : List Text) (cs : List (Option ℕ)) (old new : Parts) → new ≡ renamed given cs old
    → many new done ≡ renamed given cs (many old done)
unfolding renamed
list_made given cs old new e = ap (λ p. many p done) e

pub list_left : (cs left : List (Option ℕ)) (old : Parts) → left ≡ drop (count old) cs → left ≡ drop (count (many old done)) cs
unfolding count
list_left cs left old e = e ∙ ap (λ n. drop n cs) (plus_zero (count old))
