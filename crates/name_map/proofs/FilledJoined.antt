-- Runs of parts, one before another: what they leave of what is given, and how they are filled.
use Rattle.std.proofs.Common.{◌≡◌, ℕ, suc, ◌+◌, Bool, true, false, List, drop, if◌then◌else◌, refl, sym, ap, ap₂, ◌∙◌, arith}
use Rattle.std.proofs.lemmas.List.{drop-drop}
use Rattle.name_map.specs.Filled.{Given, after, filled, given, inside, own_filled, properties}
use Rattle.tree_nodes.specs.Look.{onto}
use Rattle.tree_nodes.specs.Tree.{Parts, Text, atom, child, done, many}
use Rattle.tree_nodes.specs.declared.kind.Kind.{Kind}
use Rattle.tree_places.specs.Renaming.{is_property}
use Rattle.tree_rename.specs.Renamed.{count, has_name}

-- what a node and what follows it leave of a list: of its own it takes one, if it has one
skipped : {A : Type 0} (b : Bool) (n m : ℕ) (xs : List A) → drop m (drop n (if b then drop 1 xs else xs)) ≡ drop ((if b then suc n else n) + m) xs
skipped true n m xs =
    ap (drop m) (drop-drop n 1 xs ∙ (let same : 1 + n ≡ suc n = omega arith in ap (λ k. drop k xs) same)) ∙ drop-drop m (suc n) xs
skipped false n m xs = drop-drop m n xs

pub after_node : (k : Kind) (s e : ℕ) (fields more : Parts) (g : Given) → after more (after fields (inside k g)) ≡ after (child k s e fields more) g
unfolding count properties
after_node k s e fields more g =
    ap₂ given (skipped (has_name k) (count fields) (count more) g.names) (skipped (is_property k) (properties fields) (properties more) g.marks)

pub after_list : (items more : Parts) (g : Given) → after more (after items g) ≡ after (many items more) g
unfolding count properties
after_list items more g = ap₂ given (drop-drop (count more) (count items) g.names) (drop-drop (properties more) (properties items) g.marks)

pub after_onto : (p q : Parts) (g : Given) → after (onto p q) g ≡ after q (after p g)
unfolding count properties
after_onto done q g = refl
after_onto (atom a more) q g = after_onto more q g
after_onto (many items more) q g = sym (after_list items (onto more q) g) ∙ after_onto more q (after items g) ∙ ap (after q) (after_list items more g)
after_onto (child k s e fields more) q g =
    sym (after_node k s e fields (onto more q) g) ∙ after_onto more q (after fields (inside k g)) ∙ ap (after q) (after_node k s e fields more g)

pub filled_onto : (g : Given) (p q : Parts) → filled g (onto p q) ≡ onto (filled g p) (filled (after p g) q)
unfolding count filled properties
filled_onto g done q = refl
filled_onto g (atom a more) q = ap (atom a) (filled_onto g more q)
filled_onto g (many items more) q =
    ap (many (filled g items)) (filled_onto (after items g) more q ∙ ap (λ h. onto (filled (after items g) more) (filled h q)) (after_list items more g))
filled_onto g (child k s e fields more) q =
    ap (child k s e (own_filled k g (filled (inside k g) fields))) (filled_onto (after fields (inside k g)) more q
    ∙ ap (λ h. onto (filled (after fields (inside k g)) more) (filled h q)) (after_node k s e fields more g))

-- ---- the steps of the walk

-- a node of the walk: its fields, and what it leaves
pub node_made : (g h : Given) (k : Kind) (s e : ℕ) (old made new : Parts) → h ≡ inside k g
    → made ≡ filled h old → new ≡ own_filled k g made → child k s e new done ≡ filled g (child k s e old done)
unfolding filled
node_made g h k s e old made new within below own =
    ap (λ f. child k s e f done) (own ∙ ap (own_filled k g) (below ∙ ap (λ x. filled x old) within))

pub node_left : (g h left : Given) (k : Kind) (s e : ℕ) (old : Parts) → h ≡ inside k g → left ≡ after old h → left ≡ after (child k s e old done) g
unfolding count properties
node_left g h left k s e old within below = below ∙ ap (after old) within ∙ after_node k s e old done g

-- a list, as the one part of a run
pub list_made : (g : Given) (old new : Parts) → new ≡ filled g old → many new done ≡ filled g (many old done)
unfolding filled
list_made g old new e = ap (λ p. many p done) e

pub list_left : (g left : Given) (old : Parts) → left ≡ after old g → left ≡ after (many old done) g
unfolding count properties
list_left g left old e = e ∙ after_list old done g
