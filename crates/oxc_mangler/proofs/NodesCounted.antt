-- The nodes of a tree are as many as it has.
use Rattle.std.specs.Prelude.{◌≡◌, ℕ, ◌+◌, List, ◌++◌, length, map, slice_get, IfSome}
use Rattle.std.proofs.Common.{refl, subst, ◌∙◌, arith}
use Rattle.std.proofs.lemmas.List.{length-append, length-map}
use Rattle.place_list.specs.Nodes.{NodeAt, nested, nested_nodes, nodes, nodes_from}
use Rattle.place_list.specs.ScopeKinds.{value_scope}
use Rattle.place_list.specs.declared.setting.ScopeKind.{ScopeKind}
use Rattle.place_list.specs.declared.setting.ScopeKind.TheVariants.{Function}
use Rattle.tree_nodes.specs.Along.{Along, all, each, first_column, other_columns}
use Rattle.tree_nodes.specs.NodeCount.{nodes_in}
use Rattle.tree_nodes.specs.Table.{row, unlisted}
use Rattle.tree_nodes.specs.Tree.{Parts, Tree, alone, atom, child, done, many}
use Rattle.tree_places.specs.Places.{Around, Seen, at_field, before_all, enter, hide, met, nothing_yet, walk}
use Rattle.tree_semantic.specs.Nodes.{NodeTold, told}

counted_from : (x : Parts) (columns : Along) (a : Around) (v : ScopeKind) (s : Seen) → length (nodes_from x columns a v s) ≡ nodes_in x
unfolding nodes_from
counted_from done columns a v s = refl
counted_from (atom y more) columns a v s = counted_from more (other_columns columns) a v s
counted_from (many items more) columns a v s =
    let xs : List NodeAt = nodes_from items (all (first_column columns)) a v s in
    let ys : List NodeAt = nodes_from more (other_columns columns) a v (walk items (all (first_column columns)) a s) in
    let h : length xs ≡ nodes_in items = counted_from items (all (first_column columns)) a v s in
    let k : length ys ≡ nodes_in more = counted_from more (other_columns columns) a v (walk items (all (first_column columns)) a s) in
    let l : length (xs ++ ys) ≡ length xs + length ys = length-append xs ys in
    omega (arith, h, k, l)
counted_from (child c b e fields more) columns a v s =
    let around : Around = enter (row c) (hide c fields) (at_field (first_column columns) a) s in
    let now : Seen = met (row c).opens b (at_field (first_column columns) a) around.inside.scope s in
    let xs : List NodeAt = nodes_from fields (each (row c).columns) around (value_scope c fields) now in
    let ys : List NodeAt = nodes_from more (other_columns columns) a v (walk fields (each (row c).columns) around now) in
    let h : length xs ≡ nodes_in fields = counted_from fields (each (row c).columns) around (value_scope c fields) now in
    let k : length ys ≡ nodes_in more = counted_from more (other_columns columns) a v (walk fields (each (row c).columns) around now) in
    let l : length (xs ++ ys) ≡ length xs + length ys = length-append xs ys in
    omega (arith, h, k, l)

pub nodes_counted : (t : Parts) → length (nested_nodes t) ≡ nodes_in t
unfolding nested_nodes nodes
nodes_counted t = length-map (nodes_from t (all unlisted) before_all Function nothing_yet) nested ∙ counted_from t (all unlisted) before_all Function nothing_yet

-- the first is the root
pub root_is : (t : Tree) (ns : List NodeTold) → ns ≡ map told (nested_nodes (alone t)) → (k : ℕ) → k ≡ 0 → (r : Tree) → IfSome (slice_get ns k) (λ n. r ≡ n.tree) → r ≡ t
unfolding nested_nodes nodes nodes_from nested told
root_is t ns e k z r h =
    subst (λ (j : ℕ). IfSome (slice_get (map told (nested_nodes (alone t))) j) (λ n. r ≡ n.tree)) z
    (subst (λ (ms : List NodeTold). IfSome (slice_get ms k) (λ n. r ≡ n.tree)) e h)
