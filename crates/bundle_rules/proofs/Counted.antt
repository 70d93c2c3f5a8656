-- The walk counts all nodes, so that a tree renamed has as many.
use Rattle.std.proofs.Common.{◌≡◌, ℕ, suc, ◌+◌, refl, sym, ap, ◌∙◌, arith}
use Rattle.tree_nodes.specs.Along.{Along, all, each, first_column, other_columns}
use Rattle.tree_nodes.specs.NodeCount.{nodes_in}
use Rattle.tree_nodes.specs.Table.{row, unlisted}
use Rattle.tree_nodes.specs.Tree.{Parts, atom, child, done, many}
use Rattle.tree_nodes.specs.declared.table.Opens.{Opens}
use Rattle.tree_nodes.specs.declared.table.Opens.TheVariants.{BareBlock, Block, ClassMembers, Hoisting, NameHere, Nothing, PrivateNameHere, WithBody}
use Rattle.tree_places.proofs.Blind.{seen-blind}
use Rattle.tree_places.specs.Open.{all_open}
use Rattle.tree_places.specs.Places.{Around, Seen, Setting, at_field, before_all, enter, hide, met, nothing_yet, seen, walk}
use Rattle.tree_places.specs.Renaming.{IsRenamed}
use Rattle.tree_places.specs.Scopes.{Scope}

met_nodes : (o : Opens) (b : ℕ) (e : Setting) (inner : Scope) (s : Seen) → (met o b e inner s).nodes ≡ suc s.nodes
unfolding all_open
met_nodes Nothing b e inner s = refl
met_nodes Block b e inner s = refl
met_nodes BareBlock b e inner s = refl
met_nodes WithBody b e inner s = refl
met_nodes Hoisting b e inner s = refl
met_nodes ClassMembers b e inner s = refl
met_nodes NameHere b e inner s = refl
met_nodes PrivateNameHere b e inner s = refl

pub walk_nodes : (x : Parts) (columns : Along) (a : Around) (s : Seen) → (walk x columns a s).nodes ≡ nodes_in x + s.nodes
unfolding all_open
walk_nodes done columns a s = omega arith
walk_nodes (atom v more) columns a s = walk_nodes more (other_columns columns) a s
walk_nodes (many items more) columns a s =
    let s₁ : Seen = walk items (all (first_column columns)) a s in
    omega (arith, walk_nodes items (all (first_column columns)) a s, walk_nodes more (other_columns columns) a s₁)
walk_nodes (child k b e fields more) columns a s =
    let here : Setting = at_field (first_column columns) a in
    let around : Around = enter (row k) (hide k fields) here s in
    let s₁ : Seen = met (row k).opens b here around.inside.scope s in
    let s₂ : Seen = walk fields (each (row k).columns) around s₁ in
    omega (arith, met_nodes (row k).opens b here around.inside.scope s, walk_nodes fields (each (row k).columns) around s₁, walk_nodes more (other_columns columns) a s₂)

seen_nodes : (t : Parts) → (seen t).nodes ≡ nodes_in t
unfolding all_open
seen_nodes t = let e = walk_nodes t (all unlisted) before_all nothing_yet in omega (arith, e)

pub seen_renamed : (t u : Parts) → IsRenamed t u → seen u ≡ seen t
seen_renamed t u r = sym (seen-blind u) ∙ ap seen r.alike ∙ seen-blind t

pub nodes_renamed : (t u : Parts) → IsRenamed t u → nodes_in u ≡ nodes_in t
nodes_renamed t u r = sym (seen_nodes u) ∙ ap (λ (s : Seen). s.nodes) (seen_renamed t u r) ∙ seen_nodes t
