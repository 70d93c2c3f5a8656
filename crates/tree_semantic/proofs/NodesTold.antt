-- What is told of the nodes of a list.
use Rattle.std.specs.Prelude.{◌≡◌, ◌<◌, ℕ, List, length, map, get_or, slice_get, Option, Some, None, IfSome}
use Rattle.std.proofs.Common.{refl, sym, ap, ◌∙◌, subst, arith}
use Rattle.std.proofs.lemmas.List.{length-map}
use Rattle.std.proofs.lemmas.Simd.{map-map}
use Rattle.place_list.proofs.OutwardWalks.{line_form}
use Rattle.place_list.proofs.PlacesStand.{mapped_at, read_at}
use Rattle.place_list.specs.TableViews.{lists_in, nested_node_in, nested_nodes_in, node_view, scope_at, scope_parents}
use Rattle.place_list.specs.Tables.{list_at, nested_node_of}
use Rattle.place_list.specs.declared.tables.NodeEntry.{NodeEntry}
use Rattle.place_list.specs.declared.tables.PlaceList.{PlaceList}
use Rattle.place_list.specs.declared.tables.ScopeEntry.{ScopeEntry}
use Rattle.scope_rules.specs.Symbols.{own_number}
use Rattle.syntax_sem.specs.NodeId as node_id
use Rattle.syntax_sem.specs.ScopeId as scope_id
use Rattle.tree_nodes.specs.Tree.{Tree}
use Rattle.tree_semantic.specs.Nodes.{NodeTold, node_told, nodes_in, told}
use Rattle.tree_semantic.specs.declared.nodes.AstNode.{AstNode}
use Rattle.tree_semantic.specs.declared.nodes.AstNodes.{AstNodes}
use Rattle.tree_symbols.specs.ReferenceTables.{or_root}

-- the number of a scope of a list, and the root's outside
pub scope_told : (l : PlaceList) (n : ℕ) → n < length l.scopes.items → n ≡ or_root (own_number (scope_at l (Some n)))
unfolding own_number or_root
scope_told l n h =
    let many : length (scope_parents l) ≡ length l.scopes.items = length-map l.scopes.items (λ (e : ScopeEntry). e.parent) in
    let line = line_form (scope_parents l) n (omega (arith, many, h)) in
    ap (λ (s : List ℕ). or_root (own_number s)) (sym line.1)

pub outside_told : (l : PlaceList) → 0 ≡ or_root (own_number (scope_at l None))
unfolding list_at own_number or_root
outside_told l = refl

pub all_told : (l : PlaceList) → map (λ (e : NodeEntry). told (nested_node_in l e)) l.node_entries.items ≡ map told (nested_nodes_in l)
all_told l =
    sym (map-map told (λ (e : NodeEntry). nested_node_in l e) l.node_entries.items)
    ∙ ap (map told) (sym (map-map (nested_node_of (lists_in l)) node_view l.node_entries.items))

-- what is read of a node
pub node_read : (a : AstNodes) (P : NodeTold → Type 0) (i j : ℕ) (x : AstNode) → i ≡ j → i < length a.nodes.items → x ≡ get_or a.nodes.items i x → P (node_told x) → IfSome (slice_get (nodes_in a) j) P
node_read a P i j x e h r p =
    subst (λ (k : ℕ). IfSome (slice_get (nodes_in a) k) P) e
    (subst (λ (o : Option NodeTold). IfSome o P) (sym (mapped_at node_told a.nodes.items i x (read_at a.nodes.items i x h r))) p)

abbrev told_as : Tree → ℕ → ℕ → NodeTold
told_as t p s = record { tree = t; parent = p; scope = s }

-- a node that is read off an entry
pub node_is : (l : PlaceList) (e : NodeEntry) (n : AstNode) → n.node.now ≡ e.node.now → node_id.number_of n.parent ≡ e.parent → scope_id.number_of n.scope ≡ or_root (own_number (scope_at l e.scope)) → node_told n ≡ told (nested_node_in l e)
unfolding node_told told nested_node_of
node_is l e n tree parent scope =
    ap (λ (t : Tree). told_as t (node_id.number_of n.parent) (scope_id.number_of n.scope)) tree ∙ ap (λ (p : ℕ). told_as e.node.now p (scope_id.number_of n.scope)) parent
    ∙ ap (told_as e.node.now e.parent) scope
