-- The class body around each class body: in a tree, and as its nodes in printing order tell it.
use Rattle.std.specs.Prelude.{ℕ, Bool, List, [], ◌∷◌, ◌++◌, filter, map, length, get_or, Option, Some, None, if◌then◌else◌}
use Rattle.place_list.specs.Nodes.{NodeAt, nodes}
use Rattle.scope_rules.specs.Symbols.{own_number}
use Rattle.tree_nodes.specs.Table.{row}
use Rattle.tree_nodes.specs.Tree.{Parts, Tree}
use Rattle.tree_places.specs.Enclosing.{is_class_body}
use Rattle.tree_semantic.specs.Nodes.{NodeTold}
use Rattle.tree_semantic.specs.declared.around.BodiesAround.{BodiesAround}

unfoldable pub is_body : Tree → Bool
is_body t = is_class_body (row t.kind).opens

-- ---- in a tree

unfoldable pub body_is_at : NodeAt → Bool
body_is_at n = is_body n.tree

-- the innermost of the class bodies around a node
unfoldable pub class_around : NodeAt → Option ℕ
class_around n = own_number n.outside.classes

-- by the number of the class body
unfoldable pub outer_classes : Parts → List (Option ℕ)
outer_classes t = map class_around (filter body_is_at (nodes t))

-- ---- by its nodes in turn

-- by the number of a node, the class body in which that lies which lies in the node; and by the number of a class body, the one around it
pub record Found : Type 0 where
  pub inside : List (Option ℕ)
  pub parents : List (Option ℕ)

-- with a node more, which is a class body or isn't, in the node of this number
unfoldable pub with_node : Found → Bool → ℕ → Found
with_node f body parent =
    let around : Option ℕ = get_or f.inside parent None in
    if body
    then record { inside = f.inside ++ Some (length f.parents) ∷ []; parents = f.parents ++ around ∷ [] }
    else record { inside = f.inside ++ around ∷ []; parents = f.parents }

unfoldable pub with_told : Found → NodeTold → Found
with_told f n = with_node f (is_body n.tree) n.parent

unfoldable pub found_after : Found → List NodeTold → Found
found_after f [] = f
found_after f (n ∷ ns) = found_after (with_told f n) ns

unfoldable pub nothing_found : Found
nothing_found = record { inside = []; parents = [] }

unfoldable pub parents_told : List NodeTold → List (Option ℕ)
parents_told ns = (found_after nothing_found ns).parents

abbrev pub found_of : BodiesAround → Found
found_of b = record { inside = b.inside.items; parents = b.parents.items }
