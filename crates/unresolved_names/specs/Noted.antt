-- What the name of one place adds to the unresolved names.
use Rattle.std.specs.Prelude.{Bool, ◌&&◌, List}
use Rattle.scope_rules.specs.Bindings.{same_name}
use Rattle.scope_rules.specs.References.{is_unresolved}
use Rattle.tree_nodes.specs.Tree.{Text}
use Rattle.tree_places.specs.Places.{Place}

-- x is the name y of a place, and is unresolved
unfoldable pub is_noted : List Place → Text → Text → Bool
is_noted ps x y = is_unresolved same_name ps y && same_name x y
