-- The new names of places.
use Rattle.std.specs.Prelude.{List, Option, Some, None, option_map}
use Rattle.name_rules.specs.ChosenNames.{place_number}
use Rattle.name_rules.specs.ShortNames.{short}
use Rattle.tree_nodes.specs.Tree.{Text}
use Rattle.tree_places.specs.Places.{Place}

-- the name that it changes to, if it changes
unfoldable pub changed_name : List Place → Place → Option Text
changed_name ps p = option_map short (place_number ps p)

-- a name, or the old one where it stays
unfoldable pub name_or : Text → Option Text → Text
name_or old None = old
name_or old (Some new) = new
