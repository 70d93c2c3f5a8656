-- The law that no rival uses fewer names.
use Rattle.std.specs.Prelude.{◌≤◌, length, IsTrue}
use Rattle.name_rules.specs.Groups.{greatest_width, members}
use Rattle.name_rules.specs.Mangled.{IsRival, changes, names_where}
use Rattle.name_rules.specs.Options.{Options}
use Rattle.tree_nodes.specs.Tree.{Parts}
use Rattle.tree_places.specs.Places.{places, sites}
use Rattle.scope_rules.specs.PrivateNames.{distinct}
use Rattle.scope_rules.specs.Separation.{function_names_apart}

-- in each rival w of t, the bindings that aren't kept in t have at least as many different names as groups of t are ever live at once
abbrev pub NoRivalUsesFewer : Type 0
NoRivalUsesFewer = (t : Parts) (o : Options) (w : Parts) → IsTrue (function_names_apart (sites t)) → IsRival t o w
    → greatest_width o t ≤ length (distinct (names_where changes (members o t) (places w)))
