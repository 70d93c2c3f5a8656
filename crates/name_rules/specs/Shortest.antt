-- The law that no choice of names is shorter than the given names.
use Rattle.std.specs.Prelude.{◌≡◌, ◌≤◌, List, map, IsTrue, IsFalse}
use Rattle.std.specs.List.{Contains}
use Rattle.name_rules.specs.FreeNames.{is_free}
use Rattle.name_rules.specs.Groups.{members}
use Rattle.name_rules.specs.Mangled.{changes, cost, names_where}
use Rattle.name_rules.specs.MangledLaws.{HasNewNames}
use Rattle.name_rules.specs.Options.{Options}
use Rattle.tree_nodes.specs.Tree.{Parts, Text}
use Rattle.tree_places.specs.Places.{places}

-- the names in u of the places of bindings that aren't kept in t
abbrev pub changed_names : Options → Parts → Parts → List Text
changed_names o t u = names_where changes (members o t) (places u)

-- g chooses another name for each of these: different ones for different ones, and free ones
pub record IsChoice (o : Options) (t u : Parts) (g : Text → Text) : Type 0 where
  pub one_to_one : (x y : Text) → Contains (changed_names o t u) x → Contains (changed_names o t u) y → g x ≡ g y → x ≡ y
  pub free : (x : Text) → Contains (changed_names o t u) x → IsTrue (is_free o (members o t) (g x))

-- where u is t under its new names, not readable ones, and w has the chosen names in their places, the references to bindings that aren't kept are in sum no shorter in w
abbrev pub NoChoiceIsShorter : Type 0
NoChoiceIsShorter = (o : Options) (t u w : Parts) (g : Text → Text) → IsFalse o.readable → HasNewNames o t u → IsChoice o t u g
    → changed_names o t w ≡ map g (changed_names o t u) → cost o t u ≤ cost o t w
