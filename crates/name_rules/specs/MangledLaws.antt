-- The laws on mangled trees.
use Rattle.std.specs.Prelude.{◌≡◌, IsFalse}
use Rattle.name_rules.specs.Mangled.{IsMangled}
use Rattle.name_rules.specs.Options.{Options}
use Rattle.name_rules.specs.PrivateNumbers.{new_names}
use Rattle.tree_places.specs.Laws.{IsRooted}
use Rattle.tree_nodes.specs.Tree.{Parts}
use Rattle.tree_places.specs.Places.{names, places}
use Rattle.tree_places.specs.Renaming.{IsRenamed}
use Rattle.scope_rules.specs.Bindings.{same_name}
use Rattle.scope_rules.specs.Faults.{has_fault, has_undeclared}

-- u is t renamed by the new names of all its places
pub record HasNewNames (o : Options) (t u : Parts) : Type 0 where
  pub rooted : IsRooted t
  pub renamed : IsRenamed t u
  pub names : names u ≡ new_names o t

-- where each private name has a binding, such a tree is mangled
abbrev pub NewNamesMangle : Type 0
NewNamesMangle = (o : Options) (t u : Parts) → HasNewNames o t u → IsFalse (has_undeclared same_name (places t)) → IsMangled t o u

-- where a tree has no fault, it has none under its new names
abbrev pub NewNamesAreSound : Type 0
NewNamesAreSound = (o : Options) (t u : Parts) → HasNewNames o t u → IsFalse (has_fault same_name (places t)) → IsFalse (has_fault same_name (places u))
