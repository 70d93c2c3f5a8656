-- The law on faults and findings.
use Rattle.std.specs.Prelude.{◌≡◌, Bool, true, false}
use Rattle.std.specs.List.{list_any}
use Rattle.scope_report.specs.Findings.{findings}
use Rattle.scope_report.specs.declared.finding.Rule.{Rule}
use Rattle.scope_report.specs.declared.finding.Rule.TheVariants.{Fault}
use Rattle.scope_rules.specs.Bindings.{same_name}
use Rattle.scope_rules.specs.Faults.{has_fault}
use Rattle.tree_nodes.specs.Tree.{Text, Tree, alone}
use Rattle.tree_places.specs.Places.{places}

unfoldable pub is_fault : Rule → Bool
is_fault (Fault n) = true
is_fault _ = false

-- the scopes of a tree have a fault exactly where one is among its findings
abbrev pub FaultsAreFound : Type 0
FaultsAreFound = (t : Tree) (text : Text) → has_fault same_name (places (alone t)) ≡ list_any (λ f. is_fault f.rule) (findings text t)
