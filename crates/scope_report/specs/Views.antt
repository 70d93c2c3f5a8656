-- What the code's values stand for.
use Rattle.std.specs.Prelude.{◌≡◌, List, map, ◌++◌, Bool, ℕ}
use Rattle.place_list.specs.Nodes.{NestedNode}
use Rattle.scope_report.specs.Exports.{exports}
use Rattle.scope_report.specs.Found.{Found, found_at, when}
use Rattle.scope_report.specs.Rules.{uses}
use Rattle.scope_tables.specs.Sets.{HasMarked}
use Rattle.scope_report.specs.declared.finding.Rule.{Rule}
use Rattle.scope_report.specs.declared.found.FoundAt.{FoundAt}
use Rattle.scope_report.specs.declared.marks.Marks.{Marks}
use Rattle.scope_rules.specs.Bindings.{Bound}
use Rattle.tree_nodes.specs.Tree.{Text}

-- these are the bindings that are used and those that are exported, of places in the tree of these nodes
pub record AreMarks (ns : List NestedNode) (bs : List (Bound Text)) (m : Marks) : Type 0 where
  pub used : HasMarked uses bs m.used
  pub exported : HasMarked (exports ns) bs m.exported

abbrev pub found_view : FoundAt → Found
found_view f = record { rule = f.rule; name = f.name.now; start = f.start }

abbrev pub found_views : List FoundAt → List Found
found_views fs = map found_view fs

-- a list to which the rule is added, at a place of this name and start, if it applies: before whatever comes after it
abbrev pub Pushes : Text → ℕ → Bool → Rule → List FoundAt → List FoundAt → Type 0
Pushes x start applies rule old new = (rest : List Rule) → found_views new ++ found_at x start rest ≡ found_views old ++ found_at x start (when applies rule rest)
