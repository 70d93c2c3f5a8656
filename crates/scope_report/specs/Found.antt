-- The findings of a tree but for their lines and columns, in order: by place, and at one place by rule.
use Rattle.std.specs.Prelude.{ℕ, Bool, true, false, List, [], ◌∷◌, ◌++◌, map}
use Rattle.place_list.specs.Nodes.{NestedNode, nested_nodes}
use Rattle.scope_report.specs.Rules.{verdict_on}
use Rattle.scope_report.specs.declared.finding.Rule.{Rule}
use Rattle.scope_report.specs.declared.finding.Rule.TheVariants.{Fault, Shadow, Unresolved, Unused}
use Rattle.scope_report.specs.declared.verdict.Verdict.{Verdict}
use Rattle.tree_nodes.specs.Tree.{Text, Tree, alone}
use Rattle.tree_places.specs.Places.{Place, places}

-- a rule, and name and start of a place that goes against it
pub record Found : Type 0 where
  pub rule : Rule
  pub name : Text
  pub start : ℕ

unfoldable pub when : {X : Type 0} → Bool → X → List X → List X
when true x xs = x ∷ xs
when false x xs = xs

-- the rules that a place goes against, in order: the five faults of scopes by number, then the others
unfoldable pub rules : Verdict → List Rule
rules v =
    when v.faults.redeclaration (Fault 1) (when v.faults.crossing (Fault 2) (when v.faults.sloppy_function (Fault 3) (when v.faults.undeclared (Fault 4) (when v.faults.reach (Fault 5)
    (when v.unused Unused (when v.unresolved Unresolved (when v.shadow Shadow [])))))))

unfoldable pub found_at : Text → ℕ → List Rule → List Found
found_at x start rs = map (λ r. record { rule = r; name = x; start = start }) rs

-- at some of all these places, after those before them
unfoldable pub found_from : List NestedNode → List Place → List Place → List Place → List Found
found_from ns all before [] = []
found_from ns all before (p ∷ ps) = found_at p.name p.site.start (rules (verdict_on ns all before p)) ++ found_from ns all (before ++ p ∷ []) ps

unfoldable pub found : List NestedNode → List Place → List Found
found ns ps = found_from ns ps [] ps

unfoldable pub found_in : Tree → List Found
found_in t = found (nested_nodes (alone t)) (places (alone t))
