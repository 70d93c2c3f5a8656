use Rattle.std.specs.Prelude.{◌≡◌, List, map, take}
use Rattle.kept_names.specs.Keeping.{keeping}
use Rattle.kept_names.specs.NamesKept.{KeepsNames, keeps_name}
use Rattle.kept_names.specs.Views.{bound_of}
use Rattle.place_list.specs.declared.tables.PlaceList.{PlaceList}
use Rattle.scope_rules.specs.Bindings.{Bound}
use Rattle.tree_nodes.specs.Tree.{Text}
use Rattle.kept_names.proofs.name_kept.kept_by_place.Given as goal

abbrev pub invariant-loop-place : goal.invariant-loop-place
invariant-loop-place l = (p : PlaceList) (bs : List (Bound Text)) → KeepsNames bs l.names → l.kept.items ≡ map (λ b. keeps_name (keeping l.names.keep) bs (bound_of p b)) (take l.place-index l.places)
