use Rattle.std.specs.Prelude.{◌≡◌, List, filter, map, take}
use Rattle.kept_names.specs.Keeping.{keeping}
use Rattle.kept_names.specs.NamesKept.{KeepsNames}
use Rattle.kept_names.specs.Views.{bound_of}
use Rattle.name_rules.specs.Kept.{name_kept}
use Rattle.place_list.specs.declared.tables.PlaceList.{PlaceList}
use Rattle.scope_rules.specs.Bindings.{Bound, is_binding}
use Rattle.tree_nodes.specs.Tree.{Text}
use Rattle.kept_names.proofs.symbols.kept_by_symbol.Given as goal

abbrev pub invariant-loop-place : goal.invariant-loop-place
invariant-loop-place l = (p : PlaceList) (bs : List (Bound Text)) → KeepsNames bs l.names → l.kept.items ≡ map (name_kept (keeping l.names.keep) bs) (filter is_binding (map (bound_of p) (take l.place-index l.places)))
