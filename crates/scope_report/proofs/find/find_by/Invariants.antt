use Rattle.std.specs.Prelude.{◌≡◌, [], take}
use Rattle.place_list.specs.TableViews.{nested_nodes_in, places_in}
use Rattle.scope_report.specs.Found.{found_from}
use Rattle.scope_report.specs.Views.{found_views}
use Rattle.scope_report.proofs.find.find_by.Given as goal

abbrev pub invariant-loop-i : goal.invariant-loop-i
invariant-loop-i l = found_views l.found.items ≡ found_from (nested_nodes_in l.nodes) (places_in l.tables.list) [] (take l.i (places_in l.tables.list))
