use Rattle.std.proofs.Common.{◌≡◌, drop, map}
use Rattle.place_list.specs.TableViews.{around_view, list_view}
use Rattle.place_list.specs.TableWalk.{walk}
use Rattle.tree_nodes.specs.Along.{all, each}
use Rattle.tree_nodes.specs.Look.{past}
use Rattle.tree_nodes.specs.Rows.{column_of}
use Rattle.place_list.proofs.walk.+walk.Given as goal

-- what is left to walk, after what is walked, is the whole
abbrev pub invariant-walk_fields-loop-i : goal.invariant-walk_fields-loop-i
invariant-walk_fields-loop-i l =
    walk l.fields (each (map column_of l.columns)) (around_view l.around) (list_view l.fn.list)
    ≡ walk (past l.i l.fields) (each (drop l.i (map column_of l.columns))) (around_view l.around) (list_view l.list)

abbrev pub invariant-walk_nodes-loop-i : goal.invariant-walk_nodes-loop-i
invariant-walk_nodes-loop-i l =
    walk l.nodes (all (column_of l.column)) (around_view l.around) (list_view l.fn.list)
    ≡ walk (past l.i l.nodes) (all (column_of l.column)) (around_view l.around) (list_view l.list)
