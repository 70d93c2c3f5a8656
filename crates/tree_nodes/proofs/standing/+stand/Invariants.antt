use Rattle.std.proofs.Common.{◌≡◌, map, drop}
use Rattle.tree_nodes.specs.Along.{each}
use Rattle.tree_nodes.specs.Look.{past}
use Rattle.tree_nodes.specs.Rows.{column_of}
use Rattle.tree_nodes.specs.Standing.{stands, stands_in}
use Rattle.tree_nodes.proofs.standing.+stand.Given as goal

-- the fields that are left decide
abbrev pub invariant-fields_stand-loop-i : goal.invariant-fields_stand-loop-i
invariant-fields_stand-loop-i l =
    stands l.fields (each (map column_of l.columns)) l.own l.fields ≡ stands (past l.i l.fields) (each (drop l.i (map column_of l.columns))) l.own l.fields

abbrev pub invariant-nodes_stand-loop-i : goal.invariant-nodes_stand-loop-i
invariant-nodes_stand-loop-i l = stands_in l.class l.role l.within l.nodes ≡ stands_in l.class l.role l.within (past l.i l.nodes)
