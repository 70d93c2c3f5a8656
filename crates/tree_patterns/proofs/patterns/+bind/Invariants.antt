use Rattle.std.proofs.Common.{◌≡◌, ◌++◌, drop, map}
use Rattle.tree_nodes.specs.Along.{each}
use Rattle.tree_nodes.specs.Look.{past}
use Rattle.tree_nodes.specs.Table.{row}
use Rattle.tree_patterns.specs.BoundNames.{bound, bound_in}
use Rattle.tree_patterns.proofs.patterns.+bind.Given as goal

-- what was found, before what is left
abbrev pub invariant-bind_fields-loop-i : goal.invariant-bind_fields-loop-i
invariant-bind_fields-loop-i l =
    map (λ n. n.now) l.names.items ++ bound (past l.i l.fields) (each (drop l.i (row l.kind).columns)) l.fields
    ≡ map (λ n. n.now) l.initial.names.items ++ bound l.fields (each (row l.kind).columns) l.fields

abbrev pub invariant-bind_items-loop-i : goal.invariant-bind_items-loop-i
invariant-bind_items-loop-i l =
    map (λ n. n.now) l.names.items ++ bound_in (past l.i l.nodes) ≡ map (λ n. n.now) l.initial.names.items ++ bound_in l.nodes
