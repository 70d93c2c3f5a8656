use Rattle.std.proofs.Common.{◌≡◌, take}
use Rattle.tree_semantic.specs.ClassesAround.{found_after, found_of, nothing_found}
use Rattle.tree_semantic.specs.Nodes.{nodes_in}
use Rattle.tree_semantic.proofs.around.class_parents.Given as goal

abbrev pub invariant-loop-i : goal.invariant-loop-i
invariant-loop-i l = found_of l.found ≡ found_after nothing_found (take l.i (nodes_in l.nodes))
