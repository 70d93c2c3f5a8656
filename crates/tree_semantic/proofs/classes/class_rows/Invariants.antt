use Rattle.tree_semantic.specs.ClassBodies.{AreRowsOf}
use Rattle.tree_semantic.proofs.classes.class_rows.Given as goal

abbrev pub invariant-loop-c : goal.invariant-loop-c
invariant-loop-c l = AreRowsOf l.list l.parents l.c l.rows.items
