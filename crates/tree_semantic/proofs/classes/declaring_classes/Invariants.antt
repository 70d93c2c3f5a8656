use Rattle.std.proofs.Common.{◌≡◌, map, take}
use Rattle.place_list.specs.TableViews.{places_in}
use Rattle.tree_semantic.specs.ClassBodies.{class_of_place}
use Rattle.tree_semantic.proofs.classes.declaring_classes.Given as goal

abbrev pub invariant-loop-i : goal.invariant-loop-i
invariant-loop-i l = l.declaring.items ≡ map (class_of_place (places_in l.list)) (take l.i (places_in l.list))
