use Rattle.private_numbers.specs.Numbers.{AreConsecutive}
use Rattle.private_numbers.proofs.class_numbers.consecutive.Given as goal

abbrev pub invariant-loop-number : goal.invariant-loop-number
invariant-loop-number l = AreConsecutive l.first l.number l.numbers.items
