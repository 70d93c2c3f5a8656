use Rattle.std.specs.Prelude.{◌≤◌, ◌^◌, take}
use Rattle.name_rules.specs.ChosenNames.{AreBelow}
use Rattle.new_names.proofs.private.limit.Given as goal

abbrev pub invariant-loop-number : goal.invariant-loop-number
invariant-loop-number l = record {
  below : AreBelow l.limit (take l.number-index l.numbers);
  low : l.limit ≤ 2 ^ 32;
}
