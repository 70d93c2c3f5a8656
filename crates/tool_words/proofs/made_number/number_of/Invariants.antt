use Rattle.std.proofs.Common.{◌≡◌, ◌≤◌, ◌<◌, drop}
use Rattle.tool_words.specs.MadeNumber.{number_from}
use Rattle.tool_words.proofs.made_number.number_of.Given as goal

abbrev pub invariant-loop-digit : goal.invariant-loop-digit
invariant-loop-digit l = record {
  most : l.number ≤ 2000;
  some : 0 < l.digit-index → 1 ≤ l.number;
  rest : number_from 0 l.digits ≡ number_from l.number (drop l.digit-index l.digits);
}
