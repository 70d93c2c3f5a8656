use Rattle.std.proofs.Common.{◌≡◌, ◌++◌}
use Rattle.oxc_str.proofs.js_str_builder.JSStrBuilder.push_code_units.Given as goal

abbrev pub invariant-loop-unit : goal.invariant-loop-unit
invariant-loop-unit g l = l.self-inside.buffer ≡ l.fn.self ++ l.yielded
