use Rattle.std.proofs.Common.{◌≡◌, ◌++◌, take}
use Rattle.oxc_str.proofs.wtf8_buffer.Wtf8Buffer.push_utf16.Given as goal

abbrev pub invariant-loop-unit : goal.invariant-loop-unit
invariant-loop-unit g l = l.self ≡ l.fn.self ++ take l.unit-index l.units
