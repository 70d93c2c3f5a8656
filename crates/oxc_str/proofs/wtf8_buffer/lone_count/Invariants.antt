use Rattle.std.proofs.Common.{◌≡◌, ◌+◌}
use Rattle.std.specs.Str.{chars}
use Rattle.oxc_str.specs.JSStr.{js_bytes}
use Rattle.oxc_str.specs.Wtf8Buffer.{surrogate_count}
use Rattle.oxc_str.proofs.wtf8_buffer.lone_count.Given as goal

abbrev pub invariant-loop-c : goal.invariant-loop-c
invariant-loop-c l = record {
  can : (goal.iterator-loop-c).can_next l.chars;
  finite : (goal.iterator-loop-c).is_finite l.chars;
  counts : l.count + surrogate_count l.chars ≡ surrogate_count (chars (js_bytes l.fn.value));
}
