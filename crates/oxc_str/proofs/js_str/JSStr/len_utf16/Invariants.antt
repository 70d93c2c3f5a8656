use Rattle.std.proofs.Common.{◌≡◌, ◌+◌, length, flat_map}
use Rattle.std.specs.Char.Escape.{encode_utf16}
use Rattle.oxc_str.specs.JSStr.{js_units}
use Rattle.oxc_str.proofs.js_str.JSStr.len_utf16.Given as goal

abbrev pub invariant-loop-c : goal.invariant-loop-c
invariant-loop-c l = record {
  can : (goal.iterator-loop-c).can_next l.chars;
  finite : (goal.iterator-loop-c).is_finite l.chars;
  counts : l.len + length (flat_map encode_utf16 l.chars) ≡ length (js_units l.fn.self);
}
