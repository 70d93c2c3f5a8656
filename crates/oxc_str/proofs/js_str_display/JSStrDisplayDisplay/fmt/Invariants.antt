use Rattle.std.specs.Str.{chars}
use Rattle.oxc_str.specs.JSStrDisplay.{shown_string}
use Rattle.oxc_str.proofs.Showing.{Writing}
use Rattle.oxc_str.proofs.js_str_display.JSStrDisplayDisplay.fmt.Given as goal

abbrev pub invariant-loop-c : goal.invariant-loop-c
invariant-loop-c g l = record {
  can : (goal.iterator-loop-c g).can_next l.chars;
  finite : (goal.iterator-loop-c g).is_finite l.chars;
  shows : Writing g.W.Write.write_str_gives (chars (shown_string l.fn.self)) l.chars l.fn.f l.f;
}
