use Rattle.std.proofs.Common.{refl}
use Rattle.std.specs.Str.{chars}
use Rattle.oxc_str.specs.JSStrDisplay.{shown_string}
use Rattle.oxc_str.proofs.Showing.{one_more_shown}
use Rattle.oxc_str.proofs.js_str_display.JSStrDisplayDisplay.fmt.Goals as goal

pub loop-c-preserved : goal.loop-c-preserved
loop-c-preserved g c = record {
  can = tt;
  finite = tt;
  shows = one_more_shown
      g.W.Write.write_str_gives
      (chars (shown_string c.args.self.now))
      c.loop-c.chars
      c.next.new.self
      c.in-Some.c
      c.args.f.now
      c.loop-c.f
      c.write_char.new.f
      c.loop-c.invariant.shows
      c.in-Some.ensures.steps
      (λ p. c.in_ok-write_char.ensures p refl);
}
