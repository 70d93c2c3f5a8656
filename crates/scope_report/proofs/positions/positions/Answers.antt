use Rattle.std.specs.Prelude.{List, ℕ}
use Rattle.std.proofs.Common.{ap, ◌∙◌}
use Rattle.std.specs.Str.{chars}
use Rattle.scope_report.proofs.PositionSteps.{has_room, walk_begins, walk_ends, walk_goes_on}
use Rattle.scope_report.specs.Positions.{position_past}
use Rattle.scope_report.proofs.positions.positions.Goals as goal

pub loop-ch-init : goal.loop-ch-init
loop-ch-init c = walk_begins c.args.text.now c.utf8.text _ c.in_ok-positions.ensures.items _ c.chars-chars.ensures.rest

pub position_past-at-requires-clause-line : goal.position_past-at-requires-clause-line
position_past-at-requires-clause-line c = (has_room c.args.text.now c.utf8.text _ _ _ c.loop-ch.invariant c.in-Some.ch _ c.in-Some.ensures.steps.0 c.requires).0

pub position_past-at-requires-clause-column : goal.position_past-at-requires-clause-column
position_past-at-requires-clause-column c = (has_room c.args.text.now c.utf8.text _ _ _ c.loop-ch.invariant c.in-Some.ch _ c.in-Some.ensures.steps.0 c.requires).1

pub loop-ch-preserved : goal.loop-ch-preserved
loop-ch-preserved c =
    walk_goes_on c.args.text.now c.utf8.text _ _ _ c.loop-ch.invariant c.in-Some.ch _ c.in-Some.ensures.steps.0
    c.len_utf8.result c.len_utf8.ensures.value _ c.in_ok-push_times.ensures _ (c.position_past-at.ensures ∙ ap (λ (s : List ℕ). position_past c.loop-ch.at c.in-Some.ch (chars s)) c.as_str.ensures)

pub returns : goal.returns
returns c = walk_ends c.args.text.now c.utf8.text _ _ _ c.loop-ch.invariant c.in_default.ensures.steps.0.0 _ c.in_ok-push.ensures.items
