use Rattle.std.proofs.Common.{◌≤◌, ap, length, take_all, ◌∙◌}
use Rattle.tool_commands.proofs.Reports.{line_more, none_left}
use Rattle.tool_commands.specs.Report.{report_text}
use Rattle.tool_commands.proofs.report_text.report_text.Goals.{else-loop-i-test, then-loop-i-test+in_default}
use Rattle.tool_commands.proofs.report_text.report_text.Goals as goal

pub loop-i-preserved : goal.loop-i-preserved
loop-i-preserved c = line_more c.args.findings.now c.loop-i.i c.in-Some.finding.now c.in-Some.ensures _ _ c.loop-i.invariant c.in_ok-push_line.ensures

pub returns : goal.returns
returns c = elim c.loop-i-test.branch [
  | else-loop-i-test w ↦
      let over : length c.args.findings.now ≤ c.loop-i.i = rw (← c.len-i-end.ensures) w.loop-i-test.false in
      c.loop-i.invariant ∙ ap report_text (take_all c.loop-i.i c.args.findings.now over)
  | then-loop-i-test+in_default w ↦ c.loop-i.invariant ∙ ap report_text (take_all c.loop-i.i c.args.findings.now (none_left c.args.findings.now c.loop-i.i w.in_default.ensures))
]
