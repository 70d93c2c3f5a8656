use Rattle.std.specs.Prelude.{◌≡◌, string_bytes, take}
use Rattle.tool_commands.specs.Report.{report_text}
use Rattle.tool_commands.proofs.report_text.report_text.Given as goal

abbrev pub invariant-loop-i : goal.invariant-loop-i
invariant-loop-i l = string_bytes l.text ≡ report_text (take l.i l.findings)
