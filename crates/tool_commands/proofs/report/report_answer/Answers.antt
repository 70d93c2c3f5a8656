use Rattle.std.proofs.Common.{string_bytes, ap, ◌∙◌, subst}
use Rattle.scope_report.specs.Findings.{StartInText, findings}
use Rattle.scope_report.specs.Found.{found_in}
use Rattle.tool_commands.specs.Report.{report_text}
use Rattle.tree_nodes.specs.Tree.{Text}
use Rattle.tool_commands.proofs.report.report_answer.Goals as goal

pub returns-in-Ok-clause-answer : goal.returns-in-Ok-clause-answer
returns-in-Ok-clause-answer c =
    let program = c.in_ok-sourced.sourced.program in
    record {
      source = string_bytes c.in_ok-sourced.sourced.source;
      tree = program;
      read = c.in_ok-sourced.ensures.ok;
      spans = subst (λ (s : Text). StartInText s (found_in program)) c.as_str.ensures.value c.in-Ok.ensures.spans;
      text_is = c.in_ok-report_text-in-Ok.ensures ∙ ap report_text c.in-Ok.ensures.findings ∙ ap (λ (s : Text). report_text (findings s program)) c.as_str.ensures.value;
    }
