use Rattle.std.specs.Prelude.{List, ℕ}
use Rattle.std.proofs.Common.{ap, ◌∙◌}
use Rattle.scope_report.specs.Findings.{located}
use Rattle.scope_report.specs.Positions.{position_of}
use Rattle.scope_report.specs.declared.finding.Finding.{Finding}
use Rattle.scope_report.specs.declared.positions.Position.{Position}
use Rattle.scope_report.proofs.lines.located.Goals as goal

pub returns : goal.returns
unfolding located position_of
returns c = λ text is.
    let named : List ℕ → Finding = λ x. record { rule = c.args.one.now.rule; name = x; line = c.args.position.line; column = c.args.position.column } in
    let here : Position → Finding = λ p. record { rule = c.args.one.now.rule; name = c.args.one.now.name.now; line = p.line; column = p.column } in
    ap named (c.from_string-name.ensures ∙ c.in_ok-from_str.ensures.ok) ∙ ap here is
