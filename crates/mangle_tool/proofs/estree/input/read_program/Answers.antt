use Rattle.std.proofs.Common.{true≢false, option_map, sym, ap, ◌∙◌}
use Rattle.serde_json.specs.View.{view}
use Rattle.mangle_tool.proofs.WrappedWithin.{wrapped_within}
use Rattle.mangle_tool.proofs.estree.input.read_program.Goals as goal

pub returns-in-Some-2-clause-too_large : goal.returns-in-Some-2-clause-too_large
returns-in-Some-2-clause-too_large c =
    let whole = sym c.is_too_large.ensures ∙ c.if-is_too_large.false in
    let node = wrapped_within (view c.args.value.now) _ c.args.reserved (sym c.wrapped_program.ensures ∙ ap (option_map (λ v. view v.now)) c.in-Some.is) whole in
    (λ h. absurd (true≢false (sym (c.read_tree.ensures.too_large.0 h) ∙ node)), λ h. absurd (true≢false (sym h ∙ whole)))
