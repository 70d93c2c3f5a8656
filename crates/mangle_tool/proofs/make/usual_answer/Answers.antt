use Rattle.std.proofs.Common.{ℕ, IfErr, IfOk, ap, length, string_bytes, subst}
use Rattle.mangle_tool.proofs.Settings.{usual_asked}
use Rattle.mangle_tool.specs.Answer.{IsAnswer, IsCauseOf}
use Rattle.mangle_tool.specs.Asked.{Asked}
use Rattle.mangle_tool.proofs.make.usual_answer.Goals as goal

pub returns-clause-answer : goal.returns-clause-answer
returns-clause-answer c =
    let made = c.new-options.ensures in
    subst (λ (a : Asked). IfOk c.mangle_estree.result (λ text. IsAnswer a c.args.input.now (string_bytes text)))
    (usual_asked c.new-options.result made.top_level made.function made.class made.reserved made.debug) c.mangle_estree.ensures.answer

pub returns-clause-cause : goal.returns-clause-cause
returns-clause-cause c =
    subst (λ (n : ℕ). IfErr c.mangle_estree.result (λ e. IsCauseOf n e c.args.input.now)) (ap length c.new-options.ensures.reserved) c.mangle_estree.ensures.cause
