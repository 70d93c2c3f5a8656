use Rattle.std.proofs.Common.{◌≡◌, ◌⊎◌, ℕ, List, sym, subst, ◌∙◌}
use Rattle.made_input.specs.Made.{made_text, made_tree}
use Rattle.mangle_tool.proofs.Ends.{made_ends}
use Rattle.mangle_tool.proofs.MadeInputs.{text_is_valid}
use Rattle.mangle_tool.specs.Answer.{IsCauseOf}
use Rattle.mangle_tool.specs.declared.status.Status.{Status}
use Rattle.mangle_tool.specs.declared.status.Status.TheVariants.{Done, Memory}
use Rattle.mangle_tool.proofs.make.make.Goals as goal

pub returns-clause-complete : goal.returns-clause-complete
returns-clause-complete g c = λ fine.
    let n = c.args.functions in
    let made : c.as_bytes.result.now ≡ made_text n = c.as_bytes.ensures.value ∙ c.in-Ok.ensures in
    subst (λ (s : Status). (s ≡ Done) ⊎ (s ≡ Memory)) (sym c.from.ensures)
    (made_ends (made_text n) c.answer_into.result (text_is_valid (made_tree n) (made_text n) (c.made_texts_are_read.ensures n c.requires.most))
    (λ e h. subst (λ (input : List ℕ). IsCauseOf 0 e input) made (c.answer_into.ensures.refused e h))
    c.answer_into.ensures.read (λ h. fine (c.answer_into.ensures.write_fault h)))
