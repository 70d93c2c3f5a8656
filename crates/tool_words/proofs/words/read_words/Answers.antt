use Rattle.std.proofs.Common.{None, sym, ap, ◌∙◌, arith}
use Rattle.std.proofs.lemmas.Result.{err_from_is_err_and}
use Rattle.tool_words.proofs.Commands.{makes_by_two, making_told, mangling_asked, mangling_refused}
use Rattle.tool_words.specs.MadeNumber.{made_number}
use Rattle.tool_words.proofs.words.read_words.Goals as goal

pub bounds-words-1 : goal.bounds-words-1
bounds-words-1 c = let two = makes_by_two c.args.words.now (sym c.makes.ensures ∙ c.if-makes.true) in omega (arith, two)

pub returns-in-Some-clause-asked : goal.returns-in-Some-clause-asked
returns-in-Some-clause-asked c =
    making_told c.args.words.now c.index-words-1.result _ (sym c.makes.ensures ∙ c.if-makes.true) c.index-words-1.is (c.in-Some.ensures.number ∙ ap made_number c.as_str.ensures)

pub returns-in-None-clause-bad : goal.returns-in-None-clause-bad
returns-in-None-clause-bad c = λ _.
    making_told c.args.words.now c.index-words-1.result None (sym c.makes.ensures ∙ c.if-makes.true) c.index-words-1.is (c.in-None.ensures.number ∙ ap made_number c.as_str.ensures)

pub returns-in_err-options-clause-bad : goal.returns-in_err-options-clause-bad
returns-in_err-options-clause-bad c = λ h.
    let p = err_from_is_err_and c.from_residual.result c.from_residual.ensures.1 in
    mangling_refused c.args.words.now (sym c.makes.ensures ∙ c.if-makes.false) (c.read_options.ensures.bad (cc (p.1, p.2, h)))

pub returns-clause-asked : goal.returns-clause-asked
returns-clause-asked c = mangling_asked c.args.words.now _ _ (sym c.makes.ensures ∙ c.if-makes.false) c.in_ok-options.ensures.asked
