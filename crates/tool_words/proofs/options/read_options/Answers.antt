use Rattle.std.proofs.Common.{refl}
use Rattle.std.proofs.lemmas.Result.{err_from_is_err_and}
use Rattle.tool_words.proofs.Readings.{all_read, name_missing, none_read, one_read, one_refused}
use Rattle.tool_words.proofs.options.read_options.Goals as goal

pub loop-word-init : goal.loop-word-init
loop-word-init c =
    none_read c.args.layouts c.args.words.now _ c.new.ensures.top_level c.new.ensures.function c.new.ensures.class c.new.ensures.reserved c.new.ensures.debug refl refl

pub returns-in_err-take_word-clause-bad : goal.returns-in_err-take_word-clause-bad
returns-in_err-take_word-clause-bad c = λ h.
    let p = err_from_is_err_and c.from_residual.result c.from_residual.ensures.1 in
    one_refused c.args.layouts c.args.words.now c.loop-word.word-index c.word-item.result c.loop-word-test.true c.word-item.is c.loop-word.reading c.loop-word.invariant
    (c.take_word.ensures.bad (cc (p.1, p.2, h)) c.loop-word.invariant.so_far c.loop-word.invariant.read)

pub loop-word-preserved : goal.loop-word-preserved
loop-word-preserved c =
    one_read c.args.layouts c.args.words.now c.loop-word.word-index c.word-item.result c.loop-word-test.true c.word-item.is c.loop-word.reading c.loop-word.invariant
    c.take_word.new.reading (c.in_ok-take_word.ensures.taken c.loop-word.invariant.so_far c.loop-word.invariant.read)

pub returns-then-reading-clause-bad : goal.returns-then-reading-clause-bad
returns-then-reading-clause-bad c = λ _.
    name_missing c.args.layouts c.args.words.now c.loop-word.word-index c.loop-word-test.false c.loop-word.reading c.loop-word.invariant c.if-reading.true

pub returns-clause-asked : goal.returns-clause-asked
returns-clause-asked c =
    all_read c.args.layouts c.args.words.now c.loop-word.word-index c.loop-word-test.false c.loop-word.reading c.loop-word.invariant c.if-reading.false
