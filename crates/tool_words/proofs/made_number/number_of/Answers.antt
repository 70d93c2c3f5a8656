use Rattle.std.proofs.Common.{◌≡◌, ◌≤◌, Some, None, get_or, length, sym, ◌∙◌, arith, rules}
use Rattle.tool_words.proofs.Digits.{all_read, begins_long, digit_more, digit_read, no_digit_read, some_more}
use Rattle.tool_words.specs.MadeNumber.{with_digit}
use Rattle.tool_words.proofs.made_number.number_of.Goals as goal

pub returns-in_err-number-clause-number : goal.returns-in_err-number-clause-number
returns-in_err-number-clause-number c =
    let gone : c.from_residual.result ≡ None = search rules in
    let none : with_digit c.loop-digit.number (get_or c.args.digits.now c.loop-digit.digit-index 0) ≡ None = sym c.with_digit.ensures ∙ c.in_err-number.was in
    gone ∙ sym (no_digit_read c.args.digits.now c.loop-digit.digit-index c.loop-digit.number c.loop-digit-test.true c.loop-digit.invariant.rest none)

pub loop-digit-preserved : goal.loop-digit-preserved
loop-digit-preserved c =
    let digits = c.args.digits.now in
    let i = c.loop-digit.digit-index in
    let n = c.loop-digit.number in
    let e : with_digit n (get_or digits i 0) ≡ Some c.in_ok-number.number = sym c.with_digit.ensures ∙ c.in_ok-number.was in
    record {
      most = (digit_more n (get_or digits i 0) c.in_ok-number.number e).most;
      some = λ _. some_more digits i n c.in_ok-number.number c.requires.some c.loop-digit.invariant.some e;
      rest = digit_read digits i n c.in_ok-number.number c.loop-digit-test.true c.loop-digit.invariant.rest e;
    }

pub returns-clause-number : goal.returns-clause-number
returns-clause-number c = sym (all_read c.args.digits.now c.loop-digit.digit-index c.loop-digit.number c.loop-digit-test.false c.loop-digit.invariant.rest)

pub returns-clause-range : goal.returns-clause-range
returns-clause-range c =
    let long : 1 ≤ length c.args.digits.now = begins_long c.args.digits.now c.requires.some in
    (c.loop-digit.invariant.some (omega (arith, long, c.loop-digit-test.false)), c.loop-digit.invariant.most)
