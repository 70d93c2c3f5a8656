use Rattle.std.proofs.Common.{◌≡◌, ◌/◌, ◌+◌, ◌≤◌, ◌∙◌, ap, sym, arith, length, take, rules}
use Rattle.std.specs.Int.{trailing_zeros, w64}
use Rattle.std.specs.List.{position_or_len}
use Rattle.oxc_estree.specs.Escapes.{needs_escape}
use Rattle.oxc_estree.proofs.PlainRuns.{lowest_in_word, no_mark, passes_after_word, passes_in_word, whole_rest}
use Rattle.oxc_estree.proofs.scan.plain_end.Goals as goal
use lib.Lanes.{chunk}

pub returns-then-mask-ne0 : goal.returns-then-mask-ne0
returns-then-mask-ne0 c =
    let bs = c.args.bytes.now in
    let at = c.loop-word.at in
    let found = c.in-Some.ensures.cases in
    let room : at + 8 ≤ length bs = omega (arith, found.enough, ap length (whole_rest bs at)) in
    let word : c.in-Some.word.now ≡ chunk at 8 bs = found.same ∙ ap (take 8) (whole_rest bs at) in
    let m = c.get_escapes_mask-mask in
    let first : trailing_zeros w64 m.result / 8 ≡ position_or_len needs_escape (chunk at 8 bs) = m.ensures.lowest ∙ ap (position_or_len needs_escape) word in
    let run = passes_in_word needs_escape bs at _ room first (lowest_in_word m.result c.if-mask-ne0.true m.type_inv) in
    omega (arith, run, c.loop-word.invariant.same)

pub loop-word-preserved : goal.loop-word-preserved
loop-word-preserved c =
    let bs = c.args.bytes.now in
    let at = c.loop-word.at in
    let found = c.in-Some.ensures.cases in
    let room : at + 8 ≤ length bs = search rules in
    let word : c.in-Some.word.now ≡ chunk at 8 bs = found.same ∙ ap (take 8) (whole_rest bs at) in
    let m = c.get_escapes_mask-mask in
    let first : 8 ≡ position_or_len needs_escape (chunk at 8 bs) = sym (no_mark m.result c.if-mask-ne0.false) ∙ m.ensures.lowest ∙ ap (position_or_len needs_escape) word in
    record { same = c.loop-word.invariant.same ∙ omega (arith, passes_after_word needs_escape bs at room first); within = room }
