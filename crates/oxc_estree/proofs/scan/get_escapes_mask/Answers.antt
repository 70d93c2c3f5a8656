use Rattle.std.proofs.Common.{◌≡◌, ◌/◌, ◌<◌, ℕ, length, get_or, rules, ap, ◌∙◌}
use Rattle.std.specs.Int.{w64, trailing_zeros}
use Rattle.oxc_estree.specs.Escapes.{escapes_mask}
use Rattle.oxc_estree.proofs.EscapeMarks.{word_marks}
use Rattle.oxc_estree.proofs.scan.get_escapes_mask.Goals as goal

pub returns-clause-lowest : goal.returns-clause-lowest
returns-clause-lowest c =
    let eight : length c.args.bytes ≡ 8 = search rules in
    let small : (k : ℕ) → get_or c.args.bytes k 0 < 256 = search rules in
    ap (λ n. trailing_zeros w64 (escapes_mask n) / 8) c.from_le_bytes-n.ensures ∙ word_marks c.args.bytes eight small
