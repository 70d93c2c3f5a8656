use Rattle.std.proofs.Common.{◌∷◌, [], refl}
use Rattle.std.proofs.lemmas.Result.{on_err_weaker}
use Rattle.oxc_estree.proofs.Refusals.{at_err, refused_after, refused_at_once, refused_before}
use Rattle.oxc_estree_tests.proofs.trait_tests.print_key.Goals as goal

pub returns-in_err-print_quoted_by_chars-clause-refused : goal.returns-in_err-print_quoted_by_chars-clause-refused
returns-in_err-print_quoted_by_chars-clause-refused c =
    at_err _ (refused_before _ (58 ∷ []) refl c.in_err-print_quoted_by_chars.ensures.refused)

pub returns-clause-refused : goal.returns-clause-refused
returns-clause-refused c =
    on_err_weaker c.print_ascii_byte.result
    (λ u. refused_after _ refl c.in_ok-print_quoted_by_chars.ensures.ok (refused_at_once (58 ∷ []) u))
    c.print_ascii_byte.ensures.err
