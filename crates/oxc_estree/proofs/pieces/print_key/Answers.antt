use Rattle.std.proofs.Common.{◌∷◌, [], refl}
use Rattle.std.proofs.lemmas.Result.{on_err_weaker}
use Rattle.json_text.specs.Layout.{space}
use Rattle.oxc_estree.proofs.Refusals.{at_err, refused_after, refused_at_once, refused_before, refused_within}
use Rattle.oxc_estree.proofs.pieces.print_key.Goals as goal

pub returns-in_err-print_quoted-clause-refused : goal.returns-in_err-print_quoted-clause-refused
returns-in_err-print_quoted-clause-refused g c =
    at_err _ (refused_before _ (58 ∷ space (g.F.Formatter.layout c.args.formatter.now)) refl c.in_err-print_quoted.ensures.refused)

pub returns-in_err-print_ascii_byte-clause-refused : goal.returns-in_err-print_ascii_byte-clause-refused
returns-in_err-print_ascii_byte-clause-refused g c =
    at_err _
    (refused_within _ (space (g.F.Formatter.layout c.args.formatter.now)) refl c.in_ok-print_quoted.ensures.ok
    (refused_at_once (58 ∷ []) c.in_err-print_ascii_byte.ensures.err))

pub returns-clause-refused : goal.returns-clause-refused
returns-clause-refused g c =
    let rest = space (g.F.Formatter.layout c.args.formatter.now) in
    on_err_weaker c.before_field_value.result
    (λ u. refused_after _ refl c.in_ok-print_quoted.ensures.ok
    (refused_after (58 ∷ rest) refl c.in_ok-print_ascii_byte.ensures.ok (refused_at_once rest u)))
    c.before_field_value.ensures.refused
