use Rattle.std.proofs.Common.{◌∷◌, [], ◌++◌, ap, List, ℕ}
use Rattle.std.proofs.lemmas.Result.{on_ok_weaker, on_err_weaker}
use Rattle.oxc_estree.proofs.ByteTexts.{units_text-bytes}
use Rattle.oxc_estree.proofs.Refusals.{Appends-trans, at_err, refused_after, refused_at_once, refused_within, all_printed}
use Rattle.oxc_estree.proofs.strings.print_quoted.Goals as goal

pub returns-in_err-print_escaped-clause-refused : goal.returns-in_err-print_escaped-clause-refused
returns-in_err-print_escaped-clause-refused c =
    let whole = ap (λ (t : List ℕ). 34 ∷ (t ++ 34 ∷ [])) (units_text-bytes c.args.text.now c.utf8.text) in
    at_err _ (refused_within _ (34 ∷ []) whole c.in_ok-print_ascii_byte.ensures.ok c.in_err-print_escaped.ensures.refused)

pub returns-clause-ok : goal.returns-clause-ok
returns-clause-ok c =
    let whole = ap (λ (t : List ℕ). 34 ∷ (t ++ 34 ∷ [])) (units_text-bytes c.args.text.now c.utf8.text) in
    let before = Appends-trans c.in_ok-print_ascii_byte.ensures.ok c.in_ok-print_escaped.ensures.ok in
    on_ok_weaker c.print_ascii_byte-2.result (all_printed _ whole before) c.print_ascii_byte-2.ensures.ok

pub returns-clause-refused : goal.returns-clause-refused
returns-clause-refused c =
    let whole = ap (λ (t : List ℕ). 34 ∷ (t ++ 34 ∷ [])) (units_text-bytes c.args.text.now c.utf8.text) in
    let before = Appends-trans c.in_ok-print_ascii_byte.ensures.ok c.in_ok-print_escaped.ensures.ok in
    on_err_weaker c.print_ascii_byte-2.result (λ u. refused_after _ whole before (refused_at_once _ u)) c.print_ascii_byte-2.ensures.err
