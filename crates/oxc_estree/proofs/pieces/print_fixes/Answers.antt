use Rattle.std.proofs.Common.{◌++◌, ◌∙◌, ap, codes, sym, List, ℕ}
use Rattle.std.proofs.lemmas.Result.{on_ok_weaker}
use Rattle.oxc_estree.specs.Envelope.{without_comma}
use Rattle.oxc_estree.proofs.Refusals.{Appends-trans, all_printed}
use Rattle.oxc_estree.proofs.pieces.print_fixes.Goals as goal

pub returns : goal.returns
returns c =
    let whole = ap (λ (t : List ℕ). codes "\n,\"fixes\":[" ++ (t ++ codes "]}")) (sym (c.skip_comma.ensures ∙ ap without_comma c.as_str.ensures)) in
    on_ok_weaker c.print_str-3.result
    (all_printed _ whole (Appends-trans c.in_ok-print_str.ensures.ok c.in_ok-print_str-2.ensures.ok))
    c.print_str-3.ensures.ok
