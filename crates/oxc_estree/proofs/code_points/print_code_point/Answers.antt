use Rattle.std.proofs.Common.{rules, ◌≡◌, [], ◌++◌, cond, false, ap}
use Rattle.json_text.specs.Strings.{char_text, flush, is_lead, is_trail, trail_text}
use Rattle.oxc_estree.specs.CodePoints.{point_char}
use Rattle.oxc_estree.proofs.Refusals.{at_err, refused_before}
use Rattle.oxc_estree.proofs.code_points.print_code_point.Goals as goal

pub returns-in_err-print_lead-clause-refused : goal.returns-in_err-print_lead-clause-refused
returns-in_err-print_lead-clause-refused c =
    let p = c.args.lead in
    let u = c.args.code_point in
    let no_trail : is_trail u ≡ false = search rules in
    let rest = cond (is_lead u) [] (char_text (point_char u)) in
    at_err _ (refused_before _ rest (ap (λ t. cond t (trail_text p u) (flush p ++ rest)) no_trail) c.in_err-print_lead.ensures.refused)
