use Rattle.std.proofs.Common.{◌≡◌, true, arith}
use Rattle.std.proofs.lemmas.Bool.Decides.{nat_tests}
use Rattle.json_text.specs.Strings.{is_lead}
use Rattle.oxc_estree.proofs.code_points.print_lead.Goals as goal

pub print_unit_escape-requires : goal.print_unit_escape-requires
print_unit_escape-requires c =
    let lead : is_lead c.in-Some.lead ≡ true = c.requires c.in-Some.lead c.in-Some.is in
    grind (arith, nat_tests)
