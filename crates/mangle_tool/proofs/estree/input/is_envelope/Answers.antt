use Rattle.std.proofs.Common.{◌≡◌, true, false, nat_eq, arith, is_some, option_and_then, codes, sym, ap, ◌∙◌}
use Rattle.std.proofs.lemmas.Bool.Decides.{nat_tests}
use Rattle.serde_json.specs.Find.{as_array}
use Rattle.mangle_tool.proofs.WrappedWithin.{member_found, envelope_counted}
use Rattle.mangle_tool.proofs.estree.input.is_envelope.Goals as goal

pub returns-then-len-eq2 : goal.returns-then-len-eq2
returns-then-len-eq2 c =
    c.is_list.ensures
    ∙ ap (λ o. is_some (option_and_then as_array o)) (member_found (codes "fixes") c.args.members.now.entries c.get.result c.get.ensures.value)
    ∙ sym (envelope_counted c.args.members.now.entries c.len.result true c.len.ensures.len (ap (λ n. nat_eq n 2) c.if-len-eq2.true))

pub returns-else-len-eq2 : goal.returns-else-len-eq2
returns-else-len-eq2 c =
    let other : nat_eq c.len.result 2 ≡ false = (let apart = c.if-len-eq2.false in grind (arith, nat_tests, apart)) in
    other ∙ sym (envelope_counted c.args.members.now.entries c.len.result false c.len.ensures.len other)
