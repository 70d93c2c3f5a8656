use Rattle.std.proofs.Common.{◌≡◌, None, false, nat_eq, arith, option_map, sym, ap, ◌∙◌, rules}
use Rattle.std.proofs.lemmas.Bool.Decides.{nat_tests}
use Rattle.mangle_tool.proofs.WrappedWithin.{member_found}
use Rattle.serde_json.specs.View.{view}
use Rattle.tool_commands.proofs.Pairs.{both_there, first_missing, other_count, pair_counted, second_missing}
use Rattle.tool_commands.specs.Pairs.{pair}
use Rattle.tool_commands.proofs.members.pair_among.Goals as goal

pub returns-in_err-get : goal.returns-in_err-get
returns-in_err-get c =
    let es = c.args.members.now.entries in
    let one = c.args.one.now in
    let gone : c.from_residual.result ≡ None = search rules in
    rw gone (sym (pair_counted one c.args.other.now es c.len.result c.len.ensures.len c.if-len-eq2.true
    ∙ first_missing pair _ _ (sym (member_found one es c.get.result c.get.ensures.value) ∙ ap (option_map (λ v. view v.now)) c.in_err-get.was)))

pub returns-in_err-get-2 : goal.returns-in_err-get-2
returns-in_err-get-2 c =
    let es = c.args.members.now.entries in
    let other = c.args.other.now in
    let gone : c.from_residual-in_err-get-2.result ≡ None = search rules in
    rw gone (sym (pair_counted c.args.one.now other es c.len.result c.len.ensures.len c.if-len-eq2.true
    ∙ second_missing pair _ _ (sym (member_found other es c.get-then-len-eq2.result c.get-then-len-eq2.ensures.value) ∙ ap (option_map (λ v. view v.now)) c.in_err-get-2.was)))

pub returns-in_ok-get-2 : goal.returns-in_ok-get-2
returns-in_ok-get-2 c =
    let es = c.args.members.now.entries in
    let one = c.args.one.now in
    let other = c.args.other.now in
    sym (pair_counted one other es c.len.result c.len.ensures.len c.if-len-eq2.true
    ∙ both_there pair _ _ (view c.in_ok-get.field-0.now) (view c.in_ok-get-2.field-0.now)
    (sym (member_found one es c.get.result c.get.ensures.value) ∙ ap (option_map (λ v. view v.now)) c.in_ok-get.was)
    (sym (member_found other es c.get-then-len-eq2.result c.get-then-len-eq2.ensures.value) ∙ ap (option_map (λ v. view v.now)) c.in_ok-get-2.was))

pub returns-else-len-eq2 : goal.returns-else-len-eq2
returns-else-len-eq2 c =
    let counted : nat_eq c.len.result 2 ≡ false = (let apart = c.if-len-eq2.false in grind (arith, nat_tests, apart)) in
    sym (other_count c.args.one.now c.args.other.now c.args.members.now.entries c.len.result c.len.ensures.len counted)
