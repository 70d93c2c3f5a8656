use Rattle.std.specs.Prelude.{Bool, ◌&&◌}
use Rattle.std.proofs.Common.{ap, sym, ◌∙◌}
use Rattle.place_list.specs.Tables.{place_of}
use Rattle.scope_report.specs.Rules.{uses}
use Rattle.scope_tables.specs.Views.{bound_of}
use Rattle.scope_rules.specs.Bindings.{is_node}
use Rattle.scope_report.proofs.used.used_binding.Goals as goal

pub returns-then-refers : goal.returns-then-refers
unfolding uses bound_of place_of
returns-then-refers c = λ l n.
    sym (ap (λ (t : Bool). t && is_node c.args.place.now.binding n) (sym (c.refers.ensures l) ∙ c.if-refers.true))

pub returns-else-refers : goal.returns-else-refers
unfolding uses bound_of place_of is_node
returns-else-refers c = λ l n.
    sym (ap (λ (t : Bool). t && is_node c.args.place.now.binding n) (sym (c.refers.ensures l) ∙ c.if-refers.false))
