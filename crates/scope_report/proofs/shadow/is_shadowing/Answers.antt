use Rattle.std.specs.Prelude.{Bool, ◌&&◌}
use Rattle.std.proofs.Common.{ap, sym, ◌∙◌}
use Rattle.place_list.specs.TableViews.{place_in, places_in}
use Rattle.scope_report.specs.Rules.{is_declared_outside, is_shadowing}
use Rattle.scope_tables.specs.Views.{bound_of}
use Rattle.scope_report.proofs.shadow.is_shadowing.Goals as goal

pub returns-then-is_binding : goal.returns-then-is_binding
unfolding is_shadowing bound_of
returns-then-is_binding c =
    let l = c.args.tables.now.list in
    c.is_declared_outside.ensures
    ∙ sym (ap (λ (t : Bool). t && is_declared_outside (places_in l) (place_in l c.args.place.now.place)) (sym (c.is_binding.ensures l) ∙ c.if-is_binding.true))

pub returns-else-is_binding : goal.returns-else-is_binding
unfolding is_shadowing bound_of
returns-else-is_binding c =
    let l = c.args.tables.now.list in
    c.if-is_binding.false
    ∙ sym (ap (λ (t : Bool). t && is_declared_outside (places_in l) (place_in l c.args.place.now.place)) (sym (c.is_binding.ensures l) ∙ c.if-is_binding.false))
