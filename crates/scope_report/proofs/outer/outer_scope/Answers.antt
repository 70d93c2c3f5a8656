use Rattle.std.specs.Prelude.{Option, Some, length, ℕ}
use Rattle.std.proofs.Common.{ap, subst, sym, ◌∙◌}
use Rattle.place_list.proofs.OutwardWalks.{lower}
use Rattle.place_list.specs.TableViews.{lists_in, scope_at}
use Rattle.scope_report.specs.Rules.{outside}
use Rattle.scope_tables.proofs.Numbers.{none_outside}
use Rattle.scope_tables.specs.Views.{IsScope}
use Rattle.scope_report.proofs.outer.outer_scope.Goals as goal

pub returns-in-Some : goal.returns-in-Some
unfolding outside
returns-in-Some c =
    let l = c.args.list.now in
    let known : IsScope l (Some c.in-Some.number) = subst (IsScope l) c.in-Some.is c.requires.scope in
    record {
      outside = sym (ap (λ (o : Option ℕ). outside (scope_at l o)) c.in-Some.is ∙ ap outside c.parent.ensures.outwards);
      known = lower (length l.scopes.items) c.in-Some.number c.parent.result known c.parent.ensures.below;
    }

pub returns-in-None : goal.returns-in-None
unfolding outside
returns-in-None c =
    let l = c.args.list.now in
    let none = none_outside (lists_in l).scopes in
    record {
      outside = none ∙ sym (ap (λ (o : Option ℕ). outside (scope_at l o)) c.in-None.is ∙ ap outside none);
      known = tt;
    }
