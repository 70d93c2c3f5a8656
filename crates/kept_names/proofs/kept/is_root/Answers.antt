use Rattle.std.specs.Prelude.{Some}
use Rattle.std.proofs.Common.{ap, subst, sym, ◌∙◌}
use Rattle.kept_names.proofs.KeptBindings.{none_is_root, root_is}
use Rattle.name_rules.specs.Kept.{is_root}
use Rattle.place_list.specs.TableViews.{scope_at}
use Rattle.scope_tables.specs.Views.{IsScope}
use Rattle.kept_names.proofs.kept.is_root.Goals as goal

pub returns-in-Some : goal.returns-in-Some
returns-in-Some c =
    let l = c.args.list.now in
    let known : IsScope l (Some c.in-Some.number) = subst (IsScope l) c.in-Some.is c.requires.scope in
    root_is l c.requires.bounded c.in-Some.number known c.parent.result c.parent.ensures.below c.parent.ensures.outwards c.is_none.result c.is_none.ensures
    ∙ sym (ap (λ o. is_root (scope_at l o)) c.in-Some.is)

pub returns-in-None : goal.returns-in-None
returns-in-None c =
    let l = c.args.list.now in
    none_is_root l ∙ sym (ap (λ o. is_root (scope_at l o)) c.in-None.is)
