use Rattle.std.specs.Prelude.{Bool, ◌&&◌}
use Rattle.std.proofs.Common.{sym, ap, ◌∙◌}
use Rattle.place_list.specs.TableViews.{classes_at}
use Rattle.place_list.specs.Tables.{setting_of, site_of}
use Rattle.scope_rules.specs.Bindings.{is_node}
use Rattle.scope_rules.specs.PrivateNames.{declares_private, is_innermost}
use Rattle.scope_tables.proofs.Numbers.{class_is_known}
use Rattle.scope_tables.proofs.PrivatePlaces.{innermost_is_first}
use Rattle.scope_tables.proofs.private_names.declared_class.Goals as goal

pub returns-then-is_private_key : goal.returns-then-is_private_key
unfolding declares_private site_of setting_of
returns-then-is_private_key c = λ k.
    let l = c.args.list.now in
    let o = c.args.place.now.setting.class_body in
    sym (ap (λ (b : Bool). b && is_innermost k (classes_at l o)) (sym c.is_private_key.ensures ∙ c.if-is_private_key.true) ∙ innermost_is_first l c.requires.bounded o (class_is_known l c.args.place.now c.requires) k)

pub returns-else-is_private_key : goal.returns-else-is_private_key
unfolding declares_private site_of setting_of is_node
returns-else-is_private_key c = λ k.
    sym (ap (λ (b : Bool). b && is_innermost k (classes_at c.args.list.now c.args.place.now.setting.class_body)) (sym c.is_private_key.ensures ∙ c.if-is_private_key.false))
