use Rattle.std.specs.Prelude.{ℕ, suc, Bool, find, None, if◌then◌else◌}
use Rattle.std.proofs.Common.{sym, ap, ◌∙◌}
use Rattle.place_list.specs.TableViews.{classes_at}
use Rattle.place_list.specs.Tables.{place_of, setting_of, site_of}
use Rattle.scope_rules.specs.Bindings.{node_of, same_name}
use Rattle.scope_rules.specs.PrivateNames.{declares_private_name, private_binder, private_binding}
use Rattle.scope_tables.specs.Keys.{at_key}
use Rattle.scope_tables.specs.Views.{places_of}
use Rattle.scope_tables.proofs.Numbers.{class_is_known}
use Rattle.scope_tables.proofs.PrivatePlaces.{nearest_alike, nearest_is_private_binder}
use Rattle.scope_tables.proofs.private_names.private_binding.Goals as goal

pub nearest_class-requires : goal.nearest_class-requires
nearest_class-requires c = record { bounded = c.requires.bounded; class_body = class_is_known c.args.list.now c.args.place.now c.requires }

pub returns-then-place : goal.returns-then-place
unfolding private_binding place_of site_of setting_of
returns-then-place c = λ all holds j.
    let l = c.args.list.now in
    let q = c.args.place.now in
    let cs = classes_at l q.setting.class_body in
    c.nearest_class.ensures
    ∙ nearest_alike (λ (k : ℕ). at_key c.args.declarations.now (suc k) q.name_number) (λ (k : ℕ). node_of (find (declares_private_name same_name q.name.now k) (places_of l all))) (λ k. holds k q j) cs
    ∙ nearest_is_private_binder (places_of l all) q.name.now cs
    ∙ sym (ap (λ (b : Bool). if b then private_binder same_name (places_of l all) q.name.now cs else None) c.if-place.true)

pub returns-else-place : goal.returns-else-place
unfolding private_binding place_of site_of setting_of
returns-else-place c = λ all holds j.
    let l = c.args.list.now in
    let q = c.args.place.now in
    sym (ap (λ (b : Bool). if b then private_binder same_name (places_of l all) q.name.now (classes_at l q.setting.class_body) else None) c.if-place.false)
