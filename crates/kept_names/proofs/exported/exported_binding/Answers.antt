use Rattle.std.specs.Prelude.{Bool, ◌&&◌}
use Rattle.std.proofs.Common.{ap, sym, ◌∙◌}
use Rattle.kept_names.specs.Marks.{exports}
use Rattle.kept_names.specs.Views.{bound_of}
use Rattle.place_list.specs.Tables.{place_of, setting_of, site_of}
use Rattle.scope_rules.specs.Bindings.{is_node}
use Rattle.kept_names.proofs.exported.exported_binding.Goals as goal
use Rattle.kept_names.proofs.exported.exported_binding.Goals.{else-declares-via-else-declares, else-declares-via-then-declares+else-place}

pub returns-then-place : goal.returns-then-place
unfolding exports bound_of place_of site_of setting_of
returns-then-place c = λ l n.
    let p = c.args.place.now in
    sym (ap (λ (t : Bool). t && p.place.setting.exported && is_node p.binding n) (sym (c.declares.ensures l) ∙ c.if-declares.true) ∙ ap (λ (t : Bool). t && is_node p.binding n) c.if-place.true)

pub returns-else-declares : goal.returns-else-declares
unfolding exports bound_of place_of site_of setting_of is_node
returns-else-declares c =
    let p = c.args.place.now in
    elim c.else-declares.branch [
      | else-declares-via-then-declares+else-place w ↦ λ l n.
          sym (ap (λ (t : Bool). t && p.place.setting.exported && is_node p.binding n) (sym (c.declares.ensures l) ∙ w.if-declares.true) ∙ ap (λ (t : Bool). t && is_node p.binding n) w.if-place.false)
      | else-declares-via-else-declares w ↦ λ l n.
          sym (ap (λ (t : Bool). t && p.place.setting.exported && is_node p.binding n) (sym (c.declares.ensures l) ∙ w.if-declares.false))
    ]
