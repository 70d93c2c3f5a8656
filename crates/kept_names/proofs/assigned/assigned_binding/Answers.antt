use Rattle.std.specs.Prelude.{Bool, ◌&&◌}
use Rattle.std.proofs.Common.{ap, sym, ◌∙◌}
use Rattle.kept_names.proofs.NameCauses.{and_false, and_true}
use Rattle.kept_names.specs.Keeping.{keeping}
use Rattle.kept_names.specs.Marks.{assigns}
use Rattle.kept_names.specs.Views.{bound_of}
use Rattle.name_rules.specs.Kept.{value_kept}
use Rattle.place_list.specs.Tables.{place_of, setting_of, site_of, value_of}
use Rattle.scope_rules.specs.Bindings.{is_node}
use Rattle.kept_names.proofs.assigned.assigned_binding.Goals as goal
use Rattle.kept_names.proofs.assigned.assigned_binding.Goals.{else-refers-via-else-refers, else-refers-via-then-refers+else-value_kept}

pub returns-then-value_kept : goal.returns-then-value_kept
unfolding assigns bound_of place_of site_of setting_of
returns-then-value_kept c = λ l n.
    let p = c.args.place.now in
    let kept = value_kept (keeping c.args.keep) (value_of p.place.setting.value) in
    sym (ap (λ (t : Bool). t && is_node p.binding n && kept) (sym (c.refers.ensures l) ∙ c.if-refers.true)
    ∙ ap (λ (t : Bool). is_node p.binding n && t) (sym c.value_kept.ensures ∙ c.if-value_kept.true)
    ∙ and_true (is_node p.binding n))

pub returns-else-refers : goal.returns-else-refers
unfolding assigns bound_of place_of site_of setting_of is_node
returns-else-refers c =
    let p = c.args.place.now in
    let kept = value_kept (keeping c.args.keep) (value_of p.place.setting.value) in
    elim c.else-refers.branch [
      | else-refers-via-then-refers+else-value_kept w ↦ λ l n.
          sym (ap (λ (t : Bool). t && is_node p.binding n && kept) (sym (c.refers.ensures l) ∙ w.if-refers.true)
          ∙ ap (λ (t : Bool). is_node p.binding n && t) (sym w.value_kept.ensures ∙ w.if-value_kept.false)
          ∙ and_false (is_node p.binding n))
      | else-refers-via-else-refers w ↦ λ l n.
          sym (ap (λ (t : Bool). t && is_node p.binding n && kept) (sym (c.refers.ensures l) ∙ w.if-refers.false))
    ]
