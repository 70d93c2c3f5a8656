use Rattle.std.proofs.Common.{[], ◌∷◌, Bool, ap, cond, map, sym, ◌∙◌}
use Rattle.place_list.specs.TableViews.{place_in}
use Rattle.place_list.specs.Tables.{place_of, setting_of, site_of}
use Rattle.scope_marks.specs.Marks.{eval_scopes, mark_each}
use Rattle.tree_places.specs.Places.{Place}
use Rattle.scope_marks.proofs.MarksHold.{scope_below}
use Rattle.scope_marks.proofs.evals.mark_eval.Goals as goal

pub mark_outwards-requires-clause-scope : goal.mark_outwards-requires-clause-scope
mark_outwards-requires-clause-scope g c = scope_below c.args.list.now c.requires.bounded c.args.place.now c.requires.known

pub returns-then-is_eval : goal.returns-then-is_eval
unfolding eval_scopes mark_each place_of site_of setting_of
returns-then-is_eval g c =
    let p : Place = place_in c.args.list.now c.args.place.now in
    c.mark_outwards.ensures
    ∙ sym (ap (λ (b : Bool). mark_each c.args.bits.now (map (λ (q : Place). q.site.setting.scope) (cond b (p ∷ []) []))) (sym (c.is_eval.ensures c.args.list.now) ∙ c.if-is_eval.true))

pub returns-else-is_eval : goal.returns-else-is_eval
unfolding eval_scopes mark_each place_of site_of setting_of
returns-else-is_eval g c =
    let p : Place = place_in c.args.list.now c.args.place.now in
    sym (ap (λ (b : Bool). mark_each c.args.bits.now (map (λ (q : Place). q.site.setting.scope) (cond b (p ∷ []) []))) (sym (c.is_eval.ensures c.args.list.now) ∙ c.if-is_eval.false))
