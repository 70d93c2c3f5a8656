use Rattle.std.proofs.Common.{◌≡◌, ℕ, false, length, replicate, Bool, ap, ◌∙◌, arith, refl}
use Rattle.std.proofs.lemmas.List.{length-replicate}
use Rattle.place_list.specs.TableViews.{place_in, places_in}
use Rattle.scope_marks.proofs.MarkedOutwards.{length_each}
use Rattle.scope_marks.proofs.MarksHold.{all_places, evals_are_held, evals_more, no_evals}
use Rattle.scope_marks.specs.Marks.{eval_scopes, mark_each}
use Rattle.scope_marks.proofs.evals.scopes_with_evals.Goals as goal

pub loop-i-init : goal.loop-i-init
loop-i-init g c =
    let n : c.len.result ≡ length c.args.list.now.scopes.items = omega (arith, c.len.ensures, c.args.list.now.scopes.ok) in
    let start : c.in_ok-bits.bits ≡ replicate (length c.args.list.now.scopes.items) false = c.in_ok-bits.ensures ∙ ap (λ (k : ℕ). replicate k false) n in
    record {
      room = ap (length {A = Bool}) start ∙ length-replicate (length c.args.list.now.scopes.items) false;
      so_far = start ∙ no_evals (replicate (length c.args.list.now.scopes.items) false);
    }

pub loop-i-preserved : goal.loop-i-preserved
loop-i-preserved g c = record {
  room = ap (length {A = Bool}) c.mark_eval.ensures ∙ length_each c.loop-i.bits _ ∙ c.loop-i.invariant.room;
  so_far = evals_more (places_in c.args.list.now) c.loop-i.i (place_in c.args.list.now c.place.result) _ c.loop-i.bits c.mark_eval.new.bits c.place.ensures.stands c.loop-i.invariant.so_far c.mark_eval.ensures;
}

pub returns : goal.returns
returns g c =
    let l = c.args.list.now in
    evals_are_held l c.requires (length l.scopes.items) c.loop-i.bits refl
    (c.loop-i.invariant.so_far ∙ ap (λ ps. mark_each (replicate (length l.scopes.items) false) (eval_scopes ps)) (all_places l c.loop-i.i (omega arith)))
