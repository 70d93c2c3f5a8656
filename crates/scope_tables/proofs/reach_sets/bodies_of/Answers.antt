use Rattle.std.specs.Prelude.{Bool, true, cond}
use Rattle.std.proofs.Common.{ap, ◌∙◌}
use Rattle.scope_tables.specs.Reach.{has}
use Rattle.scope_tables.proofs.FirstPlaces.{contains_at}
use Rattle.scope_tables.proofs.Puts.{is_eq_pair}
use Rattle.scope_tables.proofs.Reaching.{body_passed, body_taken}
use Rattle.scope_tables.proofs.reach_sets.bodies_of.Goals as goal
use Rattle.scope_tables.proofs.reach_sets.bodies_of.Goals.{in-Some+in_ok-insert, in_default}

pub loop-place-preserved : goal.loop-place-preserved
loop-place-preserved c =
    let ss = c.args.list.now in
    let all = c.args.places.now in
    let l = c.loop-place in
    let stands = c.requires _ (contains_at all l.place-index _ c.loop-place-test.true) in
    elim c.match-body_scope.branch [
      | in-Some+in_ok-insert w ↦ λ f n. ap (λ s. has s f n) w.bodies-is
          ∙ body_taken ss all l.place-index _ c.loop-place-test.true (has l.bodies) l.invariant stands c.body_scope.result (c.body_scope.ensures ss) w.in-Some.scope w.in-Some.is
          (has w.insert.new.self) (λ g m. w.in_ok-insert.ensures.updates.0 (record { scope = g; node = m }) ∙ ap (λ (b : Bool). cond b true (has l.bodies g m)) (is_eq_pair w.in-Some.scope g _ m)) f n
      | in_default w ↦ λ f n. ap (λ s. has s f n) w.bodies-is
          ∙ body_passed ss all l.place-index _ c.loop-place-test.true (has l.bodies) l.invariant stands c.body_scope.result (c.body_scope.ensures ss) w.in_default.is f n
    ]
