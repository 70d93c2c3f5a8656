use Rattle.std.proofs.Common.{ap, ◌∙◌}
use Rattle.place_list.specs.Tables.{place_of, setting_of, site_of}
use Rattle.scope_tables.specs.Reach.{has}
use Rattle.scope_tables.specs.Views.{bound_of}
use Rattle.scope_tables.proofs.FirstPlaces.{contains_at}
use Rattle.scope_tables.proofs.Numbers.{head_is_known}
use Rattle.scope_tables.proofs.Reaching.{heads_passed, heads_put}
use Rattle.scope_tables.proofs.reach_sets.heads_of.Goals as goal
use Rattle.scope_tables.proofs.reach_sets.heads_of.Goals.{in-Some+in_ok-put_heads, in_default}

pub put_heads-requires : goal.put_heads-requires
put_heads-requires c =
    let stands = c.requires _ (contains_at c.args.places.now c.loop-place.place-index _ c.loop-place-test.true) in
    record { bounded = stands.bounded; head = head_is_known c.args.list.now _ stands }

pub loop-place-preserved : goal.loop-place-preserved
unfolding bound_of place_of site_of setting_of
loop-place-preserved c =
    let ss = c.args.list.now in
    let all = c.args.places.now in
    let l = c.loop-place in
    elim c.match-declared_binding.branch [
      | in-Some+in_ok-put_heads w ↦ λ f n. ap (λ s. has s f n) w.heads-is
          ∙ heads_put ss all l.place-index _ c.loop-place-test.true (has l.heads) l.invariant c.declared_binding.result (c.declared_binding.ensures ss) w.in-Some.node w.in-Some.is
          (has w.put_heads.new.set) w.in_ok-put_heads.ensures f n
      | in_default w ↦ λ f n. ap (λ s. has s f n) w.heads-is
          ∙ heads_passed ss all l.place-index _ c.loop-place-test.true (has l.heads) l.invariant c.declared_binding.result (c.declared_binding.ensures ss) w.in_default.is f n
    ]
