use Rattle.std.specs.Prelude.{suc}
use Rattle.std.specs.Map.{lookup}
use Rattle.std.proofs.Common.{ap, ◌∙◌}
use Rattle.scope_rules.specs.Bindings.{node_of}
use Rattle.scope_tables.specs.Keys.{at_key, is_key, number_from}
use Rattle.scope_tables.proofs.FirstPlaces.{contains_at}
use Rattle.scope_tables.proofs.PrivatePlaces.{private_passed, private_put}
use Rattle.scope_tables.proofs.private_names.private_declarations.Goals as goal
use Rattle.scope_tables.proofs.private_names.private_declarations.Goals.{in-Some+in_ok-put_first, in_default}

pub loop-place-init : goal.loop-place-init
unfolding node_of
loop-place-init c = λ k q j. ap (lookup (is_key (suc k) q.name_number)) c.new-firsts.ensures.empty

pub declared_class-requires : goal.declared_class-requires
declared_class-requires c = c.requires.stands _ (contains_at c.args.places.now c.loop-place.place-index _ c.loop-place-test.true)

pub loop-place-preserved : goal.loop-place-preserved
unfolding number_from
loop-place-preserved c =
    let ss = c.args.list.now in
    let all = c.args.places.now in
    let l = c.loop-place in
    elim c.match-declared_class.branch [
      | in-Some+in_ok-put_first w ↦ λ k q j. ap (λ m. at_key m (suc k) q.name_number) w.firsts-is
          ∙ private_put ss all c.requires.numbered (at_key l.firsts) l.place-index _ c.loop-place-test.true l.invariant c.declared_class.result c.declared_class.ensures w.in-Some.class_body w.in-Some.is
          w.new-key.result.within w.new-key.result.name w.new-key.ensures.within w.new-key.ensures.name (at_key w.put_first.new.firsts) w.in_ok-put_first.ensures k q j
      | in_default w ↦ λ k q j. ap (λ m. at_key m (suc k) q.name_number) w.firsts-is
          ∙ private_passed ss all c.requires.numbered (at_key l.firsts) l.place-index _ c.loop-place-test.true l.invariant c.declared_class.result c.declared_class.ensures w.in_default.is k q j
    ]
