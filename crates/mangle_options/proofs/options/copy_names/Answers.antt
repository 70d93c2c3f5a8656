use Rattle.std.specs.Map.Iter.{deref}
use Rattle.std.proofs.lemmas.Map.Iter.{rest_all, rest_more}
use Rattle.scope_rules.specs.Bindings.{same_name}
use Rattle.scope_rules.specs.PrivateNames.{is_among}
use Rattle.mangle_options.proofs.NameSets.{copied_all, copied_more, copied_none, fewer, none_more}
use Rattle.mangle_options.proofs.options.copy_names.Goals as goal

pub loop-name-init : goal.loop-name-init
loop-name-init c = record {
  names = λ x. copied_none c.args.names.now.keys c.new-copy.result.keys _ x c.new-copy.ensures.empty c.into_iter-name-iterator.ensures.into_iter_gives.0;
  few = none_more c.new-copy.result.keys _ c.args.names.now.keys c.new-copy.ensures.empty c.into_iter-name-iterator.ensures.into_iter_gives.0;
}

pub loop-name-preserved : goal.loop-name-preserved
unfolding is_among same_name
loop-name-preserved c =
    let e = rest_more deref c.loop-name.name-iterator c.next.new.self c.next.result c.in-Some.name c.in-Some.is c.next.ensures.steps in
    record {
      names = λ x. copied_more c.args.names.now.keys c.loop-name.copy.keys x _ _ _ _ _ (c.loop-name.invariant.names x) e c.in_ok-try_clone.ensures (c.in_ok-insert.ensures.updates.0 x);
      few = fewer _ _ _ _ _ _ _ e c.loop-name.invariant.few c.in_ok-insert.ensures.len;
    }

pub returns-clause-same : goal.returns-clause-same
returns-clause-same c =
    λ x. copied_all c.args.names.now.keys c.loop-name.copy.keys x _ (c.loop-name.invariant.names x) (rest_all deref c.loop-name.name-iterator c.next.new.self c.next.result c.in-None.is c.next.ensures.steps)
