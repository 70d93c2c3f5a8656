use Rattle.std.specs.Prelude.{Bool, true, cond, length, Some}
use Rattle.std.proofs.Common.{ap, sym, subst, ◌∙◌}
use Rattle.place_list.proofs.OutwardWalks.{lower}
use Rattle.place_list.specs.Bounds.{IsBelow}
use Rattle.place_list.specs.TableViews.{heads_at, lists_in}
use Rattle.scope_tables.specs.Reach.{has}
use Rattle.scope_tables.proofs.Puts.{is_eq_pair}
use Rattle.scope_tables.proofs.Reaching.{put_all, put_further}
use Rattle.scope_tables.proofs.reach_sets.put_heads.Goals as goal

pub loop-at-preserved : goal.loop-at-preserved
loop-at-preserved c =
    let l = c.args.list.now in
    let entry = c.head-entry.result in
    let below : IsBelow (length l.heads.items) (Some c.in-Some.number) = subst (IsBelow (length l.heads.items)) c.in-Some.is c.loop-at.invariant.below in
    record {
      below = lower (length l.heads.items) c.in-Some.number entry.parent below c.head-entry.ensures.below;
      puts = λ f n. c.loop-at.invariant.puts f n
          ∙ put_further (heads_at l) entry.scope c.loop-at.at entry.parent c.in-Some.number c.in-Some.is c.head-entry.ensures.outwards (has c.loop-at.set) c.args.node
          (has c.insert.new.self) (λ g m. c.in_ok-insert.ensures.updates.0 (record { scope = g; node = m }) ∙ ap (λ (b : Bool). cond b true (has c.loop-at.set g m)) (is_eq_pair entry.scope g c.args.node m)) f n;
    }

pub returns : goal.returns
returns c = λ f n.
    sym (c.loop-at.invariant.puts f n ∙ put_all (lists_in c.args.list.now).heads c.loop-at.at c.in_default.is (has c.loop-at.set) c.args.node f n)
