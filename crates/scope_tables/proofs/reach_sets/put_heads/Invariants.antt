use Rattle.std.proofs.Common.{◌≡◌, ℕ, nat_eq, length}
use Rattle.std.specs.Prelude.{◌||◌, ◌&&◌}
use Rattle.place_list.proofs.OutwardWalks.{how_far}
use Rattle.place_list.specs.Bounds.{IsBelow}
use Rattle.place_list.specs.TableViews.{heads_at}
use Rattle.scope_rules.specs.Evals.{contains}
use Rattle.scope_tables.specs.Reach.{has}
use Rattle.scope_tables.proofs.reach_sets.put_heads.Given as goal

abbrev pub invariant-loop-at : goal.invariant-loop-at
invariant-loop-at l = record {
  below : IsBelow (length l.list.heads.items) l.at;
  puts : (f n : ℕ) → (has l.initial.set f n || (nat_eq l.node n && contains (heads_at l.list l.fn.head) f)) ≡ (has l.set f n || (nat_eq l.node n && contains (heads_at l.list l.at) f));
}

abbrev pub decreases-loop-at : goal.decreases-loop-at
decreases-loop-at l = how_far l.at
