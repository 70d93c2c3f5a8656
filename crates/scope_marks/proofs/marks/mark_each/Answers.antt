use Rattle.std.proofs.Common.{length, Bool, ap, ◌∙◌}
use Rattle.list_laws.proofs.AllOf.{all_by_place}
use Rattle.place_list.specs.Bounds.{IsBelow}
use Rattle.place_list.specs.TableViews.{scope_at}
use Rattle.scope_marks.proofs.MarkedOutwards.{length_up}
use Rattle.scope_marks.proofs.StepsOutwards.{each_more, each_none}
use Rattle.scope_marks.proofs.marks.mark_each.Goals as goal

pub loop-scope-init : goal.loop-scope-init
loop-scope-init g c = record { room = c.requires.room; so_far = each_none c.args.bits.now }

pub mark_outwards-requires-clause-scope : goal.mark_outwards-requires-clause-scope
mark_outwards-requires-clause-scope g c = all_by_place (IsBelow (length c.args.list.now.scopes.items)) c.args.scopes.now c.loop-scope.scope-index _ c.requires.scopes c.loop-scope-test.true

pub loop-scope-preserved : goal.loop-scope-preserved
loop-scope-preserved g c = record {
  room = ap (length {A = Bool}) c.mark_outwards.ensures ∙ length_up c.loop-scope.bits _ ∙ c.loop-scope.invariant.room;
  so_far = each_more (scope_at c.args.list.now) c.args.scopes.now _ c.args.bits.now c.loop-scope.bits c.mark_outwards.new.bits c.loop-scope.scope-index c.loop-scope-test.true c.loop-scope.invariant.so_far c.mark_outwards.ensures;
}
