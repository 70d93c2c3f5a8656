use Rattle.std.proofs.Common.{List, Bool, length, ap, map, ◌∙◌}
use Rattle.std.proofs.lemmas.List.{length-set}
use Rattle.live_slots.specs.Open.{all_open}
use Rattle.place_list.specs.TableViews.{scope_at}
use Rattle.scope_marks.specs.Marks.{mark_each}
use Rattle.live_slots.proofs.give.mark_group.Goals as goal

pub mark_each-requires-clause-room : goal.mark_each-requires-clause-room
mark_each-requires-clause-room g c = ap (length {A = Bool}) c.set_bit.ensures ∙ length-set c.args.bits.now c.args.home _ ∙ c.requires.room

pub returns : goal.returns
unfolding all_open
returns g c = c.mark_each.ensures ∙ ap (λ (bits : List Bool). mark_each bits (map (scope_at c.args.list.now) c.args.places.now)) c.set_bit.ensures
