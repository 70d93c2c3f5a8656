use Rattle.std.proofs.Common.{ap, length, ◌∙◌}
use Rattle.place_list.specs.declared.tables.PlaceList.{PlaceList}
use Rattle.private_numbers.proofs.numbers.class_count.Goals as goal

pub returns : goal.returns
returns c = ap length c.as_slice.ensures.value ∙ ap (λ (l : PlaceList). length l.class_bodies.items) c.list.ensures
