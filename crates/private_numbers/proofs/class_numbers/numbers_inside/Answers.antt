use Rattle.std.proofs.Common.{◌+◌, refl, sym, ◌∙◌}
use Rattle.std.proofs.lemmas.Result.{IfOk-weaker}
use Rattle.class_tables.specs.PrivateTables.{list_in}
use Rattle.place_list.specs.TableViews.{classes_at, places_in}
use Rattle.private_numbers.proofs.Numbered.{numbers_at_positions, numbers_in_a_row}
use Rattle.private_numbers.proofs.OpenNames.{none_avoided}
use Rattle.private_numbers.proofs.class_numbers.numbers_inside.Goals as goal

pub returns-then-lies_in_open : goal.returns-then-lies_in_open
returns-then-lies_in_open c =
    let l = list_in c.args.table.now in
    IfOk-weaker c.unlisted.result _ _
    (λ v at. numbers_at_positions (places_in l) (classes_at l c.args.outwards) c.closed_count-first.result c.args.count (c.closed_count-first.result + c.args.count) v.items c.closed_count-first.ensures refl at)
    c.unlisted.ensures

pub returns-else-lies_in_open : goal.returns-else-lies_in_open
returns-else-lies_in_open c =
    let l = list_in c.args.table.now in
    IfOk-weaker c.consecutive.result _ _
    (λ v row. numbers_in_a_row (places_in l) (classes_at l c.args.outwards) c.closed_count-first.result c.args.count (c.closed_count-first.result + c.args.count) v.items c.closed_count-first.ensures refl
    (none_avoided (places_in l) (classes_at l c.args.outwards) (sym c.lies_in_open.ensures ∙ c.if-lies_in_open.false)) row)
    c.consecutive.ensures
