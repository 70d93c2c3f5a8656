use Rattle.std.proofs.Common.{◌≡◌, length, map, take}
use Rattle.place_list.proofs.Numbering.{HaveNumbers}
use Rattle.place_list.specs.Names.{IsNumbering, at_name}
use Rattle.place_list.specs.TableViews.{entry_view}
use Rattle.place_list.proofs.names.number_names.Given as goal

abbrev pub invariant-loop-i : goal.invariant-loop-i
invariant-loop-i l = record {
  ends : l.i-end ≡ length l.places.items;
  same : map entry_view l.places.items ≡ map entry_view l.fn.places.items;
  numbering : IsNumbering l.numbers;
  numbered : HaveNumbers (at_name l.numbers) (take l.i l.places.items);
}
