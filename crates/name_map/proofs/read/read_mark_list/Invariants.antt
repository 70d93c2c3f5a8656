use Rattle.std.proofs.Common.{◌≡◌, ◌++◌, option_map, drop}
use Rattle.serde_json.specs.View.{items_view}
use Rattle.tree_core.specs.JsonOf.{items_of}
use Rattle.name_map.specs.Reading.{numbers_in}
use Rattle.name_map.proofs.read.read_mark_list.Given as goal

-- the numbers that are read stand before those that are left
abbrev pub invariant-loop-item : goal.invariant-loop-item
invariant-loop-item l =
    numbers_in (items_of (items_view l.item-items))
    ≡ option_map (λ ns. l.marks.items ++ ns) (numbers_in (items_of (items_view (drop l.item-index l.item-items))))
