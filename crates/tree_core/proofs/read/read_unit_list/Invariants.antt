use Rattle.std.proofs.Common.{◌≡◌, ◌++◌, option_map, drop}
use Rattle.serde_json.specs.View.{items_view}
use Rattle.tree_core.specs.JsonOf.{items_of}
use Rattle.tree_core.specs.Reading.{units_in_list}
use Rattle.tree_core.proofs.read.read_unit_list.Given as goal

-- the units that are read stand before those that are left
abbrev pub invariant-loop-item : goal.invariant-loop-item
invariant-loop-item l =
    units_in_list (items_of (items_view l.item-items))
    ≡ option_map (λ us. l.units.items ++ us) (units_in_list (items_of (items_view (drop l.item-index l.item-items))))
