use Rattle.std.proofs.Common.{◌≡◌, ◌++◌, option_map, drop}
use Rattle.serde_json.specs.View.{items_view}
use Rattle.tree_core.specs.JsonOf.{items_of}
use Rattle.name_map.specs.Reading.{old_names_in}
use Rattle.name_map.proofs.read.read_name_list.Given as goal

-- the names that are read stand before those that are left
abbrev pub invariant-loop-item : goal.invariant-loop-item
invariant-loop-item l =
    old_names_in (items_of (items_view l.item-items))
    ≡ option_map (λ ns. l.names ++ ns) (old_names_in (items_of (items_view (drop l.item-index l.item-items))))
