use Rattle.std.proofs.Common.{◌≡◌, ◌+◌, ◌<◌, ◌^◌, drop}
use Rattle.serde_json.specs.View.{items_view, members_view}
use Rattle.tree_core.specs.Limits.{has_long_item, has_long_member, objects_in_items, objects_in_members}
use Rattle.tree_core.proofs.ObjectCounts.{counted}
use Rattle.tree_core.proofs.limits.+count.Given as goal

-- what is left is counted on top of the sum
abbrev pub invariant-item_objects-loop-item : goal.invariant-item_objects-loop-item
invariant-item_objects-loop-item l =
    let left = items_view (drop l.item-index l.item-items) in
    (l.sum < 2 ^ 64) × (counted (has_long_item (items_view l.item-items)) (objects_in_items (items_view l.item-items)) ≡ counted (has_long_item left) (l.sum + objects_in_items left))

abbrev pub invariant-member_objects-loop-key : goal.invariant-member_objects-loop-key
invariant-member_objects-loop-key l =
    let all = members_view l.members.entries in
    let left = members_view l.key-iterator in
    (l.sum < 2 ^ 64) × (counted (has_long_member all) (objects_in_members all) ≡ counted (has_long_member left) (l.sum + objects_in_members left))
