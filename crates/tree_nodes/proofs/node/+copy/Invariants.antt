use Rattle.std.proofs.Common.{◌≡◌, take, map}
use Rattle.tree_nodes.specs.Views.{part_of}
use Rattle.tree_nodes.proofs.node.+copy.Given as goal

abbrev pub invariant-FieldList::try_clone-loop-field : goal.invariant-FieldList::try_clone-loop-field
invariant-FieldList::try_clone-loop-field l = map part_of l.copies.items ≡ map part_of (take l.field-index l.field-items)

abbrev pub invariant-NodeList::try_clone-loop-item : goal.invariant-NodeList::try_clone-loop-item
invariant-NodeList::try_clone-loop-item l = l.copies.items ≡ take l.item-index l.item-items
