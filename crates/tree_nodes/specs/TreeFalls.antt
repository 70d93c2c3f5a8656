-- Each child is smaller than the list that holds it.
use Rattle.std.specs.Prelude.{◌≡◌, ◌+◌, ◌≤◌, List, [], ◌∷◌, Option, Some, None}
use Rattle.std.proofs.Common.{arith}
use denote.Param.Weighed.{most}
use Rattle.tree_nodes.specs.Tree.{Tree}
use Rattle.tree_nodes.specs.Look.{parts_size, tree_size, part_size}
use Rattle.tree_nodes.specs.Views.{part_of, parts_of, items_of}
use Rattle.tree_nodes.specs.declared.node.Field.{Field}
use Rattle.tree_nodes.specs.declared.node.Field.TheVariants.{Empty, Flag, Word, Text, Str, Whole, Child, List as Several}
use Rattle.tree_nodes.specs.declared.node.FieldList.TheDeep.{deep-Field}
use Rattle.tree_nodes.specs.declared.node.FieldList.TheShapes.{weighed-NodeList-items-at-1}

pub part_falls : (f : Field) → deep-Field f ≤ part_size (part_of f)
part_falls Empty = omega arith
part_falls (Flag b) = omega arith
part_falls (Word w) = omega arith
part_falls (Text t) = omega arith
part_falls (Str us) = omega arith
part_falls (Whole n) = omega arith
part_falls (Child b) = omega arith
part_falls (Several ts) = omega arith

put_size : (f : Field) (fs : List Field) → parts_size (parts_of (f ∷ fs)) ≡ part_size (part_of f) + parts_size (parts_of fs) + 1
put_size Empty fs = omega arith
put_size (Flag b) fs = omega arith
put_size (Word w) fs = omega arith
put_size (Text t) fs = omega arith
put_size (Str us) fs = omega arith
put_size (Whole n) fs = omega arith
put_size (Child b) fs = omega arith
put_size (Several ts) fs = omega arith

pub parts_fall : (fs : List Field) → most deep-Field fs ≤ parts_size (parts_of fs)
parts_fall [] = omega arith
parts_fall (f ∷ fs) = omega (arith, part_falls f, parts_fall fs, put_size f fs)

pub items_fall : (ts : List (Option Tree)) → most (λ t. weighed-NodeList-items-at-1.weight Tree (λ y. tree_size y + 1) t) ts ≤ parts_size (items_of ts)
items_fall [] = omega arith
items_fall (None ∷ ts) = omega (arith, items_fall ts)
items_fall (Some t ∷ ts) = omega (arith, items_fall ts)
