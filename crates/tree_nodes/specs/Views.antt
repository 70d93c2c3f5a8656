-- The data that the fields and lists of a tree stand for.
use Rattle.std.specs.Prelude.{List, [], ◌∷◌, map, Option, Some, None}
use Rattle.tree_nodes.specs.Tree.{Tree, alone, before, Parts, done, atom, many, empty as blank, flag, word, text, units, whole}
use Rattle.tree_nodes.specs.Look.{onto}
use Rattle.tree_nodes.specs.declared.node.Field.{Field}
use Rattle.tree_nodes.specs.declared.node.Field.TheVariants.{Empty, Flag, Word, Text, Str, Whole, Child, List as Several}

-- a field, as a run of one part
abbrev pub part_of : Field → Parts
part_of Empty = atom blank done
part_of (Flag b) = atom (flag b) done
part_of (Word w) = atom (word w) done
part_of (Text t) = atom (text t) done
part_of (Str us) = atom (units us) done
part_of (Whole n) = atom (whole n) done
part_of (Child b) = alone b.value
part_of (Several ts) = many ts done

abbrev pub joined : List Parts → Parts
joined [] = done
joined (p ∷ ps) = onto p (joined ps)

abbrev pub parts_of : List Field → Parts
parts_of fs = joined (map part_of fs)

-- an item of a list of optional nodes, as a run of one part: a hole, or a node
abbrev pub item_of : Option Tree → Parts
item_of None = atom blank done
item_of (Some t) = alone t

abbrev pub items_of : List (Option Tree) → Parts
items_of [] = done
items_of (None ∷ ts) = atom blank (items_of ts)
items_of (Some t ∷ ts) = before t (items_of ts)
