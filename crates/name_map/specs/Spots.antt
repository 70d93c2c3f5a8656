-- What the code takes from the places and the Properties of a tree.
use Rattle.std.specs.Prelude.{Bool, true, false, not, ◌&&◌, List, [], ◌∷◌, ◌++◌, bytes_eq, if◌then◌else◌}
use Rattle.name_map.specs.declared.spots.Pair.{Pair}
use Rattle.place_list.specs.declared.tables.PlaceEntry.{PlaceEntry}
use Rattle.tree_nodes.specs.Standing.{own_name}
use Rattle.tree_nodes.specs.Tree.{Parts, atom, child, done, flag_of, many, part}
use Rattle.tree_nodes.specs.declared.table.Role.TheVariants.{MemberKey, Plain}
use Rattle.tree_places.specs.Renaming.{is_property}

-- whether an entry is that of a plain place
unfoldable pub is_plain_entry : PlaceEntry → Bool
is_plain_entry e = not e.private && elim (e.setting.role) [ Plain ↦ true | MemberKey ↦ true | _ ↦ false ]

abbrev pub pair : Parts → Pair
pair fields = record { marked = flag_of (part fields 4); agrees = bytes_eq (own_name (part fields 1)) (own_name (part fields 2)) }

-- of each Property in printing order
unfoldable pub pairs : Parts → List Pair
pairs done = []
pairs (atom x more) = pairs more
pairs (many items more) = pairs items ++ pairs more
pairs (child k s e fields more) = (if is_property k then pair fields ∷ pairs fields else pairs fields) ++ pairs more
