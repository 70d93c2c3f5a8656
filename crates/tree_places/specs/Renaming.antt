-- When one tree is another renamed.
use Rattle.std.specs.Prelude.{◌≡◌, Bool, true, false, not, ◌&&◌, List, [], ◌∷◌, ◌++◌, bytes_eq, if◌then◌else◌}
use Rattle.tree_nodes.specs.Standing.{own_name}
use Rattle.tree_nodes.specs.Tree.{Parts, Text, atom, child, done, flag_of, many, part}
use Rattle.tree_nodes.specs.declared.kind.Kind.{Kind}
use Rattle.tree_nodes.specs.declared.kind.Kind.TheVariants.{Property}
use Rattle.tree_nodes.specs.declared.table.Role.TheVariants.{MemberKey, Plain}
use Rattle.tree_places.specs.Places.{Site, hide, names, sites}

-- a tree without what a renaming may change
unfoldable pub blind : Parts → Parts
blind done = done
blind (atom x more) = atom x (blind more)
blind (many items more) = many (blind items) (blind more)
blind (child k s e fields more) = child k s e (hide k (blind fields)) (blind more)

unfoldable pub is_property : Kind → Bool
is_property Property = true
is_property _ = false

-- of each Property in printing order, whether its shorthand mark is on
unfoldable pub marks : Parts → List Bool
marks done = []
marks (atom x more) = marks more
marks (many items more) = marks items ++ marks more
marks (child k s e fields more) = (if is_property k then flag_of (part fields 4) ∷ marks fields else marks fields) ++ marks more

-- and whether its key and its value have one name
unfoldable pub agreements : Parts → List Bool
agreements done = []
agreements (atom x more) = agreements more
agreements (many items more) = agreements items ++ agreements more
agreements (child k s e fields more) = (if is_property k then bytes_eq (own_name (part fields 1)) (own_name (part fields 2)) ∷ agreements fields else agreements fields) ++ agreements more

unfoldable pub both : List Bool → List Bool → List Bool
both (x ∷ xs) (y ∷ ys) = (x && y) ∷ both xs ys
both [] ys = []
both (x ∷ xs) [] = []

-- a name that names no variable and no private member: a label, a plain key, what is imported or exported by name, a property after a point
unfoldable pub is_plain : Site → Bool
is_plain s = not s.private && elim (s.setting.role) [ Plain ↦ true | MemberKey ↦ true | _ ↦ false ]

unfoldable pub plain_names : List Site → List Text → List Text
plain_names (s ∷ ss) (x ∷ xs) = if is_plain s then x ∷ plain_names ss xs else plain_names ss xs
plain_names [] xs = []
plain_names (s ∷ ss) [] = []

-- u is t renamed: only names and shorthand marks differ, plain names stay, and a mark is on exactly where it was on and the names of key and value still agree
pub record IsRenamed (t u : Parts) : Type 0 where
  pub alike : blind u ≡ blind t
  pub plain : plain_names (sites u) (names u) ≡ plain_names (sites t) (names t)
  pub marked : marks u ≡ both (marks t) (agreements u)
