-- A tree under given names and shorthand marks, one each for its places and its Properties in printing order.
use Rattle.std.specs.Prelude.{ℕ, zero, suc, ◌+◌, Bool, true, false, List, [], ◌∷◌, drop, if◌then◌else◌}
use Rattle.name_map.specs.Undoing.{Undoing, put_marks, put_names}
use Rattle.tree_nodes.specs.Tree.{Parts, Text, Tree, alone, atom, child, done, flag, many, text}
use Rattle.tree_nodes.specs.declared.kind.Kind.{Kind}
use Rattle.tree_nodes.specs.declared.kind.Kind.TheVariants.{Identifier, PrivateIdentifier, Property}
use Rattle.tree_places.specs.Places.{names}
use Rattle.tree_places.specs.Renaming.{is_property, marks}
use Rattle.tree_rename.specs.Renamed.{count, has_name}

-- names and marks that are given, the first first
pub record Given : Type 0 where
  pub names : List Text
  pub marks : List Bool

abbrev pub given : List Text → List Bool → Given
given xs bs = record { names = xs; marks = bs }

-- the first of them; past the end the empty name, and no mark
abbrev pub first_name : List Text → Text
first_name [] = []
first_name (x ∷ xs) = x

abbrev pub first_mark : List Bool → Bool
first_mark [] = false
first_mark (b ∷ bs) = b

-- how many Properties a run has
unfoldable pub properties : Parts → ℕ
properties done = 0
properties (atom a more) = properties more
properties (many items more) = properties items + properties more
properties (child k s e fields more) = (if is_property k then suc (properties fields) else properties fields) + properties more

-- what a run leaves of what is given
abbrev pub after : Parts → Given → Given
after p g = given (drop (count p) g.names) (drop (properties p) g.marks)

-- what a node leaves to its fields
abbrev pub inside : Kind → Given → Given
inside k g = given (if has_name k then drop 1 g.names else g.names) (if is_property k then drop 1 g.marks else g.marks)

-- the fields of a place, under this name
unfoldable pub called : Text → Parts → Parts
called x (atom (text y) more) = atom (text x) more
called x fields = fields

-- a run with this flag for its i-th part, where that is a flag
unfoldable pub flag_put : ℕ → Bool → Parts → Parts
flag_put i b done = done
flag_put zero b (atom (flag c) more) = atom (flag b) more
flag_put zero b (atom a more) = atom a more
flag_put (suc i) b (atom a more) = atom a (flag_put i b more)
flag_put zero b (child k s e fields more) = child k s e fields more
flag_put (suc i) b (child k s e fields more) = child k s e fields (flag_put i b more)
flag_put zero b (many items more) = many items more
flag_put (suc i) b (many items more) = many items (flag_put i b more)

-- the fields of a node with its own name or mark, which is the first given
unfoldable pub own_filled : Kind → Given → Parts → Parts
own_filled Identifier g fields = called (first_name g.names) fields
own_filled PrivateIdentifier g fields = called (first_name g.names) fields
own_filled Property g fields = flag_put 4 (first_mark g.marks) fields
own_filled _ g fields = fields

-- a run with what is given
unfoldable pub filled : Given → Parts → Parts
filled g done = done
filled g (atom a more) = atom a (filled g more)
filled g (many items more) = many (filled g items) (filled (after items g) more)
filled g (child k s e fields more) = child k s e (own_filled k g (filled (inside k g) fields)) (filled (after fields (inside k g)) more)

-- a tree with what is given
abbrev pub filled_tree : Given → Tree → Tree
filled_tree g t = record { kind = t.kind; start = t.start; stop = t.stop; fields = own_filled t.kind g (filled (inside t.kind g) t.fields) }

-- the tree with the old names at their places and the old marks on
abbrev pub apply_map : Tree → Undoing → Tree
apply_map u m = filled_tree (given (put_names m.names (names (alone u))) (put_marks m.marks (marks (alone u)))) u
