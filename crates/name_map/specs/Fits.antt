-- Which maps fit a tree, so that they can be applied to it.
use Rattle.std.specs.Prelude.{◌≡◌, ℕ, suc, ◌^◌, Bool, true, false, not, ◌&&◌, List, [], ◌∷◌, length, map, nat_lt, Option, Some, None, slice_get}
use Rattle.name_map.specs.Filled.{apply_map}
use Rattle.name_map.specs.Undoing.{OldName, Undoing}
use Rattle.syntax_lex.specs.Identifier.{is_identifier_name}
use Rattle.tree_core.specs.Program.{IsProgram}
use Rattle.tree_nodes.specs.Tree.{Text, Tree, alone}
use Rattle.tree_places.specs.Places.{sites}
use Rattle.tree_places.specs.Renaming.{is_plain, marks}

-- it is there, and false
abbrev pub is_off : Option Bool → Bool
is_off None = false
is_off (Some b) = not b

-- an identifier name of at most 4,294,967,295 bytes
unfoldable pub is_old_name : Text → Bool
is_old_name x = nat_lt (length x) (2 ^ 32) && is_identifier_name x

-- an old name may follow one for the place before the n-th: the number is at least n, and that of a place that isn't plain; and the name may be a place's. Of the places it is told which are plain
unfoldable pub name_fits : List Bool → ℕ → OldName → Bool
name_fits plain n o = not (nat_lt o.place n) && is_off (slice_get plain o.place) && is_old_name o.name

-- the numbers strictly rise, from n on, and each name fits its place
unfoldable pub names_fit : List Bool → ℕ → List OldName → Bool
names_fit plain n [] = true
names_fit plain n (o ∷ os) = name_fits plain n o && names_fit plain (suc o.place) os

-- a number is at least n, and that of a mark that is off
unfoldable pub mark_fits : List Bool → ℕ → ℕ → Bool
mark_fits marks n i = not (nat_lt i n) && is_off (slice_get marks i)

-- the numbers strictly rise, from n on, and each is that of a mark that is off
unfoldable pub marks_fit : List Bool → ℕ → List ℕ → Bool
marks_fit marks n [] = true
marks_fit marks n (i ∷ is) = mark_fits marks n i && marks_fit marks (suc i) is

-- of each place of a tree, whether it is plain
abbrev pub plain_places : Tree → List Bool
plain_places t = map is_plain (sites (alone t))

pub record Fits (u : Tree) (m : Undoing) : Type 0 where
  pub names : names_fit (plain_places u) 0 m.names ≡ true
  pub marks : marks_fit (marks (alone u)) 0 m.marks ≡ true
  pub program : IsProgram (apply_map u m)
