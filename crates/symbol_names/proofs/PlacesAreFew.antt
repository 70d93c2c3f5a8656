-- A tree has no more places than nodes.
use Rattle.std.specs.Prelude.{◌≡◌, ◌≤◌, ◌<◌, ℕ, suc, ◌+◌, ◌^◌, Bool, true, false, List, [], ◌∷◌, ◌++◌, length, if◌then◌else◌}
use Rattle.std.proofs.Common.{ap, arith}
use Rattle.std.proofs.lemmas.List.{length-append}
use Rattle.scope_tables.proofs.BoundPlaces.{many_places}
use Rattle.new_names.specs.NewNames.{IsListOf}
use Rattle.place_list.specs.TableViews.{places_in}
use Rattle.place_list.specs.declared.tables.PlaceList.{PlaceList}
use Rattle.tree_nodes.specs.NodeCount.{nodes_in}
use Rattle.tree_nodes.specs.Table.{row}
use Rattle.tree_nodes.specs.Tree.{Parts, Text, atom, child, done, many, text_of}
use Rattle.tree_places.specs.Places.{Place, Site, is_place, named_by, names, places, sites}

names_most : (t : Parts) → length (names t) ≤ nodes_in t
unfolding names
names_most done = omega arith
names_most (atom x more) = names_most more
names_most (many items more) =
    let a : length (names items) ≤ nodes_in items = names_most items in
    let b : length (names more) ≤ nodes_in more = names_most more in
    let c : length (names items ++ names more) ≡ length (names items) + length (names more) = length-append (names items) (names more) in
    omega (arith, a, b, c)
names_most (child k s e fields more) = go (is_place (row k).opens) (names_most fields) (names_most more)
  where
    go : (b : Bool) → length (names fields) ≤ nodes_in fields → length (names more) ≤ nodes_in more
        → length ((if b then text_of fields ∷ names fields else names fields) ++ names more) ≤ suc (nodes_in fields + nodes_in more)
    go true f m = let c : length ((text_of fields ∷ names fields) ++ names more) ≡ suc (length (names fields)) + length (names more) = length-append (text_of fields ∷ names fields) (names more) in omega (arith, f, m, c)
    go false f m = let c : length (names fields ++ names more) ≡ length (names fields) + length (names more) = length-append (names fields) (names more) in omega (arith, f, m, c)

named_most : (ss : List Site) (xs : List Text) → length (named_by ss xs) ≤ length xs
unfolding named_by
named_most [] xs = omega arith
named_most (s ∷ ss) [] = omega arith
named_most (s ∷ ss) (x ∷ xs) = let rest : length (named_by ss xs) ≤ length xs = named_most ss xs in omega (arith, rest)

pub places_most : (t : Parts) → length (places t) ≤ nodes_in t
unfolding places
places_most t =
    let a : length (named_by (sites t) (names t)) ≤ length (names t) = named_most (sites t) (names t) in
    let b : length (names t) ≤ nodes_in t = names_most t in
    omega (arith, a, b)

-- and so has a list of it
pub listed_most : (l : PlaceList) (t : Parts) → IsListOf l t → length l.places.items ≤ nodes_in t
listed_most l t is =
    let a : length (places_in l) ≡ length l.places.items = many_places l in
    let b : length (places_in l) ≡ length (places t) = ap (length {A = Place}) is.places in
    let c : length (places t) ≤ nodes_in t = places_most t in
    omega (arith, a, b, c)
