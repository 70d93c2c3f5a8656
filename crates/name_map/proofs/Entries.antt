-- The names and the plain places that the table of a tree's places has.
use Rattle.std.proofs.Common.{◌≡◌, List, [], ◌∷◌, length, map, refl, sym, ap, ap₂, ◌∙◌}
use Rattle.name_map.specs.Spots.{is_plain_entry}
use Rattle.place_list.specs.TableViews.{entry_view, lists_in, places_in}
use Rattle.place_list.specs.Tables.{Entry, Lists, place_of, setting_of, site_of}
use Rattle.place_list.specs.declared.tables.PlaceEntry.{PlaceEntry}
use Rattle.place_list.specs.declared.tables.PlaceList.{PlaceList}
use Rattle.tree_nodes.specs.Tree.{Parts, Text}
use Rattle.tree_places.proofs.Numbers.{one_name_each}
use Rattle.tree_places.specs.Places.{Place, Site, named_by, names, places, sites}
use Rattle.tree_places.specs.Renaming.{is_plain}

names_under : (ss : List Site) (xs : List Text) → length xs ≡ length ss → map (λ (p : Place). p.name) (named_by ss xs) ≡ xs
unfolding named_by
names_under [] [] e = refl
names_under [] (x ∷ xs) e = absurd (cc)
names_under (s ∷ ss) [] e = absurd (cc)
names_under (s ∷ ss) (x ∷ xs) e = ap (λ ys. x ∷ ys) (names_under ss xs (cc))

sites_under : (ss : List Site) (xs : List Text) → length xs ≡ length ss → map (λ (p : Place). is_plain p.site) (named_by ss xs) ≡ map is_plain ss
unfolding named_by
sites_under [] [] e = refl
sites_under [] (x ∷ xs) e = absurd (cc)
sites_under (s ∷ ss) [] e = absurd (cc)
sites_under (s ∷ ss) (x ∷ xs) e = ap (λ ys. is_plain s ∷ ys) (sites_under ss xs (cc))

names_in : (d : Lists) (es : List PlaceEntry) → map (λ (p : Place). p.name) (map (place_of d) (map entry_view es)) ≡ map (λ (e : PlaceEntry). e.name.now) es
unfolding place_of
names_in d [] = refl
names_in d (e ∷ es) = ap (λ ys. e.name.now ∷ ys) (names_in d es)

plain_in : (d : Lists) (es : List PlaceEntry) → map (λ (p : Place). is_plain p.site) (map (place_of d) (map entry_view es)) ≡ map is_plain_entry es
unfolding is_plain is_plain_entry place_of setting_of site_of
plain_in d [] = refl
plain_in d (e ∷ es) = ap (λ ys. is_plain_entry e ∷ ys) (plain_in d es)

pub entries_named : (l : PlaceList) (t : Parts) → places_in l ≡ places t → map (λ (e : PlaceEntry). e.name.now) l.places.items ≡ names t
unfolding places
entries_named l t e = sym (names_in (lists_in l) l.places.items) ∙ ap (map (λ (p : Place). p.name)) e ∙ names_under (sites t) (names t) (one_name_each t)

pub entries_plain : (l : PlaceList) (t : Parts) → places_in l ≡ places t → map is_plain_entry l.places.items ≡ map is_plain (sites t)
unfolding places
entries_plain l t e = sym (plain_in (lists_in l) l.places.items) ∙ ap (map (λ (p : Place). is_plain p.site)) e ∙ sites_under (sites t) (names t) (one_name_each t)
