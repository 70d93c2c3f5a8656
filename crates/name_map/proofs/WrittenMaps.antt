-- The value of a map reads as the map, and so does its text.
use Rattle.std.proofs.Common.{◌≡◌, ℕ, pos, ◌<◌, ◌^◌, Bool, true, nat_lt, List, [], ◌∷◌, Option, Some, None, option_and_then, option_map, codes, IsUtf8, if◌then◌else◌, refl, sym, ap, ap₂, ◌∙◌, arith}
use Rattle.std.specs.List.{AllByRecursion}
use Rattle.json_text.proofs.Texts.{text_reads_alone}
use Rattle.json_text.proofs.Units.{AreCodeUnits-are_code_units, AreCodeUnits-units_of, text_of_units-units_of}
use Rattle.json_text.specs.HasText.{AreCodeUnits, HasText, ItemsHaveText}
use Rattle.json_text.specs.Json.{whole as number, list, string}
use Rattle.json_text.specs.Units.{units_of}
use Rattle.name_map.specs.Reading.{map_of, numbers_in, old_name_in, old_names_in}
use Rattle.name_map.specs.Undoing.{IsOldName, IsSized, OldName, Undoing, old_name, undoing}
use Rattle.name_map.specs.Written.{IsMap, MapTextsRead, MapsReadBack, map_value, numbers_value, old_name_value, old_names_value}
use Rattle.tree_core.specs.Reading.{below, text_in}

number_back : (i : ℕ) → IsSized i → below (2 ^ 32) (number (pos i)) ≡ Some i
number_back i h =
    let small : nat_lt i (2 ^ 32) ≡ true = search (arith, h) in
    ap (λ b. if b then Some i else None) small

old_name_back : (o : OldName) → IsOldName o → old_name_in (old_name_value o) ≡ Some o
old_name_back o h =
    ap₂ (λ n t. option_and_then (λ i. option_map (λ y. old_name i y) t) n) (number_back o.place h.0) (text_of_units-units_of o.name h.1)

old_names_back : (os : List OldName) → AllByRecursion IsOldName os → old_names_in (old_names_value os) ≡ Some os
old_names_back [] h = refl
old_names_back (o ∷ os) h =
    ap₂ (λ x xs. option_and_then (λ p. option_map (λ ps. p ∷ ps) xs) x) (old_name_back o h.0) (old_names_back os h.1)

numbers_back : (is : List ℕ) → AllByRecursion IsSized is → numbers_in (numbers_value is) ≡ Some is
numbers_back [] h = refl
numbers_back (i ∷ is) h =
    ap₂ (λ x xs. option_and_then (λ j. option_map (λ js. j ∷ js) xs) x) (number_back i h.0) (numbers_back is h.1)

pub maps_read_back : MapsReadBack
maps_read_back m h =
    ap₂ (λ xs is. option_and_then (λ ys. option_map (λ js. undoing ys js) is) xs) (old_names_back m.names h.names) (numbers_back m.marks h.marks)

-- ---- its text

short_number : (n : ℕ) → n < 2 ^ 32 → n < 10 ^ 64
short_number n h = omega arith

old_names_have_text : (os : List OldName) → AllByRecursion IsOldName os → ItemsHaveText (old_names_value os)
old_names_have_text [] h = tt
old_names_have_text (o ∷ os) h =
    ((short_number o.place (h.0).0, (AreCodeUnits-units_of o.name (h.0).1, tt)), old_names_have_text os h.1)

numbers_have_text : (is : List ℕ) → AllByRecursion IsSized is → ItemsHaveText (numbers_value is)
numbers_have_text [] h = tt
numbers_have_text (i ∷ is) h = (short_number i h.0, numbers_have_text is h.1)

map_has_text : (m : Undoing) → IsMap m → HasText (map_value m)
map_has_text m h = (
  AreCodeUnits-are_code_units (codes "names") refl,
  old_names_have_text m.names h.names,
  (AreCodeUnits-are_code_units (codes "marks") refl, numbers_have_text m.marks h.marks, tt),
)

pub map_texts_read : MapTextsRead
map_texts_read l m h =
    let reads = text_reads_alone l (map_value m) (map_has_text m h) in
    (reads.0, λ w r. ap map_of (reads.1 w r) ∙ maps_read_back m h)
