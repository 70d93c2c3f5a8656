-- A field that is no node is read from a value as from what the value is read as.
use Rattle.std.proofs.Common.{◌≡◌, ℕ, pos, negsuc, ◌^◌, List, ◌∷◌, Bool, true, false, ◌&&◌, ◌||◌, codes, Option, Some, None, option_map, option_and_then, if◌then◌else◌, bytes_eq, refl, ap, ap₂, ◌∙◌}
use Rattle.json_text.specs.Json.{Json, null, truth, whole, other_number, string, list, object, Items, no_items, item, Members, no_members, member}
use Rattle.tree_core.specs.JsonOf.{items_of}
use Rattle.tree_core.specs.Reading.{are_distinct, below, find_member, has_only, is_blank, is_null_value, is_object, one, regex_part, template_part, text_in, units_in, units_in_list, value_part}
use Rattle.tree_nodes.proofs.Cases.{both, if_some, none_some}
use Rattle.tree_nodes.specs.Tree.{Parts, empty, text, units}
use Rattle.json_reading.proofs.Puts.{IsTest, back, distinct_back, found_back, members_back, test_back}
use Rattle.json_reading.proofs.Strings.{units_back}
use Rattle.json_reading.specs.Parsed.{items_parsed}
use Rattle.json_reading.specs.Readable.{AreReadable, HaveReadable, IsReadable}

-- what doesn't look into lists and objects answers alike
pub same_by : {A : Type 0} (f : Json → A) → ((xs ys : Items) → f (list xs) ≡ f (list ys)) → ((ms ns : Members) → f (object ms) ≡ f (object ns))
    → (d : Json) → IsReadable d → f (back d) ≡ f d
same_by f lists objects null h = refl
same_by f lists objects (truth b) h = refl
same_by f lists objects (whole (pos n)) h = refl
same_by f lists objects (whole (negsuc n)) h = refl
same_by f lists objects other_number h = absurd h
same_by f lists objects (string us) h = ap (λ (x : List ℕ). f (string x)) (units_back us h)
same_by f lists objects (list xs) h = lists (items_of (items_parsed xs)) xs
same_by f lists objects (object ms) h = objects (members_back ms) ms

pub text_same : (d : Json) → IsReadable d → text_in (back d) ≡ text_in d
text_same = same_by text_in (λ xs ys. refl) (λ ms ns. refl)

pub null_same : (d : Json) → IsReadable d → is_null_value (back d) ≡ is_null_value d
null_same = same_by is_null_value (λ xs ys. refl) (λ ms ns. refl)

pub below_same : (n : ℕ) (d : Json) → IsReadable d → below n (back d) ≡ below n d
below_same n = same_by (below n) (λ xs ys. refl) (λ ms ns. refl)

pub object_same : (d : Json) → IsReadable d → is_object (Some (back d)) ≡ is_object (Some d)
object_same = same_by (λ (d : Json). is_object (Some d)) (λ xs ys. refl) (λ ms ns. refl)

pub blank_same : (d : Json) → IsReadable d → is_blank (back d) ≡ is_blank d
blank_same null h = refl
blank_same (truth b) h = refl
blank_same (whole (pos n)) h = refl
blank_same (whole (negsuc n)) h = refl
blank_same other_number h = absurd h
blank_same (string us) h = refl
blank_same (list no_items) h = refl
blank_same (list (item x xs)) h = refl
blank_same (object ms) h = refl

listed_same : (xs : Items) → AreReadable xs → units_in_list (items_of (items_parsed xs)) ≡ units_in_list xs
listed_same no_items h = refl
listed_same (item x xs) h =
    ap₂ (λ (o : Option (List ℕ)) (p : Option ℕ). option_and_then (λ (u : ℕ). option_map (λ (us : List ℕ). u ∷ us) o) p) (listed_same xs h.1) (below_same (2 ^ 16) x h.0)

pub units_same : (d : Json) → IsReadable d → units_in (back d) ≡ units_in d
units_same null h = refl
units_same (truth b) h = refl
units_same (whole (pos n)) h = refl
units_same (whole (negsuc n)) h = refl
units_same other_number h = absurd h
units_same (string us) h = ap (λ (x : List ℕ). units_in (string x)) (units_back us h)
units_same (list xs) h = listed_same xs h
units_same (object ms) h = refl

-- ---- what stands under a key

pub under : {A : Type 0} (f : Option Json → A) → ((d : Json) → IsReadable d → f (Some (back d)) ≡ f (Some d)) → (k : List ℕ) (ms : Members) → HaveReadable ms
    → f (option_map back (find_member k ms)) ≡ f (find_member k ms)
under f same k no_members h = refl
under f same k (member l x ms) h = by_test (bytes_eq l k) (under f same k ms h.2)
  where
    by_test : (b : Bool) → f (option_map back (find_member k ms)) ≡ f (find_member k ms)
        → f (option_map back (if b then Some x else find_member k ms)) ≡ f (if b then Some x else find_member k ms)
    by_test true later = same x h.1
    by_test false later = later

-- ---- fields

pub value_same : (d : Json) (p : Parts) → IsReadable d → value_part d ≡ Some p → value_part (back d) ≡ Some p
value_same null p h e = e
value_same (truth b) p h e = e
value_same (whole (pos n)) p h e = e
value_same (whole (negsuc n)) p h e = e
value_same other_number p h e = absurd h
value_same (string us) p h e = ap (λ (x : List ℕ). value_part (string x)) (units_back us h) ∙ e
value_same (list xs) p h e = ap (option_map (λ (x : List ℕ). one (units x))) (units_same (list xs) h) ∙ e
value_same (object no_members) p h e = e
value_same (object (member k x ms)) p h e = none_some p e

-- an object of two keys and no others
only_two : (k l : List ℕ) → IsTest (λ (m : List ℕ) (d : Json). bytes_eq m k || bytes_eq m l) (has_only k l)
only_two k l = record { none = refl; more = λ m d ms. refl }

pub two_back : (k l : List ℕ) (ms : Members) → HaveReadable ms → (are_distinct ms && has_only k l ms) ≡ true → (are_distinct (members_back ms) && has_only k l (members_back ms)) ≡ true
two_back k l ms h t =
    let p = both (are_distinct ms) (has_only k l ms) t in
    rw (distinct_back ms h p.0, test_back ms h p.0 (λ (m : List ℕ) (d : Json). bytes_eq m k || bytes_eq m l) (has_only k l) (only_two k l) (λ m x r e. e) p.1) refl

pub regex_same : (k : List ℕ) (d : Json) (p : Parts) → IsReadable d → regex_part k d ≡ Some p → regex_part k (back d) ≡ Some p
regex_same k null p h e = e
regex_same k (truth b) p h e = none_some p e
regex_same k (whole z) p h e = none_some p e
regex_same k other_number p h e = absurd h
regex_same k (string us) p h e = none_some p e
regex_same k (list xs) p h e = none_some p e
regex_same k (object ms) p h e =
    let f : Option Json → Option Parts = λ o. option_map (λ (t : List ℕ). one (text t)) (option_and_then text_in o) in
    let t = if_some (are_distinct ms && has_only (codes "pattern") (codes "flags") ms) (f (find_member k ms)) p e in
    let distinct = (both (are_distinct ms) (has_only (codes "pattern") (codes "flags") ms) t.0).0 in
    ap (λ (b : Bool). if b then f (find_member k (members_back ms)) else None) (two_back (codes "pattern") (codes "flags") ms h t.0)
    ∙ ap f (found_back ms h distinct k) ∙ under f (λ x r. ap (option_map (λ (t : List ℕ). one (text t))) (text_same x r)) k ms h ∙ t.1

-- the half of a template's value
abbrev half : Bool → Option Json → Option Parts
half optional o = elim o [
  | None ↦ (if optional then Some (one empty) else None)
  | Some d ↦ (if optional && is_null_value d then Some (one empty) else option_map (λ us. one (units us)) (units_in d))
]

half_same : (optional : Bool) (d : Json) → IsReadable d → half optional (Some (back d)) ≡ half optional (Some d)
half_same optional d h =
    ap₂ (λ (b : Bool) (o : Option (List ℕ)). if optional && b then Some (one empty) else option_map (λ (us : List ℕ). one (units us)) o) (null_same d h) (units_same d h)

pub template_same : (optional : Bool) (k : List ℕ) (d : Json) (p : Parts) → IsReadable d → template_part optional k d ≡ Some p → template_part optional k (back d) ≡ Some p
template_same optional k null p h e = none_some p e
template_same optional k (truth b) p h e = none_some p e
template_same optional k (whole z) p h e = none_some p e
template_same optional k other_number p h e = absurd h
template_same optional k (string us) p h e = none_some p e
template_same optional k (list xs) p h e = none_some p e
template_same optional k (object ms) p h e =
    let t = if_some (are_distinct ms && has_only (codes "raw") (codes "cooked") ms) (half optional (find_member k ms)) p e in
    let distinct = (both (are_distinct ms) (has_only (codes "raw") (codes "cooked") ms) t.0).0 in
    ap (λ (b : Bool). if b then half optional (find_member k (members_back ms)) else None) (two_back (codes "raw") (codes "cooked") ms h t.0)
    ∙ ap (half optional) (found_back ms h distinct k) ∙ under (half optional) (λ x r. half_same optional x r) k ms h ∙ t.1
