-- The members of an object of `serde_json` beside those of the JSON value that it is.
use Rattle.std.proofs.Common.{inl, inr, ◌≡◌, ℕ, ◌≤◌, List, [], ◌∷◌, Bool, true, false, ◌||◌, nat_eq, length, Option, Some, None, option_map, IfSome, Bor, String, Global, string_bytes, Ordering, Less, Equal, Greater, string_cmp, nat_cmp, is_eq, bytes_eq, codes, IsTrue, IsUtf8, if◌then◌else◌, refl, sym, ap, ◌∙◌, arith, rules}
use Rattle.std.specs.Cmp.Lexicographic.{slice_cmp}
use Rattle.std.specs.List.{AllByRecursion}
use Rattle.std.specs.List.Sorted.{IsStrictlySortedBy}
use Rattle.std.specs.Map.{keys_of}
use Rattle.std.specs.Ordering.{match_ordering}
use Rattle.std.proofs.lemmas.Bool.{and_parts, cases_Bool}
use Rattle.std.proofs.lemmas.Cmp.{nat_list_cmp_total, tied_itself}
use Rattle.std.proofs.lemmas.Map.Text.{is_eq-slice_cmp}
use Rattle.std.proofs.lemmas.Slice.Eq.{bytes_eq-Decides}
use Rattle.std.proofs.lemmas.Str.{IsUtf8-string_bytes}
use Rattle.json_text.specs.Json.{Json}
use Rattle.json_text.specs.Units.{units_of}
use Rattle.json_text.proofs.Units.{text_of_units-units_of, bytes_eq-units_of, units_of-injective}
use Rattle.serde_json.specs.Data.{Data, array, object, string, Members, no_members, member, depth, members_depth}
use Rattle.serde_json.specs.Find.{get_member}
use Rattle.serde_json.specs.View.{view, items_view, members_view}
use Rattle.serde_json.specs.declared.value.Value.{Value, the_lemmas}
use Rattle.serde_json.specs.declared.value.Value.TheVariants.{String as StringValue}
use Rattle.serde_json.proofs.Views.{Entry}
use Rattle.tree_core.specs.JsonOf.{json_of, members_of}
use Rattle.tree_core.specs.Readable.{is_ascii, is_readable, are_readable}
use Rattle.tree_core.specs.Reading.{find_member, text_in, is_blank, are_distinct, outer_key, is_known, is_listed, value_part}
use Rattle.tree_nodes.specs.Table.{Column}
use Rattle.tree_nodes.proofs.Cases.{bytes_equal, bytes_turned}
use Rattle.tree_core.proofs.AsciiTexts.{ascii_text}

-- ---- keys

bytes_eq-swap : (a b : List ℕ) → bytes_eq a b ≡ bytes_eq b a
bytes_eq-swap a b = elim (cases_Bool (bytes_eq a b)) [
  | inl e ↦ e ∙ sym ((bytes_eq-Decides b a).1 (sym (bytes_equal a b e)))
  | inr e ↦ e ∙ sym (bytes_turned a b e)
]

-- a key is compared with an ASCII word by its bytes
key_is : (e : Entry) (key : List ℕ) → IsTrue (is_ascii key) → bytes_eq (units_of (string_bytes e.0)) key ≡ is_eq (slice_cmp nat_cmp key (string_bytes e.0))
key_is e key h =
    bytes_eq-units_of (string_bytes e.0) key (IsUtf8-string_bytes e.0) (ascii_text key h)
    ∙ bytes_eq-swap (string_bytes e.0) key ∙ sym (is_eq-slice_cmp key (string_bytes e.0))

-- ---- the member with a key

found_or : (o : Ordering) (d : Data) (r : Option Data) (f : Option Json) → f ≡ option_map json_of r → (if is_eq o then Some (json_of d) else f) ≡ option_map json_of (match_ordering o r (Some d) r)
found_or Less d r f e = e
found_or Equal d r f e = refl
found_or Greater d r f e = e

pub find_member-get_member : (key : List ℕ) → IsTrue (is_ascii key) → (es : List Entry) → find_member key (members_of (members_view es)) ≡ option_map json_of (get_member key (members_view es))
find_member-get_member key h [] = refl
find_member-get_member key h (e ∷ es) =
    ap (λ (b : Bool). if b then Some (json_of (view e.1)) else find_member key (members_of (members_view es))) (key_is e key h)
    ∙ found_or (slice_cmp nat_cmp key (string_bytes e.0)) (view e.1) (get_member key (members_view es)) _ (find_member-get_member key h es)

falls_ordered : (o : Ordering) (k : List ℕ) (ms : Members) (d e : Data) → match_ordering o (get_member k ms) (Some e) (get_member k ms) ≡ Some d
    → (get_member k ms ≡ Some d → depth d ≤ members_depth ms) → depth d ≤ members_depth (member k e ms)
falls_ordered Less k ms d e p h = omega (arith, h p)
falls_ordered Equal k ms d e p h = let same : e ≡ d = cc in rw (← same) (omega arith)
falls_ordered Greater k ms d e p h = omega (arith, h p)

-- a member is less deep than its object
pub member_falls : (k : List ℕ) (ms : Members) (d : Data) → get_member k ms ≡ Some d → depth d ≤ members_depth ms
member_falls k no_members d p = absurd (cc)
member_falls k (member l e ms) d p = falls_ordered (slice_cmp nat_cmp k l) k ms d e p (member_falls k ms d)

-- ---- no key stands twice

apart : (k : Entry) (l : Entry) → string_cmp k.0 l.0 ≡ Less → bytes_eq (units_of (string_bytes l.0)) (units_of (string_bytes k.0)) ≡ true → ⊥
apart k l less e =
    let same : string_bytes l.0 ≡ string_bytes k.0 = units_of-injective _ _ (IsUtf8-string_bytes l.0) (IsUtf8-string_bytes k.0) ((bytes_eq-Decides _ _).0 e) in
    let tie : slice_cmp nat_cmp (string_bytes k.0) (string_bytes l.0) ≡ Equal = rw same (tied_itself nat_list_cmp_total (string_bytes k.0)) in
    let wrong : Less ≡ Equal = sym less ∙ tie in cc

missing_at : (b : Bool) (k : Entry) (d : Json) (rest : Option Json) → (b ≡ true → ⊥) → rest ≡ None → (if b then Some d else rest) ≡ None
missing_at true k d rest other e = absurd (other refl)
missing_at false k d rest other e = e

missing_later : (k : Entry) (es : List Entry) → AllByRecursion (λ y. string_cmp k.0 y ≡ Less) (keys_of es) → find_member (units_of (string_bytes k.0)) (members_of (members_view es)) ≡ None
missing_later k [] h = refl
missing_later k (e ∷ es) h = missing_at _ k _ _ (apart k e h.0) (missing_later k es h.1)

pub are_distinct-ordered : (es : List Entry) → IsStrictlySortedBy string_cmp (keys_of es) → are_distinct (members_of (members_view es)) ≡ true
unfolding IsStrictlySortedBy
are_distinct-ordered [] h = refl
are_distinct-ordered (e ∷ es) h = rw (missing_later e es h.0) (are_distinct-ordered es h.1)

-- ---- listed keys

word_is : (word bs : List ℕ) → IsUtf8 bs → IsTrue (is_ascii word) → bytes_eq word (units_of bs) ≡ bytes_eq word bs
word_is word bs u h = bytes_eq-swap word (units_of bs) ∙ bytes_eq-units_of bs word u (ascii_text word h) ∙ bytes_eq-swap bs word

outer_key_is_ascii : (c : Column) → IsTrue (is_readable c) → IsTrue (is_ascii (outer_key c))
outer_key_is_ascii c h = (and_parts (is_ascii (outer_key c)) (is_ascii c.key) h).0

is_listed-units_of : (bs : List ℕ) (cs : List Column) → IsUtf8 bs → IsTrue (are_readable cs) → is_listed (units_of bs) cs ≡ is_listed bs cs
is_listed-units_of bs [] u h = refl
is_listed-units_of bs (c ∷ cs) u h =
    let here = and_parts (is_readable c) (are_readable cs) h in
    rw (word_is (outer_key c) bs u (outer_key_is_ascii c here.0), is_listed-units_of bs cs u here.1)

pub is_known-units_of : (bs : List ℕ) (cs : List Column) → IsUtf8 bs → IsTrue (are_readable cs) → is_known (units_of bs) cs ≡ is_known bs cs
is_known-units_of bs cs u h =
    rw (word_is (codes "type") bs u refl, word_is (codes "start") bs u refl, word_is (codes "end") bs u refl, is_listed-units_of bs cs u h)

-- ---- a member that was found

pub found_json : (r : Option (Bor Value)) → option_map (λ v. json_of (view v.now)) r ≡ option_map json_of (option_map (λ v. view v.now) r)
found_json None = refl
found_json (Some v) = refl

pub found_falls : (r : Option (Bor Value)) (key : List ℕ) (ms : Members) → option_map (λ v. view v.now) r ≡ get_member key ms → IfSome r (λ v. depth (view v.now) ≤ members_depth ms)
found_falls None key ms e = tt
found_falls (Some v) key ms e = member_falls key ms (view v.now) (sym e)

-- ---- one of two keys

pub either_key-units_of : (bs k l : List ℕ) → IsUtf8 bs → IsTrue (is_ascii k) → IsTrue (is_ascii l)
    → (bytes_eq (units_of bs) k || bytes_eq (units_of bs) l) ≡ (bytes_eq bs k || bytes_eq bs l)
either_key-units_of bs k l u h i =
    rw (bytes_eq-units_of bs k u (ascii_text k h), bytes_eq-units_of bs l u (ascii_text l i)) refl

-- ---- one value

pub view-String : (s : String Global) → view (StringValue s) ≡ string (string_bytes s)
view-String s = search (rules, the_lemmas)

pub text_in-String : (s : String Global) → text_in (json_of (view (StringValue s))) ≡ Some (string_bytes s)
text_in-String s = rw view-String (text_of_units-units_of (string_bytes s) (IsUtf8-string_bytes s))

pub is_blank_items : (vs : List Value) → nat_eq (length vs) 0 ≡ is_blank (json_of (array (items_view vs)))
is_blank_items [] = grind arith
is_blank_items (v ∷ vs) = grind arith

-- an object with keys is no value of a Literal
pub value_part-members : (es : List Entry) → (length es ≡ 0 → ⊥) → value_part (json_of (object (members_view es))) ≡ None
value_part-members [] h = absurd (h refl)
value_part-members (e ∷ es) h = refl
