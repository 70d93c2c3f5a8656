-- What is read from a text of fewer than 2^30 bytes is within the limits.
use Rattle.std.proofs.Common.{◌≡◌, ℕ, ◌+◌, ◌<◌, ◌≤◌, ◌^◌, pos, negsuc, List, [], ◌∷◌, ◌++◌, length, Bool, true, false, cond, ◌||◌, nat_lt, Ordering, Less, Equal, Greater, nat_cmp, refl, ap, arith, length-append}
use Rattle.std.proofs.lemmas.Bool.{lt-leb, or_parts}
use Rattle.std.proofs.lemmas.Fmt.{decimal_nonempty}
use Rattle.std.specs.Cmp.Lexicographic.{slice_cmp}
use Rattle.std.specs.Fmt.{signed_decimal}
use Rattle.std.specs.Ordering.{match_ordering}
use Rattle.json.specs.Print.{escape, escape_byte, escape_letter}
use Rattle.json_text.specs.Json.{Json, null, truth, whole, other_number, string, list, object, Items, no_items, item, Members, no_members, member}
use Rattle.json_text.specs.Layout.{Layout, deeper, space}
use Rattle.json_text.specs.Strings.{quoted_units}
use Rattle.json_text.specs.Text.{before, items_text, key_text, members_text, text_of}
use Rattle.serde_json.specs.Data as parsed
use Rattle.serde_json.specs.Events.{items_len}
use Rattle.tree_core.specs.Limits.{has_long_item, has_long_member, has_long_part, is_long_text, objects_in, objects_in_items, objects_in_members}
use Rattle.json_reading.proofs.Strings.{quoted_alike}
use Rattle.json_reading.specs.Parsed.{items_parsed, members_parsed, parsed_as, text_in_units}
use Rattle.json_reading.specs.Readable.{AreReadable, HasBits, HaveReadable, IsReadable, are_paired}

-- ---- the bytes of a string

some_escape : (a b : Bool) (x y z : ℕ) (xs ys : List ℕ) → 0 < length (cond a (x ∷ xs) (cond b (y ∷ ys) (z ∷ [])))
some_escape true b x y z xs ys = omega arith
some_escape false true x y z xs ys = omega arith
some_escape false false x y z xs ys = omega arith

escape_some : (x : ℕ) → 0 < length (escape_byte x)
unfolding escape_byte
escape_some x = some_escape (nat_lt 0 (escape_letter x)) (nat_lt x 32) _ _ x _ _

escape_longer : (s : List ℕ) → length s ≤ length (escape s)
escape_longer [] = omega arith
escape_longer (x ∷ s) = omega (arith, escape_some x, escape_longer s, length-append (escape_byte x) (escape s))

text_shorter : (us : List ℕ) → are_paired us ≡ true → length (text_in_units us) ≤ length (quoted_units us)
text_shorter us h =
    let s : List ℕ = text_in_units us in
    let same : length (quoted_units us) ≡ length (34 ∷ (escape s ++ 34 ∷ [])) = ap length (quoted_alike us h) in
    omega (arith, same, escape_longer s, length-append (escape s) (34 ∷ []))

-- ---- each value has a text

number_some : (z : _) → HasBits z → 0 < length (signed_decimal z)
number_some (pos n) h = decimal_nonempty n h
number_some (negsuc n) h = omega arith

text_some : (l : Layout) (v : Json) → IsReadable v → 0 < length (text_of l v)
text_some l null h = omega arith
text_some l (truth true) h = omega arith
text_some l (truth false) h = omega arith
text_some l (whole z) h = number_some z h
text_some l other_number h = absurd h
text_some l (string us) h = omega arith
text_some l (list xs) h = omega arith
text_some l (object ms) h = omega arith

-- ---- members that are put in

put_counted : (o : Ordering) (k l : List ℕ) (d e : parsed.Data) (ms : parsed.Members) → objects_in_members (parsed.put k d ms) ≤ objects_in d + objects_in_members ms
    → objects_in_members (match_ordering o (parsed.member k d (parsed.member l e ms)) (parsed.member l d ms) (parsed.member l e (parsed.put k d ms))) ≤ objects_in d + objects_in_members (parsed.member l e ms)
put_counted Less k l d e ms h = omega arith
put_counted Equal k l d e ms h = omega arith
put_counted Greater k l d e ms h = omega (arith, h)

objects_put : (k : List ℕ) (d : parsed.Data) (ms : parsed.Members) → objects_in_members (parsed.put k d ms) ≤ objects_in d + objects_in_members ms
objects_put k d parsed.no_members = omega arith
objects_put k d (parsed.member l e ms) = put_counted (slice_cmp nat_cmp k l) k l d e ms (objects_put k d ms)

neither : (a b c : Bool) → a ≡ false → b ≡ false → c ≡ false → (a || b || c) ≡ false
neither a b c e f g = rw (e, f, g) refl

put_short : (o : Ordering) (k l : List ℕ) (d e : parsed.Data) (ms : parsed.Members) → is_long_text k ≡ false → has_long_part d ≡ false → has_long_member (parsed.member l e ms) ≡ false
    → has_long_member (parsed.put k d ms) ≡ false
    → has_long_member (match_ordering o (parsed.member k d (parsed.member l e ms)) (parsed.member l d ms) (parsed.member l e (parsed.put k d ms))) ≡ false
put_short Less k l d e ms key value rest later = neither (is_long_text k) (has_long_part d) (has_long_member (parsed.member l e ms)) key value rest
put_short Equal k l d e ms key value rest later =
    let a = or_parts (is_long_text l || has_long_part e) (has_long_member ms) rest in
    let b = or_parts (is_long_text l) (has_long_part e) a.0 in
    neither (is_long_text l) (has_long_part d) (has_long_member ms) b.0 value a.1
put_short Greater k l d e ms key value rest later =
    let a = or_parts (is_long_text l || has_long_part e) (has_long_member ms) rest in
    let b = or_parts (is_long_text l) (has_long_part e) a.0 in
    neither (is_long_text l) (has_long_part e) (has_long_member (parsed.put k d ms)) b.0 b.1 later

short_put : (k : List ℕ) (d : parsed.Data) (ms : parsed.Members) → is_long_text k ≡ false → has_long_part d ≡ false → has_long_member ms ≡ false → has_long_member (parsed.put k d ms) ≡ false
short_put k d parsed.no_members key value rest = neither (is_long_text k) (has_long_part d) false key value refl
short_put k d (parsed.member l e ms) key value rest =
    let a = or_parts (is_long_text l || has_long_part e) (has_long_member ms) rest in
    put_short (slice_cmp nat_cmp k l) k l d e ms key value rest (short_put k d ms key value a.1)

-- ---- texts one after the other

three : (a b c : List ℕ) → length a + (length b + length c) ≡ length (a ++ (b ++ c))
three a b c = omega (arith, length-append a (b ++ c), length-append b c)

four : (a b c d : List ℕ) → length a + (length b + (length c + length d)) ≡ length (a ++ (b ++ (c ++ d)))
four a b c d = omega (arith, length-append a (b ++ (c ++ d)), three b c d)

-- ---- how many objects

mutual
  pub objects_counted : (l : Layout) (v : Json) → IsReadable v → objects_in (parsed_as v) ≤ length (text_of l v)
  objects_counted l null h = omega arith
  objects_counted l (truth b) h = omega arith
  objects_counted l (whole z) h = omega arith
  objects_counted l other_number h = absurd h
  objects_counted l (string us) h = omega arith
  objects_counted l (list xs) h = omega (arith, items_counted true l xs h, length-append (items_text true l xs) (93 ∷ []))
  objects_counted l (object ms) h = omega (arith, members_counted true l ms parsed.no_members h, length-append (members_text true l ms) (125 ∷ []))

  items_counted : (first : Bool) (l : Layout) (xs : Items) → AreReadable xs → objects_in_items (items_parsed xs) ≤ length (items_text first l xs)
  items_counted first l no_items h = omega arith
  items_counted first l (item x xs) h =
      omega (arith, objects_counted (deeper l) x h.0, items_counted false l xs h.1, three (before first (deeper l)) (text_of (deeper l) x) (items_text false l xs))

  members_counted : (first : Bool) (l : Layout) (ms : Members) (found : parsed.Members) → HaveReadable ms
      → objects_in_members (members_parsed ms found) ≤ length (members_text first l ms) + objects_in_members found
  members_counted first l no_members found h = omega arith
  members_counted first l (member k x ms) found h =
      omega (
        arith,
        objects_counted (deeper l) x h.1,
        members_counted false l ms (parsed.put (text_in_units k) (parsed_as x) found) h.2,
        objects_put (text_in_units k) (parsed_as x) found,
        four (before first (deeper l)) (key_text (deeper l) k) (text_of (deeper l) x) (members_text false l ms),
      )

-- ---- how long its parts are

items_listed : (first : Bool) (l : Layout) (xs : Items) → AreReadable xs → items_len (items_parsed xs) ≤ length (items_text first l xs)
items_listed first l no_items h = omega arith
items_listed first l (item x xs) h =
    omega (arith, text_some (deeper l) x h.0, items_listed false l xs h.1, three (before first (deeper l)) (text_of (deeper l) x) (items_text false l xs))

short_text : (us : List ℕ) → are_paired us ≡ true → length (quoted_units us) < 2 ^ 30 → is_long_text (text_in_units us) ≡ false
short_text us h s =
    let few : length (text_in_units us) < 2 ^ 32 = omega (arith, s, text_shorter us h) in
    lt-leb (2 ^ 32) (length (text_in_units us)) few

mutual
  pub parts_short : (l : Layout) (v : Json) → IsReadable v → length (text_of l v) < 2 ^ 30 → has_long_part (parsed_as v) ≡ false
  parts_short l null h s = refl
  parts_short l (truth b) h s = refl
  parts_short l (whole z) h s = refl
  parts_short l other_number h s = absurd h
  parts_short l (string us) h s = short_text us h s
  parts_short l (list xs) h s =
      let within : length (items_text true l xs) < 2 ^ 30 = omega (arith, s, length-append (items_text true l xs) (93 ∷ [])) in
      let few : items_len (items_parsed xs) < 2 ^ 30 = omega (arith, within, items_listed true l xs h) in
      rw (lt-leb (2 ^ 30) (items_len (items_parsed xs)) few) (items_short true l xs h within)
  parts_short l (object ms) h s =
      let within : length (members_text true l ms) < 2 ^ 30 = omega (arith, s, length-append (members_text true l ms) (125 ∷ [])) in
      members_short true l ms parsed.no_members h within refl

  items_short : (first : Bool) (l : Layout) (xs : Items) → AreReadable xs → length (items_text first l xs) < 2 ^ 30 → has_long_item (items_parsed xs) ≡ false
  items_short first l no_items h s = refl
  items_short first l (item x xs) h s =
      let all = three (before first (deeper l)) (text_of (deeper l) x) (items_text false l xs) in
      rw (parts_short (deeper l) x h.0 (omega (arith, s, all))) (items_short false l xs h.1 (omega (arith, s, all)))

  members_short : (first : Bool) (l : Layout) (ms : Members) (found : parsed.Members) → HaveReadable ms → length (members_text first l ms) < 2 ^ 30
      → has_long_member found ≡ false → has_long_member (members_parsed ms found) ≡ false
  members_short first l no_members found h s f = f
  members_short first l (member k x ms) found h s f =
      let all = four (before first (deeper l)) (key_text (deeper l) k) (text_of (deeper l) x) (members_text false l ms) in
      let key : length (quoted_units k) < 2 ^ 30 = omega (arith, s, all, length-append (quoted_units k) (58 ∷ space (deeper l))) in
      members_short false l ms (parsed.put (text_in_units k) (parsed_as x) found) h.2 (omega (arith, s, all))
      (short_put (text_in_units k) (parsed_as x) found (short_text k h.0 key) (parts_short (deeper l) x h.1 (omega (arith, s, all))) f)
