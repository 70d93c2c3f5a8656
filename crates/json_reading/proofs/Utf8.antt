-- The text of a value in which no surrogate stands alone is UTF-8.
use Rattle.std.proofs.Common.{◌≡◌, ℕ, zero, suc, ◌*◌, pos, negsuc, List, [], ◌∷◌, ◌++◌, Bool, true, false, replicate, decimal, IsUtf8, refl, sym, subst, arith}
use Rattle.std.specs.Fmt.{signed_decimal}
use Rattle.std.proofs.lemmas.Fmt.{IsAscii-decimal}
use Rattle.std.proofs.lemmas.Str.{IsUtf8-append, IsUtf8-from_ascii, IsUtf8-nil}
use Rattle.json.proofs.Printed.Utf8.{IsUtf8-are_ascii, IsUtf8-quoted}
use Rattle.json_text.specs.Json.{Json, null, truth, whole, other_number, string, list, object, Items, no_items, item, Members, no_members, member}
use Rattle.json_text.specs.Layout.{Layout, compact, deeper, new_line, pretty, space}
use Rattle.json_text.specs.Strings.{quoted_units}
use Rattle.json_text.specs.Text.{before, closing, items_text, key_text, members_text, text_of}
use Rattle.json_reading.proofs.Strings.{quoted_alike, text_utf8}
use Rattle.json_reading.specs.Parsed.{text_in_units}
use Rattle.json_reading.specs.Readable.{AreReadable, HasBits, HaveReadable, IsReadable, are_paired}

spaces_utf8 : (n : ℕ) → IsUtf8 (replicate n 32)
spaces_utf8 zero = IsUtf8-nil
spaces_utf8 (suc n) = IsUtf8-append (32 ∷ []) (replicate n 32) (IsUtf8-are_ascii (32 ∷ []) refl) (spaces_utf8 n)

line_utf8 : (l : Layout) → IsUtf8 (new_line l)
line_utf8 compact = IsUtf8-nil
line_utf8 (pretty n) = IsUtf8-append (10 ∷ []) (replicate (2 * n) 32) (IsUtf8-are_ascii (10 ∷ []) refl) (spaces_utf8 (2 * n))

space_utf8 : (l : Layout) → IsUtf8 (space l)
space_utf8 compact = IsUtf8-nil
space_utf8 (pretty n) = IsUtf8-are_ascii (32 ∷ []) refl

closing_utf8 : (first : Bool) (l : Layout) → IsUtf8 (closing first l)
closing_utf8 true l = IsUtf8-nil
closing_utf8 false l = line_utf8 l

before_utf8 : (first : Bool) (l : Layout) → IsUtf8 (before first l)
before_utf8 true l = line_utf8 l
before_utf8 false l = IsUtf8-append (44 ∷ []) (new_line l) (IsUtf8-are_ascii (44 ∷ []) refl) (line_utf8 l)

number_utf8 : (z : _) → HasBits z → IsUtf8 (signed_decimal z)
number_utf8 (pos n) h = IsUtf8-from_ascii (decimal n) (IsAscii-decimal n h)
number_utf8 (negsuc n) h =
    IsUtf8-append (45 ∷ []) (decimal (suc n)) (IsUtf8-are_ascii (45 ∷ []) refl) (IsUtf8-from_ascii (decimal (suc n)) (IsAscii-decimal (suc n) (omega (arith, h))))

string_utf8 : (us : List ℕ) → are_paired us ≡ true → IsUtf8 (quoted_units us)
string_utf8 us h = subst IsUtf8 (sym (quoted_alike us h)) (IsUtf8-quoted (text_in_units us) (text_utf8 us h))

key_utf8 : (l : Layout) (k : List ℕ) → are_paired k ≡ true → IsUtf8 (key_text l k)
key_utf8 l k h = IsUtf8-append (quoted_units k) (58 ∷ space l) (string_utf8 k h) (IsUtf8-append (58 ∷ []) (space l) (IsUtf8-are_ascii (58 ∷ []) refl) (space_utf8 l))

in_brackets : (a b : ℕ) (t : List ℕ) → IsUtf8 (a ∷ []) → IsUtf8 (b ∷ []) → IsUtf8 t → IsUtf8 (a ∷ (t ++ b ∷ []))
in_brackets a b t h i u = IsUtf8-append (a ∷ []) (t ++ b ∷ []) h (IsUtf8-append t (b ∷ []) u i)

mutual
  pub value_utf8 : (l : Layout) (v : Json) → IsReadable v → IsUtf8 (text_of l v)
  value_utf8 l null h = IsUtf8-are_ascii _ refl
  value_utf8 l (truth true) h = IsUtf8-are_ascii _ refl
  value_utf8 l (truth false) h = IsUtf8-are_ascii _ refl
  value_utf8 l (whole z) h = number_utf8 z h
  value_utf8 l other_number h = absurd h
  value_utf8 l (string us) h = string_utf8 us h
  value_utf8 l (list xs) h = in_brackets 91 93 (items_text true l xs) (IsUtf8-are_ascii (91 ∷ []) refl) (IsUtf8-are_ascii (93 ∷ []) refl) (items_utf8 true l xs h)
  value_utf8 l (object ms) h = in_brackets 123 125 (members_text true l ms) (IsUtf8-are_ascii (123 ∷ []) refl) (IsUtf8-are_ascii (125 ∷ []) refl) (members_utf8 true l ms h)

  items_utf8 : (first : Bool) (l : Layout) (xs : Items) → AreReadable xs → IsUtf8 (items_text first l xs)
  items_utf8 first l no_items h = closing_utf8 first l
  items_utf8 first l (item x xs) h =
      IsUtf8-append (before first (deeper l)) (text_of (deeper l) x ++ items_text false l xs) (before_utf8 first (deeper l))
      (IsUtf8-append (text_of (deeper l) x) (items_text false l xs) (value_utf8 (deeper l) x h.0) (items_utf8 false l xs h.1))

  members_utf8 : (first : Bool) (l : Layout) (ms : Members) → HaveReadable ms → IsUtf8 (members_text first l ms)
  members_utf8 first l no_members h = closing_utf8 first l
  members_utf8 first l (member k x ms) h =
      IsUtf8-append (before first (deeper l)) (key_text (deeper l) k ++ (text_of (deeper l) x ++ members_text false l ms)) (before_utf8 first (deeper l))
      (IsUtf8-append (key_text (deeper l) k) (text_of (deeper l) x ++ members_text false l ms) (key_utf8 (deeper l) k h.0)
      (IsUtf8-append (text_of (deeper l) x) (members_text false l ms) (value_utf8 (deeper l) x h.1) (members_utf8 false l ms h.2)))
