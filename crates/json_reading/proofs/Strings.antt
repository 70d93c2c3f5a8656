-- The text of a string in which no surrogate stands alone is its bytes, escaped as `json` escapes them.
use Rattle.std.proofs.Common.{◌≡◌, ℕ, zero, suc, ◌<◌, ◌≤◌, List, [], ◌∷◌, ◌++◌, Bool, true, ◌&&◌, flat_map, bytes_eq, None, Some, if◌then◌else◌, IsUtf8, refl, sym, ap, ap₂, ◌∙◌, arith, inl, inr}
use Rattle.std.proofs.lemmas.Bool.{and_parts, cases_lt, cases_eq}
use Rattle.std.proofs.lemmas.Bool.Decides.{nat_tests}
use Rattle.std.proofs.lemmas.Slice.Eq.{bytes_eq-Decides}
use Rattle.json.proofs.Printed.Strings.{escape_byte_plain}
use Rattle.json.specs.Print.{escape, escape_byte, quoted}
use Rattle.json_text.proofs.Units.{IsUtf8-text_of_units, units_of-text_of_units}
use Rattle.json_text.specs.Strings.{quoted_units, units_text}
use Rattle.json_text.specs.Units.{text_of_units, units_of}
use Rattle.oxc_estree.proofs.ByteTexts.{units_text-bytes}
use Rattle.oxc_estree.specs.Escapes.{byte_text}
use Rattle.json_reading.specs.Parsed.{text_in_units}
use Rattle.json_reading.specs.Readable.{are_paired}

-- ---- byte by byte

-- the bytes below n are escaped alike
abbrev alike_below : ℕ → Bool
alike_below zero = true
alike_below (suc n) = bytes_eq (byte_text n) (escape_byte n) && alike_below n

alike_at : (n : ℕ) → alike_below n ≡ true → (b : ℕ) → b < n → byte_text b ≡ escape_byte b
alike_at zero e b h = absurd (omega arith)
alike_at (suc n) e b h =
    let p = and_parts (bytes_eq (byte_text n) (escape_byte n)) (alike_below n) e in
    elim (cases_eq b n) [ inl same ↦ rw same ((bytes_eq-Decides (byte_text n) (escape_byte n)).0 p.0) | inr other ↦ alike_at n p.1 b (omega arith) ]

ascii_alike : alike_below 128 ≡ true
unfolding escape_byte lib.Utf8.encode
ascii_alike = refl

high_alone : (b : ℕ) → 128 ≤ b → byte_text b ≡ b ∷ []
high_alone b h = grind (arith, nat_tests)

byte_alike : (b : ℕ) → byte_text b ≡ escape_byte b
byte_alike b = elim (cases_lt b 128) [
  | inl low ↦ alike_at 128 ascii_alike b low
  | inr high ↦ high_alone b high ∙ sym (escape_byte_plain b (λ e. omega arith) (λ e. omega arith) (omega arith))
]

bytes_alike : (bs : List ℕ) → flat_map byte_text bs ≡ escape bs
bytes_alike [] = refl
bytes_alike (b ∷ bs) = ap₂ (λ (x y : List ℕ). x ++ y) (byte_alike b) (bytes_alike bs)

-- ---- code units and their text

pub has_text : (us : List ℕ) → are_paired us ≡ true → text_of_units us ≡ Some (text_in_units us)
has_text us h = ap (λ (b : Bool). if b then Some (text_in_units us) else None) h

pub text_utf8 : (us : List ℕ) → are_paired us ≡ true → IsUtf8 (text_in_units us)
text_utf8 us h = IsUtf8-text_of_units us (text_in_units us) (has_text us h)

pub units_back : (us : List ℕ) → are_paired us ≡ true → units_of (text_in_units us) ≡ us
units_back us h = units_of-text_of_units us (text_in_units us) (has_text us h)

pub quoted_alike : (us : List ℕ) → are_paired us ≡ true → quoted_units us ≡ quoted (text_in_units us)
quoted_alike us h =
    let bs : List ℕ = text_in_units us in
    ap (λ (t : List ℕ). 34 ∷ (t ++ 34 ∷ []))
    (ap (units_text None) (sym (units_back us h)) ∙ units_text-bytes bs (text_utf8 us h) ∙ bytes_alike bs)
