-- Canonical WTF-8 by its code points.
use Rattle.std.proofs.Common.{◌≡◌, ℕ, ◌<◌, ◌≤◌, ⊎_elim, inl, inr, List, [], ◌∷◌, get_or, length, true, false, flat_map, arith, sym, ap, ◌∙◌, refl, subst, true≢false}
use Rattle.std.specs.Char.Escape.{encode_utf16}
use Rattle.std.specs.List.{list_any}
use Rattle.std.specs.Str.{IsUtf8, chars}
use Rattle.std.proofs.lemmas.Bool.{and_parts, cases_lt, or_parts}
use Rattle.std.proofs.lemmas.Bool.Decides.{nat_tests}
use lib.Utf8.{scalar, scalars, encodes, scalar_cases}
use Rattle.json_text.specs.Strings.{is_lead}
use Rattle.json_text.specs.Units.{are_code_units, units_of}
use Rattle.json_text.proofs.Units.{are_code_units-AreCodeUnits, AreCodeUnits-are_code_units}
use Rattle.oxc_estree.proofs.Units.{no_lead}
use Rattle.oxc_str.specs.Wtf8.{code_points, wtf8, has_lone_surrogate, is_surrogate, IsWtf8, BytesGiveUnitsBack}
use Rattle.oxc_str.proofs.CodePoints.{IsCodePoint, AreCodePoints, chars-of_encodes, chars_none}
use Rattle.oxc_str.proofs.CodeUnits.{Unsplit, spelled, code_points-of_units, AreCodeUnits-of_code_points, code_points-nil, no_pair_by_lead}

pub wtf8-is : (us : List ℕ) → wtf8 us ≡ encodes (code_points us)
unfolding wtf8
wtf8-is us = refl

-- These code points are spelled by the bytes.
pub record Points (bytes cs : List ℕ) : Type 0 where
  pub codes : AreCodePoints cs
  pub unsplit : Unsplit cs
  pub bytes_are : encodes cs ≡ bytes

pub units_of-encodes : (cs : List ℕ) → AreCodePoints cs → units_of (encodes cs) ≡ flat_map encode_utf16 cs
units_of-encodes cs a = ap (λ (l : List ℕ). flat_map encode_utf16 l) (chars-of_encodes cs a)

pub IsWtf8-encodes : (cs : List ℕ) → AreCodePoints cs → Unsplit cs → IsWtf8 (encodes cs)
IsWtf8-encodes cs a p =
    let e = units_of-encodes cs a in
    record {
      units = ap are_code_units e ∙ are_code_units-AreCodeUnits _ (AreCodeUnits-of_code_points cs a);
      canonical = ap wtf8 e ∙ wtf8-is _ ∙ ap encodes (code_points-of_units cs a p);
    }

pub IsWtf8-points : (bytes cs : List ℕ) → Points bytes cs → IsWtf8 bytes
IsWtf8-points bytes cs p = subst IsWtf8 p.bytes_are (IsWtf8-encodes cs p.codes p.unsplit)

points-by : (bytes : List ℕ) → IsWtf8 bytes → Points bytes (code_points (units_of bytes))
points-by bytes w =
    let s = spelled (units_of bytes) (AreCodeUnits-are_code_units _ w.units) in
    record { codes = s.codes; unsplit = s.unsplit; bytes_are = sym (wtf8-is _) ∙ w.canonical }

-- the code points of the units are those that the bytes spell
pub code_points-chars : (bytes : List ℕ) → IsWtf8 bytes → code_points (units_of bytes) ≡ chars bytes
code_points-chars bytes w =
    let p = points-by bytes w in
    sym (chars-of_encodes _ p.codes) ∙ ap chars p.bytes_are

pub points : (bytes : List ℕ) → IsWtf8 bytes → Points bytes (chars bytes)
points bytes w = subst (Points bytes) (code_points-chars bytes w) (points-by bytes w)

pub bytes_give_units_back : BytesGiveUnitsBack
bytes_give_units_back us u =
    let s = spelled us (AreCodeUnits-are_code_units us u) in
    let w = subst IsWtf8 (sym (wtf8-is us)) (IsWtf8-encodes _ s.codes s.unsplit) in
    (w, ap units_of (wtf8-is us) ∙ units_of-encodes _ s.codes ∙ s.back)

-- ---- lone surrogates

pub has_lone_surrogate-chars : (bytes : List ℕ) → IsWtf8 bytes → has_lone_surrogate (units_of bytes) ≡ list_any is_surrogate (chars bytes)
unfolding has_lone_surrogate
has_lone_surrogate-chars bytes w = ap (list_any is_surrogate) (code_points-chars bytes w)

-- ---- UTF-8

-- a character is a code point, and no surrogate
character : (c : ℕ) → scalar c ≡ true → IsCodePoint c × (is_surrogate c ≡ false) × (is_lead c ≡ false)
character c e = ⊎_elim
    (λ (h : c < 55296). (omega arith, grind (arith, nat_tests), no_lead c (inl h)))
    (λ (h : (57344 ≤ c) × (c < 1114112)). let low : 57344 ≤ c = h.0 in (h.1, grind (arith, nat_tests), no_lead c (inr (omega arith))))
    (scalar_cases c e)

-- a code point that is no surrogate is a character
no_surrogate : (c : ℕ) → IsCodePoint c → is_surrogate c ≡ false → scalar c ≡ true
no_surrogate c h e = ⊎_elim (λ (a : c < 55296). grind (arith, nat_tests))
    (λ (a : 55296 ≤ c). ⊎_elim (λ (b : c < 57344). absurd (true≢false (grind (arith, nat_tests)))) (λ (b : 57344 ≤ c). grind (arith, nat_tests)) (cases_lt c 57344))
    (cases_lt c 55296)

pub record Characters (cs : List ℕ) : Type 0 where
  pub codes : AreCodePoints cs
  pub unsplit : Unsplit cs
  pub no_surrogates : list_any is_surrogate cs ≡ false

pub characters : (cs : List ℕ) → scalars cs ≡ true → Characters cs
characters [] e = record { codes = tt; unsplit = tt; no_surrogates = refl }
characters (c ∷ cs) e =
    let b = and_parts (scalar c) (scalars cs) e in
    let k = character c b.0 in
    let r = characters cs b.1 in
    record {
      codes = (k.0, r.codes);
      unsplit = (no_pair_by_lead c (get_or cs 0 0) k.2, r.unsplit);
      no_surrogates = rw (k.1) r.no_surrogates;
    }

pub IsWtf8-IsUtf8 : (bytes : List ℕ) → IsUtf8 bytes → IsWtf8 bytes
IsWtf8-IsUtf8 bytes u = let k = characters u.0 u.1.0 in subst IsWtf8 u.1.1 (IsWtf8-encodes u.0 k.codes k.unsplit)

pub no_lone-IsUtf8 : (bytes : List ℕ) → IsUtf8 bytes → has_lone_surrogate (units_of bytes) ≡ false
no_lone-IsUtf8 bytes u =
    let k = characters u.0 u.1.0 in
    has_lone_surrogate-chars bytes (IsWtf8-IsUtf8 bytes u)
    ∙ ap (list_any is_surrogate) (ap chars (sym u.1.1) ∙ chars-of_encodes u.0 k.codes) ∙ k.no_surrogates

scalars-no_surrogates : (cs : List ℕ) → AreCodePoints cs → list_any is_surrogate cs ≡ false → scalars cs ≡ true
scalars-no_surrogates [] a e = refl
scalars-no_surrogates (c ∷ cs) a e =
    let n = or_parts (is_surrogate c) (list_any is_surrogate cs) e in
    rw (no_surrogate c a.0 n.0) (scalars-no_surrogates cs a.1 n.1)

pub IsUtf8-no_lone : (bytes : List ℕ) → IsWtf8 bytes → has_lone_surrogate (units_of bytes) ≡ false → IsUtf8 bytes
IsUtf8-no_lone bytes w e =
    let p = points bytes w in
    (chars bytes, (scalars-no_surrogates _ p.codes (sym (has_lone_surrogate-chars bytes w) ∙ e), p.bytes_are))

-- ---- nothing

pub units_of-nil : (bytes : List ℕ) → length bytes ≡ 0 → units_of bytes ≡ []
units_of-nil bytes e = ap (λ (l : List ℕ). flat_map encode_utf16 l) (chars_none bytes e)

pub bytes-nil : (bytes : List ℕ) → IsWtf8 bytes → units_of bytes ≡ [] → bytes ≡ []
bytes-nil bytes w e = sym w.canonical ∙ ap wtf8 e ∙ wtf8-is [] ∙ ap encodes code_points-nil
