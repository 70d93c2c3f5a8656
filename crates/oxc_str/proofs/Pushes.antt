-- What is pushed at once: one code point, a text, nothing.
use Rattle.std.proofs.Common.{◌≡◌, ℕ, ◌≤◌, ◌+◌, List, [], ◌∷◌, append-nil, length, flat_map, Bool, true, false, not, ◌||◌, nat_eq, cond, arith, sym, ap, ◌∙◌, refl, subst}
use Rattle.std.specs.Char.Escape.{encode_utf16}
use Rattle.std.specs.List.{list_any}
use Rattle.std.specs.Str.{chars, IsUtf8}
use Rattle.std.proofs.lemmas.Bool.{or_parts}
use Rattle.std.proofs.lemmas.Bool.Decides.{nat_tests}
use lib.Utf8.{encode}
use Rattle.json_text.specs.Units.{units_of}
use Rattle.oxc_str.specs.Wtf8.{has_lone_surrogate, is_surrogate, IsWtf8}
use Rattle.oxc_str.specs.Wtf8Buffer.{surrogate_count, IsCounted}
use Rattle.oxc_str.proofs.CodePoints.{chars_none}
use Rattle.oxc_str.proofs.CodeUnits.{no_pair_by_trail}
use Rattle.oxc_str.proofs.Canonical.{IsWtf8-IsUtf8, has_lone_surrogate-chars, no_lone-IsUtf8}
use Rattle.oxc_str.proofs.Seams.{Text, text_of_points}

-- ---- one code point

one_text : (c : ℕ) → c ≤ 1114111 → Text (encode c) (c ∷ [])
one_text c h = text_of_points (encode c) (c ∷ []) (record {
  codes = (omega arith, tt);
  unsplit = (no_pair_by_trail c 0 refl, tt);
  bytes_are = append-nil (encode c);
})

pub one_is_text : (c : ℕ) (bs : List ℕ) → c ≤ 1114111 → bs ≡ encode c → IsWtf8 bs
one_is_text c bs h e = subst IsWtf8 (sym e) (one_text c h).text

pub one_count : (c : ℕ) (bs : List ℕ) → c ≤ 1114111 → bs ≡ encode c → surrogate_count (chars bs) ≡ cond (is_surrogate c) 1 0
one_count c bs h e = ap (λ (l : List ℕ). surrogate_count (chars l)) e ∙ ap surrogate_count (one_text c h).chars_are ∙ at (cond (is_surrogate c) 1 0)
  where
    at : (n : ℕ) → n + 0 ≡ n
    at n = omega arith

pub one_units : (c : ℕ) (bs : List ℕ) → c ≤ 1114111 → bs ≡ encode c → units_of bs ≡ encode_utf16 c
one_units c bs h e = ap units_of e ∙ (one_text c h).units_are ∙ append-nil (encode_utf16 c)

-- ---- counts

count_none : (cs : List ℕ) → list_any is_surrogate cs ≡ false → surrogate_count cs ≡ 0
count_none [] e = refl
count_none (c ∷ cs) e =
    let n = or_parts (is_surrogate c) (list_any is_surrogate cs) e in
    ap (λ (b : Bool). cond b 1 0 + surrogate_count cs) n.0 ∙ zero_and (surrogate_count cs) (count_none cs n.1)
  where
    zero_and : (n : ℕ) → n ≡ 0 → 0 + n ≡ 0
    zero_and n e = omega arith

count_some : (cs : List ℕ) → not (nat_eq (surrogate_count cs) 0) ≡ list_any is_surrogate cs
count_some [] = refl
count_some (c ∷ cs) = by (is_surrogate c) (count_some cs)
  where
    plus : (n : ℕ) → not (nat_eq (1 + n) 0) ≡ true
    plus n = grind (arith, nat_tests)

    same : (n : ℕ) → not (nat_eq (0 + n) 0) ≡ not (nat_eq n 0)
    same n = let e : 0 + n ≡ n = omega arith in ap (λ (k : ℕ). not (nat_eq k 0)) e

    by : (b : Bool) → not (nat_eq (surrogate_count cs) 0) ≡ list_any is_surrogate cs → not (nat_eq (cond b 1 0 + surrogate_count cs) 0) ≡ (b || list_any is_surrogate cs)
    by true e = plus (surrogate_count cs)
    by false e = same (surrogate_count cs) ∙ e

-- the flag by the count
pub flag_is : (bytes us : List ℕ) (count : ℕ) → IsCounted bytes count → units_of bytes ≡ us → not (nat_eq count 0) ≡ has_lone_surrogate us
flag_is bytes us count k e =
    ap (λ (n : ℕ). not (nat_eq n 0)) k.counted ∙ count_some (chars bytes) ∙ sym (has_lone_surrogate-chars bytes k.text) ∙ ap has_lone_surrogate e

-- no surrogate stands alone
pub count_is_0 : (bytes : List ℕ) → IsWtf8 bytes → has_lone_surrogate (units_of bytes) ≡ false → 0 ≡ surrogate_count (chars bytes)
count_is_0 bytes w e = sym (count_none (chars bytes) (sym (has_lone_surrogate-chars bytes w) ∙ e))

pub utf8_count : (bytes : List ℕ) → IsUtf8 bytes → 0 ≡ surrogate_count (chars bytes)
utf8_count bytes u = count_is_0 bytes (IsWtf8-IsUtf8 bytes u) (no_lone-IsUtf8 bytes u)

-- ---- nothing

pub none_counted : (bytes : List ℕ) → bytes ≡ [] → IsCounted bytes 0
none_counted bytes e =
    let utf8 : IsUtf8 [] = ([], (refl, refl)) in
    subst (λ (l : List ℕ). IsCounted l 0) (sym e) (record { text = IsWtf8-IsUtf8 [] utf8; counted = utf8_count [] utf8 })

pub none_units : (bytes : List ℕ) → bytes ≡ [] → units_of bytes ≡ []
none_units bytes e = ap (λ (l : List ℕ). flat_map encode_utf16 l) (chars_none bytes (ap length e))

-- ---- the surrogates of the first, and those of the others

pub count_step : (all cs : List ℕ) (c : ℕ) → all ≡ c ∷ cs → surrogate_count all ≡ cond (is_surrogate c) 1 0 + surrogate_count cs
count_step all cs c e = ap surrogate_count e
