-- The text of a string is the text of its bytes, each escaped where it has to be.
use Rattle.std.proofs.Common.{◌≡◌, ℕ, suc, ◌+◌, ◌<◌, ◌≤◌, ⊎_elim, List, [], ◌∷◌, ◌++◌, Bool, true, false, cond, flat_map, take, length, get_or, ap, ◌∙◌, ap₂, sym, refl, arith, None, append-nil}
use Rattle.std.proofs.Math.Utf8.{scalars}
use Rattle.std.proofs.lemmas.Bool.{cases_lt}
use Rattle.std.proofs.lemmas.Bool.Decides.{nat_tests}
use Rattle.std.proofs.lemmas.List.Concat.{flat_map-append}
use Rattle.std.proofs.lemmas.Str.{chars-encodes, encode_ascii}
use Rattle.std.specs.List.{position_or_len}
use Rattle.std.specs.Str.{IsUtf8, chars}
use Rattle.json_text.specs.Strings.{char_text, units_text}
use Rattle.json_text.specs.Units.{units_of}
use Rattle.oxc_estree.specs.Escapes.{byte_text, needs_escape}
use Rattle.oxc_estree.proofs.Units.{units_text-chars}
use lib.Utf8.{encode, encodes}

-- a byte that is no ASCII stands for itself
high_byte : (b : ℕ) → 128 ≤ b → byte_text b ≡ b ∷ []
high_byte b h = grind (arith, nat_tests)

low_char : (c : ℕ) → c < 128 → byte_text c ≡ char_text c
unfolding encode
low_char c h = grind (arith, nat_tests)

high_char : (c : ℕ) → 128 ≤ c → char_text c ≡ encode c
high_char c h = grind (arith, nat_tests)

high_bytes : (xs : List ℕ) → ((k : ℕ) → k < length xs → 128 ≤ get_or xs k 0) → flat_map byte_text xs ≡ xs
high_bytes [] h = refl
high_bytes (x ∷ xs) h = (λ i. high_byte x (h 0 (omega arith)) i ++ high_bytes xs (λ k l. h (suc k) (omega arith)) i)

encoded_bytes : (c : ℕ) → 128 ≤ c → flat_map byte_text (encode c) ≡ encode c
unfolding encode
encoded_bytes c h = grind (arith, nat_tests, high_byte)

char_bytes : (c : ℕ) → flat_map byte_text (encode c) ≡ char_text c
char_bytes c = ⊎_elim low high (cases_lt c 128)
  where
    low : c < 128 → flat_map byte_text (encode c) ≡ char_text c
    low h = ap (flat_map byte_text) (encode_ascii c h) ∙ append-nil (byte_text c) ∙ low_char c h

    high : 128 ≤ c → flat_map byte_text (encode c) ≡ char_text c
    high h = encoded_bytes c h ∙ sym (high_char c h)

pub encoded-byte_text : (cs : List ℕ) → flat_map byte_text (encodes cs) ≡ flat_map char_text cs
encoded-byte_text [] = refl
encoded-byte_text (c ∷ cs) =
    flat_map-append byte_text (encode c) (encodes cs) ∙ (λ i. char_bytes c i ++ encoded-byte_text cs i)

-- the text of a string, as what its bytes write
pub units_text-bytes : (bs : List ℕ) → IsUtf8 bs → units_text None (units_of bs) ≡ flat_map byte_text bs
units_text-bytes bs u =
    let cs = u.0 in
    let is : chars bs ≡ cs = ap chars (sym u.1.1) ∙ chars-encodes cs u.1.0 in
    units_text-chars (chars bs) (ap scalars is ∙ u.1.0) ∙ ap (flat_map char_text) is ∙ sym (encoded-byte_text cs) ∙ ap (flat_map byte_text) u.1.1

-- bytes before the first that needs an escape stand for themselves
pub plain_bytes : (bs : List ℕ) → flat_map byte_text (take (position_or_len needs_escape bs) bs) ≡ take (position_or_len needs_escape bs) bs
plain_bytes [] = refl
plain_bytes (b ∷ bs) = by_test (needs_escape b) refl (plain_bytes bs)
  where
    by_test : (u : Bool) → needs_escape b ≡ u → flat_map byte_text (take (position_or_len needs_escape bs) bs) ≡ take (position_or_len needs_escape bs) bs →
        flat_map byte_text (take (position_or_len needs_escape (b ∷ bs)) (b ∷ bs)) ≡ take (position_or_len needs_escape (b ∷ bs)) (b ∷ bs)
    by_test true e rest = rw e refl
    by_test false e rest =
        let more : 1 + position_or_len needs_escape bs ≡ suc (position_or_len needs_escape bs) = omega arith in
        rw (e, more) (ap₂ (λ (c : List ℕ) (t : List ℕ). c ++ t) (ap (λ u. cond u (char_text b) (b ∷ [])) e) rest)
