-- The text of a text's code units is its characters', each escaped where it has to be.
use Rattle.std.proofs.Common.{◌≡◌, ℕ, ◌+◌, ◌-◌, ◌*◌, ◌/◌, ◌%◌, ◌<◌, ◌≤◌, ◌⊎◌, ⊎_elim, inl, inr, List, [], ◌∷◌, ◌++◌, true, false, flat_map, ap, ◌∙◌, sym, refl, arith, None, encode_utf8}
use Rattle.std.proofs.lemmas.Bool.{and_parts, cases_lt}
use Rattle.std.proofs.lemmas.Bool.Decides.{nat_tests}
use Rattle.std.proofs.Math.Utf8.{scalar, scalars}
use Rattle.std.specs.Char.Escape.{encode_utf16}
use Rattle.json_text.proofs.Units.{encode_utf16-long, encode_utf16-short}
use Rattle.json_text.specs.Strings.{is_lead, is_trail, units_text, char_text, joined}
use lib.Utf8.{scalar_cases}

pub no_lead : (c : ℕ) → (c < 55296) ⊎ (56320 ≤ c) → is_lead c ≡ false
no_lead c h = grind (arith, nat_tests)

pub no_trail : (c : ℕ) → (c < 56320) ⊎ (57344 ≤ c) → is_trail c ≡ false
no_trail c h = grind (arith, nat_tests)

pub lead : (c : ℕ) → 55296 ≤ c → c < 56320 → is_lead c ≡ true
lead c a b = grind (arith, nat_tests)

pub trail : (c : ℕ) → 56320 ≤ c → c < 57344 → is_trail c ≡ true
trail c a b = grind (arith, nat_tests)

pub high_text : (c : ℕ) → 65536 ≤ c → char_text c ≡ encode_utf8 c
high_text c h = grind (arith, nat_tests)

low_step : (c : ℕ) (us : List ℕ) → is_lead c ≡ false → is_trail c ≡ false → units_text None (c ∷ us) ≡ char_text c ++ units_text None us
low_step c us a b = rw (a, b) refl

high_step : (h t : ℕ) (us : List ℕ) → is_lead h ≡ true → is_lead t ≡ false → is_trail t ≡ true →
    units_text None (h ∷ t ∷ us) ≡ encode_utf8 (joined h t) ++ units_text None us
high_step h t us a b c = rw (a, b, c) refl

low_case : (c : ℕ) (us cs : List ℕ) → (c < 55296) ⊎ ((57344 ≤ c) × (c < 1114112)) → c < 65536 → units_text None us ≡ flat_map char_text cs →
    units_text None (encode_utf16 c ++ us) ≡ char_text c ++ flat_map char_text cs
low_case c us cs s h e =
    let a = no_lead c (⊎_elim (λ (k : c < 55296). inl k) (λ (k : (57344 ≤ c) × (c < 1114112)). inr (omega arith)) s) in
    let b = no_trail c (⊎_elim (λ (k : c < 55296). inl (omega arith)) (λ (k : (57344 ≤ c) × (c < 1114112)). inr k.0) s) in
    ap (λ (t : List ℕ). units_text None (t ++ us)) (encode_utf16-short c h) ∙ low_step c us a b ∙ ap (λ (t : List ℕ). char_text c ++ t) e

high_case : (c : ℕ) (us cs : List ℕ) → c < 1114112 → 65536 ≤ c → units_text None us ≡ flat_map char_text cs →
    units_text None (encode_utf16 c ++ us) ≡ char_text c ++ flat_map char_text cs
high_case c us cs s h e =
    let x : ℕ = c - 65536 in
    let small : x / 1024 < 1024 = omega arith in
    let rest : x % 1024 < 1024 = omega arith in
    let whole : 1024 * (x / 1024) + x % 1024 ≡ x = omega arith in
    let j : joined (55296 + x / 1024) (56320 + x % 1024) ≡ c = omega arith in
    ap (λ (t : List ℕ). units_text None (t ++ us)) (encode_utf16-long c h)
    ∙ high_step (55296 + x / 1024) (56320 + x % 1024) us (lead (55296 + x / 1024) (omega arith) (omega arith))
    (no_lead (56320 + x % 1024) (inr (omega arith))) (trail (56320 + x % 1024) (omega arith) (omega arith))
    ∙ ap (λ (k : ℕ). encode_utf8 k ++ units_text None us) j
    ∙ ap (λ (t : List ℕ). encode_utf8 c ++ t) e
    ∙ ap (λ (t : List ℕ). t ++ flat_map char_text cs) (sym (high_text c h))

pub units_text-chars : (cs : List ℕ) → scalars cs ≡ true → units_text None (flat_map encode_utf16 cs) ≡ flat_map char_text cs
units_text-chars [] e = refl
units_text-chars (c ∷ cs) e =
    let s = and_parts (scalar c) (scalars cs) e in
    let k = scalar_cases c s.0 in
    let below : c < 1114112 = ⊎_elim (λ (h : c < 55296). omega arith) (λ (h : (57344 ≤ c) × (c < 1114112)). h.1) k in
    let i = units_text-chars cs s.1 in
    ⊎_elim (λ (h : c < 65536). low_case c (flat_map encode_utf16 cs) cs k h i) (λ (h : 65536 ≤ c). high_case c (flat_map encode_utf16 cs) cs below h i) (cases_lt c 65536)
