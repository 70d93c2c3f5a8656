-- A code point as one to four bytes, and back.
use Rattle.std.proofs.Common.{◌≡◌, ℕ, zero, suc, ◌<◌, ◌≤◌, ◌+◌, ◌-◌, ◌*◌, ◌/◌, ◌⊎◌, inl, inr, List, [], ◌∷◌, ◌++◌, append_assoc, append-nil, length, arith, sym, ap, ◌∙◌, refl, lt-ltb, le-ltb}
use Rattle.std.specs.Str.{chars, chars_after, continuation_len, lead_bits}
use Rattle.std.proofs.lemmas.Bool.{cases_lt}
use Rattle.std.proofs.lemmas.Bool.Decides.{nat_tests}
use lib.Utf8.{encode, encodes, next}

abbrev pub IsCodePoint : ℕ → Type 0
IsCodePoint c = c < 1114112

abbrev pub AreCodePoints : List ℕ → Type 0
AreCodePoints [] = Unit {0}
AreCodePoints (c ∷ cs) = IsCodePoint c × AreCodePoints cs

-- ---- the bytes in each range

pub one : (c : ℕ) → c < 128 → encode c ≡ c ∷ []
unfolding encode
one c h = rw (lt-ltb c 128 h)

pub two : (c : ℕ) → 128 ≤ c → c < 2048 → encode c ≡ (192 + c / 64) ∷ next c ∷ []
unfolding encode
two c l h = rw (le-ltb c 128 l, lt-ltb c 2048 h)

pub three : (c : ℕ) → 2048 ≤ c → c < 65536 → encode c ≡ (224 + c / 4096) ∷ next (c / 64) ∷ next c ∷ []
unfolding encode
three c l h = let k : 128 ≤ c = omega arith in rw (le-ltb c 128 k, le-ltb c 2048 l, lt-ltb c 65536 h)

pub four : (c : ℕ) → 65536 ≤ c → encode c ≡ (240 + c / 262144) ∷ next (c / 4096) ∷ next (c / 64) ∷ next c ∷ []
unfolding encode
four c l =
    let j : 128 ≤ c = omega arith in
    let k : 2048 ≤ c = omega arith in
    rw (le-ltb c 128 j, le-ltb c 2048 k, le-ltb c 65536 l)

-- a byte that goes on with a code point
abbrev pub Follows : ℕ → Type 0
Follows b = (128 ≤ b) × (b < 192)

-- The bytes of a code point: the first says how many follow, and together they say the code point.
pub data Shape (c : ℕ) : Type 0 where
  of1 : c < 128 → encode c ≡ c ∷ [] → Shape c
  of2 : (a b : ℕ) → 192 ≤ a → a < 224 → Follows b → c + 12416 ≡ a * 64 + b → encode c ≡ a ∷ b ∷ [] → Shape c
  of3 : (a b d : ℕ) → 224 ≤ a → a < 240 → Follows b → Follows d → c + 925824 ≡ a * 4096 + b * 64 + d → encode c ≡ a ∷ b ∷ d ∷ [] → Shape c
  of4 : (a b d e : ℕ) → 240 ≤ a → a < 248 → Follows b → Follows d → Follows e → c + 63447168 ≡ a * 262144 + b * 4096 + d * 64 + e
      → encode c ≡ a ∷ b ∷ d ∷ e ∷ [] → Shape c

follows : (x : ℕ) → Follows (next x)
follows x = (omega arith, omega arith)

pub shape : (c : ℕ) → IsCodePoint c → Shape c
shape c top = by (cases_lt c 128) (cases_lt c 2048) (cases_lt c 65536)
  where
    by : (c < 128) ⊎ (128 ≤ c) → (c < 2048) ⊎ (2048 ≤ c) → (c < 65536) ⊎ (65536 ≤ c) → Shape c
    by (inl h) _ _ = of1 h (one c h)
    by (inr l) (inl h) _ = of2 (192 + c / 64) (next c) (omega arith) (omega arith) (follows c) (omega arith) (two c l h)
    by (inr _) (inr l) (inl h) = of3 (224 + c / 4096) (next (c / 64)) (next c) (omega arith) (omega arith) (follows (c / 64)) (follows c) (omega arith) (three c l h)
    by (inr _) (inr _) (inr l) = of4 (240 + c / 262144) (next (c / 4096)) (next (c / 64)) (next c) (omega arith) (omega arith) (follows (c / 4096)) (follows (c / 64)) (follows c) (omega arith) (four c l)

-- ---- the code points that bytes spell

pub chars-nil : chars [] ≡ []
unfolding chars
chars-nil = refl

whole : (c : ℕ) (bs : List ℕ) → chars_after zero c bs ≡ c ∷ chars bs
unfolding chars
whole c [] = refl
whole c (b ∷ bs) = refl

led : (a n v : ℕ) (bs : List ℕ) → n ≡ continuation_len a → v ≡ lead_bits a → chars (a ∷ bs) ≡ chars_after n v bs
unfolding chars
led a n v bs p q = λ i. chars_after (sym p i) (sym q i) bs

reads : (c : ℕ) (rest : List ℕ) → Shape c → chars (encode c ++ rest) ≡ c ∷ chars rest
reads c rest (of1 h e) = ap (λ p. chars (p ++ rest)) e ∙ led c zero c rest (grind (arith, nat_tests)) (grind (arith, nat_tests)) ∙ whole c rest
reads c rest (of2 a b l h f s e) =
    let is : (a - 192) * 64 + (b - 128) ≡ c = omega (arith, f.0) in
    ap (λ p. chars (p ++ rest)) e
    ∙ led a (suc zero) (a - 192) (b ∷ rest) (grind (arith, nat_tests)) (grind (arith, nat_tests))
    ∙ whole _ rest ∙ ap (λ x. x ∷ chars rest) is
reads c rest (of3 a b d l h f g s e) =
    let is : ((a - 224) * 64 + (b - 128)) * 64 + (d - 128) ≡ c = omega (arith, f.0, g.0) in
    ap (λ p. chars (p ++ rest)) e
    ∙ led a (suc (suc zero)) (a - 224) (b ∷ d ∷ rest) (grind (arith, nat_tests)) (grind (arith, nat_tests))
    ∙ whole _ rest ∙ ap (λ x. x ∷ chars rest) is
reads c rest (of4 a b d x l h f g k s e) =
    let is : (((a - 240) * 64 + (b - 128)) * 64 + (d - 128)) * 64 + (x - 128) ≡ c = omega (arith, f.0, g.0, k.0) in
    ap (λ p. chars (p ++ rest)) e
    ∙ led a (suc (suc (suc zero))) (a - 240) (b ∷ d ∷ x ∷ rest) (grind (arith, nat_tests)) (grind (arith, nat_tests))
    ∙ whole _ rest ∙ ap (λ y. y ∷ chars rest) is

pub chars_first : (c : ℕ) (rest : List ℕ) → IsCodePoint c → chars (encode c ++ rest) ≡ c ∷ chars rest
chars_first c rest h = reads c rest (shape c h)

pub chars_before : (cs rest : List ℕ) → AreCodePoints cs → chars (encodes cs ++ rest) ≡ cs ++ chars rest
chars_before [] rest a = refl
chars_before (c ∷ cs) rest a =
    ap chars (append_assoc (encode c) (encodes cs) rest) ∙ chars_first c (encodes cs ++ rest) a.0 ∙ ap (λ (l : List ℕ). c ∷ l) (chars_before cs rest a.1)

pub chars-of_encodes : (cs : List ℕ) → AreCodePoints cs → chars (encodes cs) ≡ cs
chars-of_encodes cs a = ap chars (sym (append-nil (encodes cs))) ∙ chars_before cs [] a ∙ ap (λ (l : List ℕ). cs ++ l) chars-nil ∙ append-nil cs

pub AreCodePoints-append : (cs ds : List ℕ) → AreCodePoints cs → AreCodePoints ds → AreCodePoints (cs ++ ds)
AreCodePoints-append [] ds a b = b
AreCodePoints-append (c ∷ cs) ds a b = (a.0, AreCodePoints-append cs ds a.1 b)

pub chars_none : (bs : List ℕ) → length bs ≡ 0 → chars bs ≡ []
chars_none [] e = chars-nil
chars_none (b ∷ bs) e = absurd (omega arith)
