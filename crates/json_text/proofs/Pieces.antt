-- The text of code units reads as them.
use Rattle.std.proofs.Common.{◌≡◌, ℕ, ◌<◌, ◌≤◌, ◌≢◌, ◌+◌, ◌*◌, ◌/◌, ◌%◌, ◌⊎◌, ⊎_elim, inl, inr, List, [], ◌∷◌, ◌++◌, Bool, true, false, nat_lt, Option, Some, None, flat_map, arith, sym, ap, ◌∙◌, refl, subst, append_assoc, append-nil, encode_utf8}
use Rattle.std.specs.Char.{IsScalar}
use Rattle.std.proofs.lemmas.Bool.{cases_eq, cases_lt}
use Rattle.std.proofs.lemmas.Bool.Decides.{nat_tests}
use Rattle.json_text.specs.Strings.{hex_digit, unit_escape, char_text, is_lead, is_trail, joined, flush, trail_text, units_text, quoted_units}
use Rattle.json_text.specs.Grammar.{Piece, char, short, hex, piece_text, ReadsPiece, ReadsPieces, IsHex, IsString}
use Rattle.json_text.specs.HasText.{AreCodeUnits}

abbrev Pieces : List ℕ → List ℕ → Type 0
Pieces t us = (ps : List Piece) × (flat_map piece_text ps ≡ t) × ReadsPieces ps us

abbrev OnePiece : List ℕ → List ℕ → Type 0
OnePiece t us = (q : Piece) × (piece_text q ≡ t) × ReadsPiece q us

no_pieces : Pieces [] []
no_pieces = ([], refl, refl)

cons : (t u a b : List ℕ) → OnePiece t a → Pieces u b → Pieces (t ++ u) (a ++ b)
cons t u a b (q, e, r) (ps, f, s) =
    (q ∷ ps, ap (λ (x : List ℕ). x ++ flat_map piece_text ps) e ∙ ap (λ (x : List ℕ). t ++ x) f, (a, b, refl, r, s))

hex_ok : (d : ℕ) → d < 16 → IsHex (hex_digit d) d
hex_ok d h = by_test (nat_lt d 10) refl
  where
    by_test : (b : Bool) → nat_lt d 10 ≡ b → IsHex (hex_digit d) d
    by_test true e = let l : d < 10 = grind (arith, nat_tests) in let f : hex_digit d ≡ 48 + d = grind (arith, nat_tests) in rw f (inl (omega arith, omega arith, omega arith))
    by_test false e = let l : 10 ≤ d = grind (arith, nat_tests) in let f : hex_digit d ≡ 87 + d = grind (arith, nat_tests) in rw f (inr (inr (omega arith, omega arith, omega arith)))

escaped : (u : ℕ) → u < 65536 → OnePiece (unit_escape u) (u ∷ [])
escaped u h =
    let e : u ≡ (u / 4096) * 4096 + (u / 256 % 16) * 256 + (u / 16 % 16) * 16 + u % 16 = omega arith in (
      hex (hex_digit (u / 4096)) (hex_digit (u / 256 % 16)) (hex_digit (u / 16 % 16)) (hex_digit (u % 16)),
      refl,
      (
        u / 4096,
        u / 256 % 16,
        u / 16 % 16,
        u % 16,
        hex_ok (u / 4096) (omega arith),
        hex_ok (u / 256 % 16) (omega arith),
        hex_ok (u / 16 % 16) (omega arith),
        hex_ok (u % 16) (omega arith),
        ap (λ (k : ℕ). k ∷ []) e,
      ),
    )

here : (c k : ℕ) → c ≡ k → OnePiece (char_text k) (k ∷ []) → OnePiece (char_text c) (c ∷ [])
here c k e r = subst (λ (d : ℕ). OnePiece (char_text d) (d ∷ [])) (sym e) r

low_text : (c : ℕ) → c ≢ 34 → c ≢ 92 → c ≢ 8 → c ≢ 9 → c ≢ 10 → c ≢ 12 → c ≢ 13 → c < 32 → char_text c ≡ unit_escape c
low_text c a b d e f g h l = grind (arith, nat_tests)

high_text : (c : ℕ) → c ≢ 34 → c ≢ 92 → 32 ≤ c → char_text c ≡ encode_utf8 c
high_text c a b l = grind (arith, nat_tests)

scalar_of : (c : ℕ) → (c < 55296) ⊎ (57344 ≤ c) → c < 65536 → IsScalar c
scalar_of c s h = ⊎_elim (λ (k : c < 55296). grind (arith, nat_tests)) (λ (k : 57344 ≤ c). grind (arith, nat_tests)) s

neither : (u : ℕ) → is_lead u ≡ false → is_trail u ≡ false → (u < 55296) ⊎ (57344 ≤ u)
neither u e f = ⊎_elim (λ (k : u < 55296). inl k) (λ (k : 55296 ≤ u).
    ⊎_elim (λ (l : u < 57344). absurd (surrogate u k l e f)) (λ (l : 57344 ≤ u). inr l) (cases_lt u 57344)) (cases_lt u 55296)
  where
    surrogate : (u : ℕ) → 55296 ≤ u → u < 57344 → is_lead u ≡ false → is_trail u ≡ false → ⊥
    surrogate u a b e f = grind (arith, nat_tests)

plain : (c : ℕ) → (c < 55296) ⊎ (57344 ≤ c) → c < 65536 → OnePiece (char_text c) (c ∷ [])
plain c s h =
    ⊎_elim (λ (e : c ≡ 34). here c 34 e (short 34, refl, inl (inl (refl, refl)))) (λ (n34 : c ≢ 34).
    ⊎_elim (λ (e : c ≡ 92). here c 92 e (short 92, refl, inl (inr (refl, refl)))) (λ (n92 : c ≢ 92).
    ⊎_elim (λ (e : c ≡ 8). here c 8 e (short 98, refl, inr (inr (inl (refl, refl))))) (λ (n8 : c ≢ 8).
    ⊎_elim (λ (e : c ≡ 9). here c 9 e (short 116, refl, inr (inr (inr (inr (inr (inr (refl, refl)))))))) (λ (n9 : c ≢ 9).
    ⊎_elim (λ (e : c ≡ 10). here c 10 e (short 110, refl, inr (inr (inr (inr (inl (refl, refl))))))) (λ (n10 : c ≢ 10).
    ⊎_elim (λ (e : c ≡ 12). here c 12 e (short 102, refl, inr (inr (inr (inl (refl, refl)))))) (λ (n12 : c ≢ 12).
    ⊎_elim (λ (e : c ≡ 13). here c 13 e (short 114, refl, inr (inr (inr (inr (inr (inl (refl, refl)))))))) (λ (n13 : c ≢ 13).
    ⊎_elim (λ (l : c < 32). subst (λ (t : List ℕ). OnePiece t (c ∷ [])) (sym (low_text c n34 n92 n8 n9 n10 n12 n13 l)) (escaped c h))
    (λ (l : 32 ≤ c). subst (λ (t : List ℕ). OnePiece t (c ∷ [])) (sym (high_text c n34 n92 l)) (char c, refl, (scalar_of c s h, l, n34, n92, (h, refl))))
    (cases_lt c 32)) (cases_eq c 13)) (cases_eq c 12)) (cases_eq c 10)) (cases_eq c 9)) (cases_eq c 8)) (cases_eq c 92)) (cases_eq c 34)

pair : (h t : ℕ) → 55296 ≤ h → h < 56320 → 56320 ≤ t → t < 57344 → OnePiece (encode_utf8 (joined h t)) (h ∷ t ∷ [])
pair h t a b c d =
    let scalar : IsScalar (joined h t) = grind (arith, nat_tests) in
    let big : 32 ≤ joined h t = omega arith in
    let quote : joined h t ≢ 34 = omega arith in
    let slash : joined h t ≢ 92 = omega arith in
    (char (joined h t), refl, (scalar, big, quote, slash, (a, b, c, d, omega arith)))

abbrev held : Option ℕ → List ℕ
held None = []
held (Some h) = h ∷ []

abbrev IsWaiting : Option ℕ → Type 0
IsWaiting None = Unit {0}
IsWaiting (Some h) = (55296 ≤ h) × (h < 56320)

flushed : (p : Option ℕ) (t us : List ℕ) → IsWaiting p → Pieces t us → Pieces (flush p ++ t) (held p ++ us)
flushed None t us w r = r
flushed (Some h) t us w r = cons (unit_escape h) t (h ∷ []) us (escaped h (omega arith)) r

trailed : (p : Option ℕ) (u : ℕ) (t us : List ℕ) → IsWaiting p → 56320 ≤ u → u < 57344 → Pieces t us → Pieces (trail_text p u ++ t) (held p ++ u ∷ us)
trailed None u t us w a b r = cons (unit_escape u) t (u ∷ []) us (escaped u (omega arith)) r
trailed (Some h) u t us w a b r = cons (encode_utf8 (joined h u)) t (h ∷ u ∷ []) us (pair h u w.0 w.1 a b) r

units_pieces : (p : Option ℕ) (us : List ℕ) → IsWaiting p → AreCodeUnits us → Pieces (units_text p us) (held p ++ us)
units_pieces p [] w a = subst (λ (t : List ℕ). Pieces t (held p ++ [])) (append-nil (flush p)) (flushed p [] [] w no_pieces)
units_pieces p (u ∷ us) w a = by_tests (is_lead u) (is_trail u) refl refl (λ q v. units_pieces q us v a.1)
  where
    by_tests : (l t : Bool) → is_lead u ≡ l → is_trail u ≡ t → ((q : Option ℕ) → IsWaiting q → Pieces (units_text q us) (held q ++ us)) →
        Pieces (units_text p (u ∷ us)) (held p ++ u ∷ us)
    by_tests true t e f r =
        let low : 55296 ≤ u = grind (arith, nat_tests) in
        let high : u < 56320 = grind (arith, nat_tests) in
        rw e (flushed p (units_text (Some u) us) (u ∷ us) w (r (Some u) (low, high)))
    by_tests false true e f r =
        let low : 56320 ≤ u = grind (arith, nat_tests) in
        let high : u < 57344 = grind (arith, nat_tests) in
        rw (e, f) (trailed p u (units_text None us) us w low high (r None tt))
    by_tests false false e f r =
        rw (e, f, append_assoc (flush p) (char_text u) (units_text None us))
        (flushed p (char_text u ++ units_text None us) (u ∷ us) w (cons (char_text u) (units_text None us) (u ∷ []) us (plain u (neither u e f) a.0) (r None tt)))

pub string_reads : (us : List ℕ) → AreCodeUnits us → IsString (quoted_units us) us
string_reads us a = let r = units_pieces None us tt a in
    (r.0, ap (λ (t : List ℕ). 34 ∷ (t ++ 34 ∷ [])) (sym r.1), r.2)
