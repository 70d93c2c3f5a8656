-- What a text's characters are when it is read from the back.
use Rattle.std.proofs.Common.{◌≡◌, ℕ, ◌+◌, ◌/◌, ◌<◌, ◌≤◌, Bool, true, false, cond, nat_lt, ◌⊎◌, inl, inr, List, [], ◌∷◌, ◌++◌, length, get_or, take, drop, reverse, Option, Some, None, refl, sym, ap, ◌∙◌, subst, arith}
use Rattle.std.proofs.lemmas.List.{append-nil, take_at, drop_at, length-append, reverse-append, nil_from_length, get_or-append-add}
use Rattle.std.proofs.lemmas.Option.{slice_get_past}
use Rattle.std.proofs.lemmas.Str.{chars-encodes, chars-append, cons_from_encodes, chars-nil, length-le-encodes, IsUtf8-take, IsUtf8-drop}
use Rattle.std.specs.Prelude.{slice_get}
use Rattle.std.specs.Iterator.{Yields, SkipsThenYields}
use Rattle.std.specs.Str.{chars, IsUtf8, IsCharBoundary}
use Rattle.std.specs.Str.Iter.{chars_rest, chars_steps_back}
use Rattle.std.specs.declared.str.Chars.{Chars}
use Rattle.oxc_data_structures.proofs.ListLemmas.{slice_get-append_seam}
use borrow.Author.Tests.{ltb-true}
use lib.Utf8.{encode, next}

lead_of : (x y z : Bool) (c a b d : ℕ) (s t u : List ℕ) → (x ≡ true → c < 128)
    → (get_or (cond x (c ∷ []) (cond y ((192 + a) ∷ s) (cond z ((224 + b) ∷ t) ((240 + d) ∷ u)))) 0 0 < 128)
    ⊎ (192 ≤ get_or (cond x (c ∷ []) (cond y ((192 + a) ∷ s) (cond z ((224 + b) ∷ t) ((240 + d) ∷ u)))) 0 0)
lead_of true y z c a b d s t u h = inl (h refl)
lead_of false true z c a b d s t u h = inr (omega arith)
lead_of false false true c a b d s t u h = inr (omega arith)
lead_of false false false c a b d s t u h = inr (omega arith)

-- a character's first byte is ASCII or begins a longer code
pub encode_lead : (c : ℕ) → (get_or (encode c) 0 0 < 128) ⊎ (192 ≤ get_or (encode c) 0 0)
unfolding encode
encode_lead c =
    lead_of (nat_lt c 128) (nat_lt c 2048) (nat_lt c 65536) c (c / 64) (c / 4096) (c / 262144) (next c ∷ [])
    (next (c / 64) ∷ next c ∷ []) (next (c / 4096) ∷ next (c / 64) ∷ next c ∷ []) (λ e. ltb-true c 128 e)

-- a text may be cut before its last character
pub IsCharBoundary-before_last : (bs front : List ℕ) (c : ℕ) → bs ≡ front ++ encode c → IsCharBoundary bs (length front)
IsCharBoundary-before_last bs front c e =
    rw e (
      omega (arith, length-append front (encode c)),
      λ _ high. rw at (elim (encode_lead c) [ inl low ↦ absurd (omega (arith, at)) | inr lead ↦ lead ]),
    )
  where
    at : get_or (front ++ encode c) (length front) 0 ≡ get_or (encode c) 0 0
    at = ap (λ k. get_or (front ++ encode c) k 0) (omega arith) ∙ get_or-append-add front (encode c) 0 0

-- the code of one character is that character's text
pub chars-encode : (c : ℕ) → IsUtf8 (encode c) → chars (encode c) ≡ c ∷ []
chars-encode c (cs, (valid, e)) =
    let p = cons_from_encodes cs [] c (e ∙ sym (append-nil (encode c))) in
    let none : p.0 ≡ [] = nil_from_length p.0 (omega (arith, length-le-encodes p.0, ap length p.2)) in
    ap chars (sym e) ∙ chars-encodes cs valid ∙ p.1 ∙ ap (λ es. c ∷ es) none

-- a text without its last character
pub before_last : (bs front : List ℕ) (c : ℕ) → IsUtf8 bs → bs ≡ front ++ encode c
    → IsUtf8 front × (chars bs ≡ chars front ++ c ∷ [])
before_last bs front c u e =
    let cut : IsCharBoundary bs (length front) = IsCharBoundary-before_last bs front c e in
    let front_is : take (length front) bs ≡ front = rw e (take_at front (encode c) (length front) refl) in
    let last_is : drop (length front) bs ≡ encode c = rw e (drop_at front (encode c) (length front) refl) in
    let front_utf8 : IsUtf8 front = rw front_is at (IsUtf8-take bs (length front) u cut) in
    let last_utf8 : IsUtf8 (encode c) = rw last_is at (IsUtf8-drop bs (length front) u cut) in
    (front_utf8, ap chars e ∙ chars-append front (encode c) front_utf8 ∙ ap (λ es. chars front ++ es) (chars-encode c last_utf8))

-- characters that were read from the back stand in reverse behind the rest
pub chars-Yields_back : (xs : List ℕ) (s t : Chars) → IsUtf8 (chars_rest s) → Yields chars_steps_back s xs t
    → IsUtf8 (chars_rest t) × (reverse (chars (chars_rest s)) ≡ xs ++ reverse (chars (chars_rest t)))
chars-Yields_back [] s t u y = (subst (λ (v : Chars). IsUtf8 (chars_rest v)) y u, ap (λ (v : Chars). reverse (chars (chars_rest v))) y)
chars-Yields_back (x ∷ xs) s t u (j, step, more) =
    let b = before_last (chars_rest s) (chars_rest j) x u step in
    let h = chars-Yields_back xs j t b.0 more in
    (h.0, ap reverse b.1 ∙ reverse-append (chars (chars_rest j)) (x ∷ []) ∙ ap (λ es. x ∷ es) h.1)

-- the character that is read after n are passed over from the back
pub nth_char_back : (n : ℕ) (r : Option ℕ) (s t : Chars) → IsUtf8 (chars_rest s) → SkipsThenYields chars_steps_back s n r t
    → r ≡ slice_get (reverse (chars (chars_rest s))) n
nth_char_back n None s t u (xs, (m, y, step), few) =
    let h = chars-Yields_back xs s m u y in
    let none : chars_rest m ≡ [] = nil_from_length (chars_rest m) step.0 in
    let all : reverse (chars (chars_rest s)) ≡ xs = h.1 ∙ rw (none, chars-nil) (append-nil xs) in
    rw all (sym (slice_get_past xs n few))
nth_char_back n (Some c) s t u (xs, (m, y, step), len) =
    let h = chars-Yields_back xs s m u y in
    let b = before_last (chars_rest m) (chars_rest t) c h.0 step in
    rw (h.1, b.1, reverse-append (chars (chars_rest t)) (c ∷ []), ← len)
    (sym (slice_get-append_seam xs (reverse (chars (chars_rest t))) c))
