-- A number is told by its text, where no byte of a number follows.
use Rattle.std.proofs.Common.{◌≡◌, ℕ, ◌+◌, ◌<◌, ◌≤◌, ◌≢◌, ℤ, pos, negsuc, List, [], ◌∷◌, ◌++◌, length, subst, sym, ap, ◌∙◌, refl, arith, ◌⊎◌, ⊎_elim, inl, inr, codes}
use Rattle.json_text.specs.Grammar.{IsDigit, AreDigits, IsInt, number_of, IsWhole, IsFraction, IsSign, IsExponent, IsBroken, IsOtherNumber}

abbrev pub IsNumberByte : ℕ → Type 0
IsNumberByte c = ((43 ≤ c) × (c < 58) × (c ≢ 44)) ⊎ ((c ≡ 101) ⊎ (c ≡ 69))

abbrev pub AreNumberBytes : List ℕ → Type 0
AreNumberBytes [] = Unit {0}
AreNumberBytes (c ∷ cs) = IsNumberByte c × AreNumberBytes cs

abbrev pub Ends : List ℕ → Type 0
Ends [] = Unit {0}
Ends (c ∷ cs) = IsNumberByte c → ⊥

pub run : (a b x y : List ℕ) → AreNumberBytes a → AreNumberBytes b → a ++ x ≡ b ++ y → Ends x → Ends y → (a ≡ b) × (x ≡ y)
run [] [] x y p q e m n = (refl, e)
run [] (d ∷ b) x y p q e m n = let h : Ends (d ∷ (b ++ y)) = subst Ends e m in absurd (h q.0)
run (c ∷ a) [] x y p q e m n = let h : Ends (c ∷ (a ++ x)) = subst Ends (sym e) n in absurd (h p.0)
run (c ∷ a) (d ∷ b) x y p q e m n =
    let f : a ++ x ≡ b ++ y = cc in
    let g : c ≡ d = cc in
    let r = run a b x y p.1 q.1 f m n in
    let r0 = r.0 in
    let k : (c ∷ a) ≡ (d ∷ b) = cc in
    (k, r.1)

digit_byte : (c : ℕ) → IsDigit c → IsNumberByte c
digit_byte c p = let ne : c ≢ 44 = omega arith in inl (omega arith, p.1, ne)

pub digits_bytes : (t : List ℕ) → AreDigits t → AreNumberBytes t
digits_bytes [] p = tt
digits_bytes (c ∷ cs) p = (digit_byte c p.0, digits_bytes cs p.1)

pub int_digits : (t : List ℕ) → IsInt t → AreDigits t
int_digits [] p = absurd p
int_digits (c ∷ []) p = (p, tt)
int_digits (c ∷ d ∷ cs) p = ((omega arith, p.1), p.2)

pub bytes_append : (a b : List ℕ) → AreNumberBytes a → AreNumberBytes b → AreNumberBytes (a ++ b)
bytes_append [] b p q = q
bytes_append (c ∷ a) b p q = (p.0, bytes_append a b p.1 q)

minus_byte : IsNumberByte 45
minus_byte = let ne : ◌≢◌ {A = ℕ} 45 44 = omega arith in inl (omega arith, omega arith, ne)

pub whole_bytes : (t : List ℕ) (n : ℤ) → IsWhole t n → AreNumberBytes t
whole_bytes t (pos n) p = digits_bytes t (int_digits t p.0)
whole_bytes [] (negsuc n) p = absurd p
whole_bytes (c ∷ cs) (negsuc n) p = (subst IsNumberByte (sym p.0) minus_byte, digits_bytes cs (int_digits cs p.1))

fraction_bytes : (t : List ℕ) → IsFraction t → AreNumberBytes t
fraction_bytes [] p = tt
fraction_bytes (c ∷ cs) p = let ne : c ≢ 44 = omega arith in (inl (omega arith, omega arith, ne), digits_bytes cs p.2)

sign_bytes : (t : List ℕ) → IsSign t → AreNumberBytes t
sign_bytes [] p = tt
sign_bytes (c ∷ []) p = (grind arith, tt)
sign_bytes (c ∷ d ∷ cs) p = absurd p

exponent_bytes : (t : List ℕ) → IsExponent t → AreNumberBytes t
exponent_bytes [] p = tt
exponent_bytes (c ∷ cs) (e, (s, ds, same, sign, some, all)) =
    (inr e, subst AreNumberBytes (sym same) (bytes_append s ds (sign_bytes s sign) (digits_bytes ds all)))

broken_bytes : (t : List ℕ) → IsBroken t → AreNumberBytes t
broken_bytes t (i, f, e, same, int, fraction, exponent, some) =
    subst AreNumberBytes (sym same) (bytes_append i (f ++ e) (digits_bytes i (int_digits i int))
    (bytes_append f e (fraction_bytes f fraction) (exponent_bytes e exponent)))

pub other_bytes : (t : List ℕ) → IsOtherNumber t → AreNumberBytes t
other_bytes t p = ⊎_elim
    (λ (e : t ≡ codes "-0"). subst AreNumberBytes (sym e) (minus_byte, (digit_byte 48 (omega arith, omega arith), tt)))
    (⊎_elim (broken_bytes t) (λ (u : (u : List ℕ) × (t ≡ 45 ∷ u) × IsBroken u). subst AreNumberBytes (sym u.1) (minus_byte, broken_bytes u.0 u.2))) p

-- a broken number begins with a digit
pub broken_starts : (t : List ℕ) → IsBroken t → (c : ℕ) × (cs : List ℕ) × (t ≡ c ∷ cs) × IsDigit c
broken_starts t ([], f, e, same, int, fraction, exponent, some) = absurd int
broken_starts t (c ∷ cs, f, e, same, int, fraction, exponent, some) = (c, cs ++ (f ++ e), same, (int_digits (c ∷ cs) int).0)

-- two whole numbers of one text
pub same_whole : (t : List ℕ) (m n : ℤ) → IsWhole t m → IsWhole t n → m ≡ n
same_whole t (pos m) (pos n) p q = ap pos (p.1 ∙ sym q.1)
same_whole [] (pos m) (negsuc n) p q = absurd q
same_whole (c ∷ cs) (pos m) (negsuc n) p q = let d = int_digits (c ∷ cs) p.0 in absurd (omega arith)
same_whole [] (negsuc m) n p q = absurd p
same_whole (c ∷ cs) (negsuc m) (pos n) p q = let d = int_digits (c ∷ cs) q.0 in absurd (omega arith)
same_whole (c ∷ cs) (negsuc m) (negsuc n) p q = let e : m ≡ n = omega arith in ap negsuc e

digits_right : (a b : List ℕ) → AreDigits (a ++ b) → AreDigits b
digits_right [] b p = p
digits_right (c ∷ a) b p = digits_right a b p.1

rest_not_digits : (f e : List ℕ) → IsFraction f → IsExponent e → 0 < length f + length e → AreDigits (f ++ e) → ⊥
rest_not_digits [] [] p q some d = absurd (omega arith)
rest_not_digits [] (c ∷ e) p (l, more) some d = ⊎_elim (λ (h : c ≡ 101). absurd (omega (arith, d.0))) (λ (h : c ≡ 69). absurd (omega (arith, d.0))) l
rest_not_digits (c ∷ f) e p q some d = absurd (omega (arith, d.0, p.0))

broken_not_digits : (t : List ℕ) → IsBroken t → AreDigits t → ⊥
broken_not_digits t (i, f, e, same, int, fraction, exponent, some) d =
    rest_not_digits f e fraction exponent some (digits_right i (f ++ e) (subst AreDigits same d))

no_minus : (t u : List ℕ) → t ≡ 45 ∷ u → AreDigits t → ⊥
no_minus t u e d = let h : AreDigits (45 ∷ u) = subst AreDigits e d in absurd (omega (arith, h.0))

pub not_both : (t : List ℕ) (n : ℤ) → IsWhole t n → IsOtherNumber t → ⊥
not_both t (pos n) p q =
    let d = int_digits t p.0 in
    ⊎_elim (λ (e : t ≡ codes "-0"). no_minus t _ e d) (⊎_elim (λ (b : IsBroken t). broken_not_digits t b d)
    (λ (u : (u : List ℕ) × (t ≡ 45 ∷ u) × IsBroken u). no_minus t u.0 u.1 d)) q
not_both [] (negsuc n) p q = absurd p
not_both (c ∷ cs) (negsuc n) p q =
    let d = int_digits cs p.1 in
    ⊎_elim
    (λ (e : (c ∷ cs) ≡ codes "-0"). let f : cs ≡ 48 ∷ [] = cc in let z : number_of 0 cs ≡ 0 = ap (number_of 0) f in absurd (omega (arith, p.2, z)))
    (⊎_elim (λ (b : IsBroken (c ∷ cs)). let s = broken_starts (c ∷ cs) b in let e = s.2 in let f : c ≡ s.0 = cc in absurd (omega (arith, s.3, f, p.0)))
    (λ (u : (u : List ℕ) × ((c ∷ cs) ≡ 45 ∷ u) × IsBroken u). let e = u.1 in let f : cs ≡ u.0 = cc in broken_not_digits u.0 u.2 (subst AreDigits f d))) q
