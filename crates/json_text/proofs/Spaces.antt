-- What comes after white space is told by the text.
use Rattle.std.proofs.Common.{◌≡◌, ℕ, ◌<◌, List, [], ◌∷◌, ◌++◌, Bool, true, false, subst, sym, ap, ◌∙◌, append_assoc, arith}
use Rattle.json_text.specs.Grammar.{IsSpaceByte, IsSpace, IsBefore, IsColon}

abbrev pub NotSpace : List ℕ → Type 0
NotSpace [] = Unit {0}
NotSpace (c ∷ cs) = IsSpaceByte c → ⊥

pub skip : (w v s t : List ℕ) → IsSpace w → IsSpace v → w ++ s ≡ v ++ t → NotSpace s → NotSpace t → s ≡ t
skip [] [] s t p q e m n = e
skip [] (d ∷ v) s t p q e m n = let h : NotSpace (d ∷ (v ++ t)) = subst NotSpace e m in absurd (h q.0)
skip (c ∷ w) [] s t p q e m n = let h : NotSpace (c ∷ (w ++ s)) = subst NotSpace (sym e) n in absurd (h p.0)
skip (c ∷ w) (d ∷ v) s t p q e m n = let f : w ++ s ≡ v ++ t = cc in skip w v s t p.1 q.1 f m n

pub not_space : (c : ℕ) (cs : List ℕ) → 32 < c → NotSpace (c ∷ cs)
not_space c cs h = λ s. grind arith

-- the same with one byte between white space
pub skip_mark : (k : ℕ) (w v s t : List ℕ) → 32 < k →
    ((a : List ℕ) × (b : List ℕ) × (w ≡ a ++ k ∷ b) × IsSpace a × IsSpace b) →
    ((a : List ℕ) × (b : List ℕ) × (v ≡ a ++ k ∷ b) × IsSpace a × IsSpace b) →
    w ++ s ≡ v ++ t → NotSpace s → NotSpace t → s ≡ t
skip_mark k w v s t big (a, b, p, pa, pb) (c, d, q, qc, qd) e m n =
    let f : a ++ (k ∷ (b ++ s)) ≡ c ++ (k ∷ (d ++ t)) =
    sym (append_assoc a (k ∷ b) s) ∙ ap (λ (u : List ℕ). u ++ s) (sym p) ∙ e ∙ ap (λ (u : List ℕ). u ++ t) q ∙ append_assoc c (k ∷ d) t in
    let g = skip a c (k ∷ (b ++ s)) (k ∷ (d ++ t)) pa qc f (not_space k (b ++ s) big) (not_space k (d ++ t) big) in
    let h : b ++ s ≡ d ++ t = cc in
    skip b d s t pb qd h m n

pub skip_before : (f : Bool) (w v s t : List ℕ) → IsBefore f w → IsBefore f v → w ++ s ≡ v ++ t → NotSpace s → NotSpace t → s ≡ t
skip_before true w v s t p q e m n = skip w v s t p q e m n
skip_before false w v s t p q e m n = skip_mark 44 w v s t (omega arith) p q e m n

pub skip_colon : (w v s t : List ℕ) → IsColon w → IsColon v → w ++ s ≡ v ++ t → NotSpace s → NotSpace t → s ≡ t
skip_colon w v s t p q e m n = skip_mark 58 w v s t (omega arith) p q e m n
