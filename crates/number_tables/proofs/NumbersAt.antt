-- Numbers at indices, with an index more.
use Rattle.std.specs.Prelude.{◌≡◌, ◌+◌, ◌<◌, ◌≤◌, ℕ, zero, suc, Bool, true, false, nat_eq, List, [], ◌∷◌, ◌++◌, length, take, get_or, Option, None, if◌then◌else◌}
use Rattle.std.specs.List.{AllByRecursion}
use Rattle.std.proofs.Common.{refl, sym, ap, ◌∙◌, arith, set, inl, inr}
use Rattle.std.proofs.lemmas.Bool.{eqb-true, eqb-false}
use Rattle.std.proofs.lemmas.Bool.Decides.{eqb_tells}
use Rattle.std.proofs.lemmas.Grind.{get_or-set_at}
use Rattle.std.proofs.lemmas.List.{get_or-set_other, length-take, take_more}
use Rattle.number_tables.specs.PlacedNumbers.{RiseFrom, number_at}

rise_above : (j k : ℕ) (ms : List ℕ) (i d : ℕ) → k < j → RiseFrom j ms → i < length ms → k < get_or ms i d
rise_above j k [] i d l r h = absurd (omega (arith, h))
rise_above j k (m ∷ ms) zero d l r h = let q : j ≤ m = r.0 in omega (arith, q, l)
rise_above j k (m ∷ ms) (suc i) d l r h = rise_above (suc m) k ms i d (let q : j ≤ m = r.0 in omega (arith, q, l)) r.1 (omega (arith, h))

pub rise_before : (j : ℕ) (ms : List ℕ) (i d : ℕ) → RiseFrom j ms → i < length ms → AllByRecursion (λ k. k < get_or ms i d) (take i ms)
rise_before j [] i d r h = absurd (omega (arith, h))
rise_before j (m ∷ ms) zero d r h = tt
rise_before j (m ∷ ms) (suc i) d r h = (rise_above (suc m) m ms i d (omega arith) r.1 (omega (arith, h)), rise_before (suc m) ms i d r.1 (omega (arith, h)))

pub below_at : (count : ℕ) (ms : List ℕ) (i d : ℕ) → AllByRecursion (λ n. n < count) ms → i < length ms → get_or ms i d < count
below_at count [] i d a h = absurd (omega (arith, h))
below_at count (m ∷ ms) zero d a h = a.0
below_at count (m ∷ ms) (suc i) d a h = below_at count ms i d a.1 (omega (arith, h))

pub number_append : (n : ℕ) (ms : List ℕ) (os : List (Option ℕ)) (m : ℕ) (o : Option ℕ) → length os ≡ length ms → AllByRecursion (λ k. k < m) ms
    → number_at n (ms ++ m ∷ []) (os ++ o ∷ []) ≡ (if nat_eq m n then o else number_at n ms os)
unfolding number_at
number_append n [] [] m o e a = refl
number_append n [] (p ∷ os) m o e a = absurd (omega (arith, e))
number_append n (k ∷ ms) [] m o e a = absurd (omega (arith, e))
number_append n (k ∷ ms) (p ∷ os) m o e a = go (nat_eq k n) refl (number_append n ms os m o (omega (arith, e)) a.1)
  where
    apart : k ≡ n → nat_eq m n ≡ false
    apart q = elim (eqb_tells m n) [ inl t ↦ absurd (let l : k < m = a.0 in let r : m ≡ n = t.1 in omega (arith, q, l, r)) | inr f ↦ f.0 ]

    go : (b : Bool) → nat_eq k n ≡ b → number_at n (ms ++ m ∷ []) (os ++ o ∷ []) ≡ (if nat_eq m n then o else number_at n ms os)
        → (if b then p else number_at n (ms ++ m ∷ []) (os ++ o ∷ [])) ≡ (if nat_eq m n then o else (if b then p else number_at n ms os))
    go true q more = sym (ap (λ (b : Bool). if b then o else p) (apart (eqb-true k n q)))
    go false q more = more

-- a number written at the next of the indices
pub number_more : (vs : List (Option ℕ)) (ms : List ℕ) (os : List (Option ℕ)) (i d : ℕ) (e : Option ℕ) → i < length ms → length os ≡ length ms → RiseFrom 0 ms → get_or ms i d < length vs
    → (n : ℕ) → get_or vs n None ≡ number_at n (take i ms) (take i os)
    → get_or (set vs (get_or ms i d) (get_or os i e)) n None ≡ number_at n (take (i + 1) ms) (take (i + 1) os)
number_more vs ms os i d e h same r l n there =
    go (nat_eq (get_or ms i d) n) refl
    ∙ ap (λ (o : Option ℕ). if nat_eq (get_or ms i d) n then get_or os i e else o) there
    ∙ sym (ap (λ ks. number_at n ks (take (i + 1) os)) (take_more ms i d h) ∙ ap (number_at n (take i ms ++ get_or ms i d ∷ [])) (take_more os i e (omega (arith, h, same)))
    ∙ number_append n (take i ms) (take i os) (get_or ms i d) (get_or os i e) (omega (arith, length-take i ms, length-take i os, h, same)) (rise_before 0 ms i d r h))
  where
    m : ℕ
    m = get_or ms i d

    go : (b : Bool) → nat_eq (get_or ms i d) n ≡ b → get_or (set vs (get_or ms i d) (get_or os i e)) n None ≡ (if b then get_or os i e else get_or vs n None)
    go true q = get_or-set_at vs (get_or ms i d) n (get_or os i e) None (sym (eqb-true (get_or ms i d) n q)) l
    go false q = get_or-set_other vs (get_or ms i d) n (get_or os i e) None (λ s. eqb-false (get_or ms i d) n q (sym s))
