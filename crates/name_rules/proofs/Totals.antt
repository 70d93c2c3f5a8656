-- Weighted sums of lengths: where heavier items are no longer, and as many of the others are longer than any bound, the sum is no greater. No sorting, no swaps: one inequality for each item and each length.
use Rattle.std.specs.Prelude.{◌≡◌, ◌⊎◌, ◌≤◌, ◌<◌, ℕ, zero, suc, ◌+◌, ◌*◌, min, Bool, true, false, cond, nat_eq, nat_le, List, [], ◌∷◌, length, filter}
use Rattle.std.proofs.Common.{refl, sym, ap, ◌∙◌, subst, arith, inl, inr, mul-le-mul_left, mul-add}
use Rattle.std.proofs.Math.Nat.{suc-mul}
use Rattle.std.proofs.lemmas.Bool.{cases_lt, eq-eqb, ne_eqb}
use Rattle.std.proofs.lemmas.Bool.Decides.{leb_tells}
use Rattle.list_laws.proofs.AllOf.{AllOf}
use Rattle.list_laws.proofs.Members.{In}
use Rattle.list_laws.proofs.PairsOf.{PairsOf}

abbrev pub total : (ℕ → ℕ) → List ℕ → ℕ
total f [] = 0
total f (k ∷ ks) = f k + total f ks

pub total_same : (f g : ℕ → ℕ) (ks : List ℕ) → ((k : ℕ) → In k ks → f k ≡ g k) → total f ks ≡ total g ks
total_same f g [] h = refl
total_same f g (k ∷ ks) h = let a : f k ≡ g k = h k (inl refl) in let b : total f ks ≡ total g ks = total_same f g ks (λ j i. h j (inr i)) in omega (arith, a, b)

total_le : (f g : ℕ → ℕ) (ks : List ℕ) → ((k : ℕ) → In k ks → f k ≤ g k) → total f ks ≤ total g ks
total_le f g [] h = omega arith
total_le f g (k ∷ ks) h = let a : f k ≤ g k = h k (inl refl) in let b : total f ks ≤ total g ks = total_le f g ks (λ j i. h j (inr i)) in omega (arith, a, b)

total_add : (f g : ℕ → ℕ) (ks : List ℕ) → total (λ k. f k + g k) ks ≡ total f ks + total g ks
total_add f g [] = refl
total_add f g (k ∷ ks) = let h : total (λ j. f j + g j) ks ≡ total f ks + total g ks = total_add f g ks in omega (arith, h)

total_mul : (m : ℕ) (f : ℕ → ℕ) (ks : List ℕ) → total (λ k. m * f k) ks ≡ m * total f ks
total_mul m f [] = omega arith
total_mul m f (k ∷ ks) = let h : total (λ j. m * f j) ks ≡ m * total f ks = total_mul m f ks in let d : m * (f k + total f ks) ≡ m * f k + m * total f ks = mul-add m (f k) (total f ks) in omega (arith, h, d)

pub total_none : (f : ℕ → ℕ) (ks : List ℕ) → total (λ k. 0 * f k) ks ≡ 0
total_none f [] = refl
total_none f (k ∷ ks) = let h : total (λ j. 0 * f j) ks ≡ 0 = total_none f ks in omega (arith, h)

-- ---- one more for one item

total_without : (k₀ : ℕ) (c f : ℕ → ℕ) (ks : List ℕ) → AllOf (λ k. k₀ ≡ k → ⊥) ks → total (λ k. cond (nat_eq k₀ k) (suc (c k)) (c k) * f k) ks ≡ total (λ k. c k * f k) ks
total_without k₀ c f [] a = refl
total_without k₀ c f (k ∷ ks) a =
    let e : cond (nat_eq k₀ k) (suc (c k)) (c k) * f k ≡ c k * f k = ap (λ b. cond b (suc (c k)) (c k) * f k) (ne_eqb k₀ k a.0) in
    let h : total (λ j. cond (nat_eq k₀ j) (suc (c j)) (c j) * f j) ks ≡ total (λ j. c j * f j) ks = total_without k₀ c f ks a.1 in
    omega (arith, e, h)

pub one_more : (k₀ : ℕ) (c f : ℕ → ℕ) (ks : List ℕ) → PairsOf (λ x y. x ≡ y → ⊥) ks → In k₀ ks → total (λ k. cond (nat_eq k₀ k) (suc (c k)) (c k) * f k) ks ≡ f k₀ + total (λ k. c k * f k) ks
one_more k₀ c f [] p i = absurd i
one_more k₀ c f (k ∷ ks) p i = go i (one_more k₀ c f ks p.1)
  where
    go : (k ≡ k₀) ⊎ In k₀ ks → (In k₀ ks → total (λ j. cond (nat_eq k₀ j) (suc (c j)) (c j) * f j) ks ≡ f k₀ + total (λ j. c j * f j) ks)
        → cond (nat_eq k₀ k) (suc (c k)) (c k) * f k + total (λ j. cond (nat_eq k₀ j) (suc (c j)) (c j) * f j) ks ≡ f k₀ + (c k * f k + total (λ j. c j * f j) ks)
    go (inl e) ih =
        let a : cond (nat_eq k₀ k) (suc (c k)) (c k) * f k ≡ c k * f k + f k = ap (λ b. cond b (suc (c k)) (c k) * f k) (eq-eqb k₀ k (sym e)) ∙ suc-mul (c k) (f k) in
        let h : total (λ j. cond (nat_eq k₀ j) (suc (c j)) (c j) * f j) ks ≡ total (λ j. c j * f j) ks = total_without k₀ c f ks (subst (λ (x : ℕ). AllOf (λ j. x ≡ j → ⊥) ks) e p.0) in
        let q : f k ≡ f k₀ = ap f e in
        omega (arith, a, h, q)
    go (inr j) ih =
        let apart : k₀ ≡ k → ⊥ = λ e. later ks p.0 j (sym e) in
        let a : cond (nat_eq k₀ k) (suc (c k)) (c k) * f k ≡ c k * f k = ap (λ b. cond b (suc (c k)) (c k) * f k) (ne_eqb k₀ k apart) in
        let h : total (λ j. cond (nat_eq k₀ j) (suc (c j)) (c j) * f j) ks ≡ f k₀ + total (λ j. c j * f j) ks = ih j in
        omega (arith, a, h)
      where
        later : (js : List ℕ) → AllOf (λ y. k ≡ y → ⊥) js → In k₀ js → k ≡ k₀ → ⊥
        later [] b i' e = i'
        later (x ∷ xs) b i' e = at i' (later xs b.1)
          where
            at : (x ≡ k₀) ⊎ In k₀ xs → (In k₀ xs → k ≡ k₀ → ⊥) → ⊥
            at (inl s) g = b.0 (e ∙ sym s)
            at (inr l) g = g l e

-- ---- thresholds of length

abbrev one_if : Bool → ℕ
one_if b = cond b 1 0

-- 1 where x is longer than t
abbrev longer : ℕ → ℕ → ℕ
longer t x = one_if (nat_le (suc t) x)

longer_is : (t x : ℕ) → ((t < x) × (longer t x ≡ 1)) ⊎ ((x ≤ t) × (longer t x ≡ 0))
longer_is t x = elim (leb_tells (suc t) x) [ inl e ↦ inl (omega (arith, e.1), ap one_if e.0) | inr e ↦ inr (omega (arith, e.1), ap one_if e.0) ]

-- how many are longer
longer_counted : (t : ℕ) (x : ℕ → ℕ) (ks : List ℕ) → total (λ k. longer t (x k)) ks ≡ length (filter (λ k. nat_le (suc t) (x k)) ks)
longer_counted t x [] = refl
longer_counted t x (k ∷ ks) = go (nat_le (suc t) (x k)) (longer_counted t x ks)
  where
    go : (b : Bool) → total (λ j. longer t (x j)) ks ≡ length (filter (λ j. nat_le (suc t) (x j)) ks) → one_if b + total (λ j. longer t (x j)) ks ≡ length (cond b (k ∷ filter (λ j. nat_le (suc t) (x j)) ks) (filter (λ j. nat_le (suc t) (x j)) ks))
    go true h = omega (arith, h)
    go false h = omega (arith, h)

module _ (w u g : ℕ → ℕ) where
  abbrev Greatest : ℕ → List ℕ → Type 0
  Greatest t ks = ((k : ℕ) → In k ks → u k ≤ t) ⊎ ((l : ℕ) × In l ks × (t < u l) × ((k : ℕ) → In k ks → t < u k → w k ≤ w l))

  -- the greatest weight of an item that is longer than t, if there is one
  heaviest_longer : (t : ℕ) (ks : List ℕ) → Greatest t ks
  heaviest_longer t [] = inl (λ k i. absurd i)
  heaviest_longer t (x ∷ xs) = go (cases_lt t (u x)) (heaviest_longer t xs)
    where
      longer_one : t < u x → Greatest t xs → Greatest t (x ∷ xs)
      longer_one long (inl all) = inr (x, inl refl, long, λ k i l. at k i l)
        where
          at : (k : ℕ) → (x ≡ k) ⊎ In k xs → t < u k → w k ≤ w x
          at k (inl e) l = let q : w x ≡ w k = ap w e in omega (arith, q)
          at k (inr j) l = let a : u k ≤ t = all k j in absurd (omega (arith, a, l))
      longer_one long (inr m) = heavier (cases_lt (w x) (w m.0))
        where
          stays : w x < w m.0 → (k : ℕ) → (x ≡ k) ⊎ In k xs → t < u k → w k ≤ w m.0
          stays h k (inl e) l = let q : w x ≡ w k = ap w e in omega (arith, q, h)
          stays h k (inr j) l = m.3 k j l

          moves : w m.0 ≤ w x → (k : ℕ) → (x ≡ k) ⊎ In k xs → t < u k → w k ≤ w x
          moves h k (inl e) l = let q : w x ≡ w k = ap w e in omega (arith, q)
          moves h k (inr j) l = let a : w k ≤ w m.0 = m.3 k j l in omega (arith, a, h)

          heavier : (w x < w m.0) ⊎ (w m.0 ≤ w x) → Greatest t (x ∷ xs)
          heavier (inl h) = inr (m.0, inr m.1, m.2, stays h)
          heavier (inr h) = inr (x, inl refl, long, moves h)

      shorter_one : u x ≤ t → Greatest t xs → Greatest t (x ∷ xs)
      shorter_one short (inl all) = inl (λ k i. at k i)
        where
          at : (k : ℕ) → (x ≡ k) ⊎ In k xs → u k ≤ t
          at k (inl e) = subst (λ (j : ℕ). u j ≤ t) e short
          at k (inr j) = all k j
      shorter_one short (inr m) = inr (m.0, inr m.1, m.2, λ k i l. at k i l)
        where
          at : (k : ℕ) → (x ≡ k) ⊎ In k xs → t < u k → w k ≤ w m.0
          at k (inl e) l = let q : u x ≡ u k = ap u e in absurd (omega (arith, q, l, short))
          at k (inr j) l = m.3 k j l

      go : (t < u x) ⊎ (u x ≤ t) → Greatest t xs → Greatest t (x ∷ xs)
      go (inl long) m = longer_one long m
      go (inr short) m = shorter_one short m

  capped_split : (x : ℕ → ℕ) (t : ℕ) (ks : List ℕ) → total (λ k. w k * min (x k) (suc t)) ks ≡ total (λ k. w k * min (x k) t) ks + total (λ k. w k * longer t (x k)) ks
  capped_split x t [] = refl
  capped_split x t (k ∷ ks) =
      let e : min (x k) (suc t) ≡ min (x k) t + longer t (x k) = elim (longer_is t (x k)) [ inl a ↦ omega (arith, a.0, a.1) | inr a ↦ omega (arith, a.0, a.1) ] in
      let d : w k * min (x k) (suc t) ≡ w k * min (x k) t + w k * longer t (x k) = ap (λ z. w k * z) e ∙ mul-add (w k) (min (x k) t) (longer t (x k)) in
      let h : total (λ j. w j * min (x j) (suc t)) ks ≡ total (λ j. w j * min (x j) t) ks + total (λ j. w j * longer t (x j)) ks = capped_split x t ks in
      omega (arith, h, d)

  capped_whole : (x : ℕ → ℕ) (m : ℕ) (ks : List ℕ) → ((k : ℕ) → In k ks → x k ≤ m) → total (λ k. w k * min (x k) m) ks ≡ total (λ k. w k * x k) ks
  capped_whole x m ks h = total_same (λ k. w k * min (x k) m) (λ k. w k * x k) ks (λ k i. ap (λ z. w k * z) (let a : x k ≤ m = h k i in let e : min (x k) m ≡ x k = omega (arith, a) in e))

  module _ (ks : List ℕ)
      (by_weight : (k l : ℕ) → In k ks → In l ks → u k < u l → w l ≤ w k)
      (no_shorter : (t l : ℕ) → In l ks → t < u l → length (filter (λ k. nat_le (suc t) (u k)) ks) ≤ length (filter (λ k. nat_le (suc t) (g k)) ks)) where
    pointwise : (t l k : ℕ) → In l ks → t < u l → ((i : ℕ) → In i ks → t < u i → w i ≤ w l) → In k ks → w k * longer t (u k) + w l * longer t (g k) ≤ w k * longer t (g k) + w l * longer t (u k)
    pointwise t l k l' long great k' =
        elim (longer_is t (u k)) [
          | inl a ↦ elim (longer_is t (g k)) [
            | inl b ↦ rw (a.1, b.1) (omega arith)
            | inr b ↦ let h : w k ≤ w l = great k k' a.0 in rw (a.1, b.1) (omega (arith, h))
          ]
          | inr a ↦ elim (longer_is t (g k)) [
            | inl b ↦ let h : w l ≤ w k = by_weight k l k' l' (let c : u k ≤ t = a.0 in omega (arith, c, long)) in rw (a.1, b.1) (omega (arith, h))
            | inr b ↦ rw (a.1, b.1) (omega arith)
          ]
        ]

    fewer_are_longer : (t l : ℕ) → In l ks → t < u l → total (λ k. longer t (u k)) ks ≤ total (λ k. longer t (g k)) ks
    fewer_are_longer t l i h = let a : total (λ k. longer t (u k)) ks ≡ length (filter (λ k. nat_le (suc t) (u k)) ks) = longer_counted t u ks in
        let b : total (λ k. longer t (g k)) ks ≡ length (filter (λ k. nat_le (suc t) (g k)) ks) = longer_counted t g ks in
        let c : length (filter (λ k. nat_le (suc t) (u k)) ks) ≤ length (filter (λ k. nat_le (suc t) (g k)) ks) = no_shorter t l i h in
        omega (arith, a, b, c)

    one_length : (t : ℕ) → total (λ k. w k * longer t (u k)) ks ≤ total (λ k. w k * longer t (g k)) ks
    one_length t = go (heaviest_longer t ks)
      where
        go : Greatest t ks → total (λ k. w k * longer t (u k)) ks ≤ total (λ k. w k * longer t (g k)) ks
        go (inl all) = total_le (λ k. w k * longer t (u k)) (λ k. w k * longer t (g k)) ks (λ k i. elim (longer_is t (u k)) [ inl a ↦ let h : u k ≤ t = all k i in let l : t < u k = a.0 in let no : ⊥ = omega (arith, l, h) in absurd no | inr a ↦ rw a.1 (omega arith) ])
        go (inr m) =
            let p : total (λ k. w k * longer t (u k) + w m.0 * longer t (g k)) ks ≤ total (λ k. w k * longer t (g k) + w m.0 * longer t (u k)) ks =
            total_le (λ k. w k * longer t (u k) + w m.0 * longer t (g k)) (λ k. w k * longer t (g k) + w m.0 * longer t (u k)) ks (λ k i. pointwise t m.0 k m.1 m.2 m.3 i) in
            let a : total (λ k. w k * longer t (u k) + w m.0 * longer t (g k)) ks ≡ total (λ k. w k * longer t (u k)) ks + total (λ k. w m.0 * longer t (g k)) ks = total_add (λ k. w k * longer t (u k)) (λ k. w m.0 * longer t (g k)) ks in
            let b : total (λ k. w k * longer t (g k) + w m.0 * longer t (u k)) ks ≡ total (λ k. w k * longer t (g k)) ks + total (λ k. w m.0 * longer t (u k)) ks = total_add (λ k. w k * longer t (g k)) (λ k. w m.0 * longer t (u k)) ks in
            let c : total (λ k. w m.0 * longer t (g k)) ks ≡ w m.0 * total (λ k. longer t (g k)) ks = total_mul (w m.0) (λ k. longer t (g k)) ks in
            let d : total (λ k. w m.0 * longer t (u k)) ks ≡ w m.0 * total (λ k. longer t (u k)) ks = total_mul (w m.0) (λ k. longer t (u k)) ks in
            let f : w m.0 * total (λ k. longer t (u k)) ks ≤ w m.0 * total (λ k. longer t (g k)) ks = mul-le-mul_left (w m.0) (fewer_are_longer t m.0 m.1 m.2) in
            omega (arith, p, a, b, c, d, f)

    -- lengths count only up to t
    capped : (t : ℕ) → total (λ k. w k * min (u k) t) ks ≤ total (λ k. w k * min (g k) t) ks
    capped zero = total_le (λ k. w k * min (u k) 0) (λ k. w k * min (g k) 0) ks (λ k i. let a : min (u k) 0 ≡ 0 = omega arith in let b : min (g k) 0 ≡ 0 = omega arith in rw (a, b) (omega arith))
    capped (suc t) =
        let a : total (λ k. w k * min (u k) t) ks ≤ total (λ k. w k * min (g k) t) ks = capped t in
        let b : total (λ k. w k * longer t (u k)) ks ≤ total (λ k. w k * longer t (g k)) ks = one_length t in
        let c : total (λ k. w k * min (u k) (suc t)) ks ≡ total (λ k. w k * min (u k) t) ks + total (λ k. w k * longer t (u k)) ks = capped_split u t ks in
        let d : total (λ k. w k * min (g k) (suc t)) ks ≡ total (λ k. w k * min (g k) t) ks + total (λ k. w k * longer t (g k)) ks = capped_split g t ks in
        omega (arith, a, b, c, d)

    cheapest : (m : ℕ) → ((k : ℕ) → In k ks → u k ≤ m) → ((k : ℕ) → In k ks → g k ≤ m) → total (λ k. w k * u k) ks ≤ total (λ k. w k * g k) ks
    cheapest m hu hg =
        let a : total (λ k. w k * min (u k) m) ks ≤ total (λ k. w k * min (g k) m) ks = capped m in
        let b : total (λ k. w k * min (u k) m) ks ≡ total (λ k. w k * u k) ks = capped_whole u m ks hu in
        let c : total (λ k. w k * min (g k) m) ks ≡ total (λ k. w k * g k) ks = capped_whole g m ks hg in
        omega (arith, a, b, c)

    -- all lengths are at most their sum
    at_most_total : (x : ℕ → ℕ) (js : List ℕ) (k : ℕ) → In k js → x k ≤ total x js
    at_most_total x [] k i = absurd i
    at_most_total x (j ∷ js) k i = go i (at_most_total x js k)
      where
        go : (j ≡ k) ⊎ In k js → (In k js → x k ≤ total x js) → x k ≤ x j + total x js
        go (inl e) ih = let q : x j ≡ x k = ap x e in omega (arith, q)
        go (inr l) ih = let h : x k ≤ total x js = ih l in omega (arith, h)

    pub no_dearer : total (λ k. w k * u k) ks ≤ total (λ k. w k * g k) ks
    no_dearer = cheapest (total u ks + total g ks)
        (λ k i. let h : u k ≤ total u ks = at_most_total u ks k i in omega (arith, h))
        (λ k i. let h : g k ≤ total g ks = at_most_total g ks k i in omega (arith, h))
