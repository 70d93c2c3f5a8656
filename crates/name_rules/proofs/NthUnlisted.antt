-- The n-th number whose short name isn't listed.
use Rattle.std.specs.Prelude.{◌≡◌, ◌⊎◌, ◌≤◌, ◌<◌, ℕ, zero, suc, ◌+◌, ◌-◌, Bool, true, false, cond, List, [], ◌∷◌, length, map}
use Rattle.std.proofs.Common.{refl, sym, ap, ◌∙◌, subst, arith, inl, inr}
use Rattle.std.proofs.lemmas.Bool.{cases_lt}
use Rattle.std.proofs.lemmas.List.{length-map}
use Rattle.list_laws.proofs.AllOf.{AllOf, of_each}
use Rattle.list_laws.proofs.Counting.{no_more}
use Rattle.list_laws.proofs.Members.{In, from_map}
use Rattle.list_laws.proofs.PairsOf.{PairsOf}
use Rattle.tree_nodes.specs.Tree.{Text}
use Rattle.scope_rules.proofs.SameNames.{same_name_tells, among_in}
use Rattle.scope_rules.specs.Bindings.{same_name}
use Rattle.scope_rules.specs.PrivateNames.{is_among}
use Rattle.name_rules.proofs.ShortNumbers.{short_is_one_to_one}
use Rattle.name_rules.specs.Open.{all_open}
use Rattle.name_rules.specs.PrivateNumbers.{nth_unlisted}
use Rattle.name_rules.specs.ShortNames.{short}

module _ (listed : List Text) where
  -- the numbers that are passed over
  passed_over : ℕ → ℕ → ℕ → List ℕ
  passed_over zero n k = []
  passed_over (suc fuel) n k = cond (is_among listed (short k)) (k ∷ passed_over fuel n (suc k)) (elim n [ zero ↦ [] | suc m ↦ passed_over fuel m (suc k) ])

  passed_over_from : (fuel n k : ℕ) → AllOf (λ j. k ≤ j) (passed_over fuel n k)
  unfolding passed_over
  passed_over_from zero n k = tt
  passed_over_from (suc fuel) n k = go (is_among listed (short k)) n (λ m. passed_over_from fuel m (suc k))
    where
      later : (js : List ℕ) → AllOf (λ j. suc k ≤ j) js → AllOf (λ j. k ≤ j) js
      later [] a = tt
      later (j ∷ js) a = (let h : suc k ≤ j = a.0 in omega (arith, h), later js a.1)

      go : (b : Bool) (n : ℕ) → ((m : ℕ) → AllOf (λ j. suc k ≤ j) (passed_over fuel m (suc k))) → AllOf (λ j. k ≤ j) (cond b (k ∷ passed_over fuel n (suc k)) (elim n as (λ x. List ℕ) [ zero ↦ [] | suc m ↦ passed_over fuel m (suc k) ]))
      go true n ih = (omega arith, later (passed_over fuel n (suc k)) (ih n))
      go false zero ih = tt
      go false (suc m) ih = later (passed_over fuel m (suc k)) (ih m)

  passed_over_apart : (fuel n k : ℕ) → PairsOf (λ i j. i ≡ j → ⊥) (passed_over fuel n k)
  unfolding passed_over
  passed_over_apart zero n k = tt
  passed_over_apart (suc fuel) n k = go (is_among listed (short k)) n (λ m. passed_over_apart fuel m (suc k))
    where
      other : (js : List ℕ) → AllOf (λ j. suc k ≤ j) js → AllOf (λ j. k ≡ j → ⊥) js
      other [] a = tt
      other (j ∷ js) a = ((λ e. let h : suc k ≤ j = a.0 in omega (arith, h, e)), other js a.1)

      go : (b : Bool) (n : ℕ) → ((m : ℕ) → PairsOf (λ i j. i ≡ j → ⊥) (passed_over fuel m (suc k)))
          → PairsOf (λ i j. i ≡ j → ⊥) (cond b (k ∷ passed_over fuel n (suc k)) (elim n as (λ x. List ℕ) [ zero ↦ [] | suc m ↦ passed_over fuel m (suc k) ]))
      go true n ih = (other (passed_over fuel n (suc k)) (passed_over_from fuel n (suc k)), ih n)
      go false zero ih = tt
      go false (suc m) ih = ih m

  passed_over_listed : (fuel n k : ℕ) → AllOf (λ j. is_among listed (short j) ≡ true) (passed_over fuel n k)
  unfolding passed_over
  passed_over_listed zero n k = tt
  passed_over_listed (suc fuel) n k = go (is_among listed (short k)) refl n (λ m. passed_over_listed fuel m (suc k))
    where
      go : (b : Bool) → is_among listed (short k) ≡ b → (n : ℕ) → ((m : ℕ) → AllOf (λ j. is_among listed (short j) ≡ true) (passed_over fuel m (suc k)))
          → AllOf (λ j. is_among listed (short j) ≡ true) (cond b (k ∷ passed_over fuel n (suc k)) (elim n as (λ x. List ℕ) [ zero ↦ [] | suc m ↦ passed_over fuel m (suc k) ]))
      go true h n ih = (h, ih n)
      go false h zero ih = tt
      go false h (suc m) ih = ih m

  -- they are no more than what is listed
  names_apart : (js : List ℕ) → PairsOf (λ i j. i ≡ j → ⊥) js → PairsOf (λ x y. x ≡ y → ⊥) (map short js)
  names_apart [] p = tt
  names_apart (j ∷ js) p = (each js p.0, names_apart js p.1)
    where
      each : (is : List ℕ) → AllOf (λ i. j ≡ i → ⊥) is → AllOf (λ y. short j ≡ y → ⊥) (map short is)
      each [] a = tt
      each (i ∷ is) a = ((λ e. a.0 (short_is_one_to_one j i e)), each is a.1)

  passed_over_few : (fuel n k : ℕ) → length (passed_over fuel n k) ≤ length listed
  passed_over_few fuel n k = subst (λ (m : ℕ). m ≤ length listed) (length-map (passed_over fuel n k) short)
      (no_more same_name same_name_tells (map short (passed_over fuel n k)) listed (names_apart (passed_over fuel n k) (passed_over_apart fuel n k))
      (λ x i. let w : (j : ℕ) × In j (passed_over fuel n k) × (short j ≡ x) = from_map short (passed_over fuel n k) x i in
      subst (λ (y : Text). In y listed) w.2 (among_in listed (short w.0) (of_each (λ j. is_among listed (short j) ≡ true) (passed_over fuel n k) w.0 (passed_over_listed fuel n k) w.1))))

  -- how many of the d numbers from k on aren't listed
  unfoldable pub unlisted_in : ℕ → ℕ → ℕ
  unlisted_in k zero = 0
  unlisted_in k (suc d) = cond (is_among listed (short k)) 0 1 + unlisted_in (suc k) d

  -- r isn't listed, and from k on to it n numbers aren't
  record Passed (n k r : ℕ) : Type 0 where
    far : ℕ
    at : r ≡ k + far
    passed : unlisted_in k far ≡ n
    unlisted : is_among listed (short r) ≡ false

  passed_or_no_fuel : (fuel n k : ℕ) → Passed n k (nth_unlisted listed fuel n k) ⊎ (fuel ≤ length (passed_over fuel n k) + n)
  unfolding all_open passed_over unlisted_in
  passed_or_no_fuel zero n k = inr (omega arith)
  passed_or_no_fuel (suc fuel) n k = go (is_among listed (short k)) refl n (λ m. passed_or_no_fuel fuel m (suc k))
    where
      further : (b : Bool) → is_among listed (short k) ≡ b → (m r : ℕ) → Passed m (suc k) r → Passed (cond b m (suc m)) k r
      further true h m r p = record {
        far = suc p.far;
        at = (let e : r ≡ suc k + p.far = p.at in omega (arith, e));
        passed = ap (λ c. cond c 0 1 + unlisted_in (suc k) p.far) h ∙ (let e : unlisted_in (suc k) p.far ≡ m = p.passed in omega (arith, e));
        unlisted = p.unlisted;
      }
      further false h m r p = record {
        far = suc p.far;
        at = (let e : r ≡ suc k + p.far = p.at in omega (arith, e));
        passed = ap (λ c. cond c 0 1 + unlisted_in (suc k) p.far) h ∙ (let e : unlisted_in (suc k) p.far ≡ m = p.passed in omega (arith, e));
        unlisted = p.unlisted;
      }

      go : (b : Bool) → is_among listed (short k) ≡ b → (n : ℕ) → ((m : ℕ) → Passed m (suc k) (nth_unlisted listed fuel m (suc k)) ⊎ (fuel ≤ length (passed_over fuel m (suc k)) + m))
          → Passed n k (cond b (nth_unlisted listed fuel n (suc k)) (elim n as (λ x. ℕ) [ zero ↦ k | suc m ↦ nth_unlisted listed fuel m (suc k) ]))
          ⊎ (suc fuel ≤ length (cond b (k ∷ passed_over fuel n (suc k)) (elim n as (λ x. List ℕ) [ zero ↦ [] | suc m ↦ passed_over fuel m (suc k) ])) + n)
      go true h n ih = at (ih n)
        where
          at : Passed n (suc k) (nth_unlisted listed fuel n (suc k)) ⊎ (fuel ≤ length (passed_over fuel n (suc k)) + n) → Passed n k (nth_unlisted listed fuel n (suc k)) ⊎ (suc fuel ≤ suc (length (passed_over fuel n (suc k))) + n)
          at (inl p) = inl (further true h n (nth_unlisted listed fuel n (suc k)) p)
          at (inr q) = inr (omega (arith, q))
      go false h zero ih = inl (record { far = 0; at = omega arith; passed = refl; unlisted = h })
      go false h (suc m) ih = at (ih m)
        where
          at : Passed m (suc k) (nth_unlisted listed fuel m (suc k)) ⊎ (fuel ≤ length (passed_over fuel m (suc k)) + m) → Passed (suc m) k (nth_unlisted listed fuel m (suc k)) ⊎ (suc fuel ≤ length (passed_over fuel m (suc k)) + suc m)
          at (inl p) = inl (further false h m (nth_unlisted listed fuel m (suc k)) p)
          at (inr q) = inr (omega (arith, q))

  -- the number at a position
  abbrev pub nth : ℕ → ℕ
  nth n = nth_unlisted listed (suc (n + length listed)) n 0

  passed_at : (n : ℕ) → Passed n 0 (nth n)
  passed_at n = go (passed_or_no_fuel (suc (n + length listed)) n 0)
    where
      go : Passed n 0 (nth n) ⊎ (suc (n + length listed) ≤ length (passed_over (suc (n + length listed)) n 0) + n) → Passed n 0 (nth n)
      go (inl p) = p
      go (inr h) = let few : length (passed_over (suc (n + length listed)) n 0) ≤ length listed = passed_over_few (suc (n + length listed)) n 0 in absurd (omega (arith, h, few))

  pub nth_is_one_to_one : (m n : ℕ) → nth m ≡ nth n → m ≡ n
  nth_is_one_to_one m n e =
      let p : Passed m 0 (nth m) = passed_at m in
      let q : Passed n 0 (nth n) = passed_at n in
      let a : nth m ≡ 0 + p.far = p.at in
      let b : nth n ≡ 0 + q.far = q.at in
      let f : p.far ≡ q.far = omega (arith, a, b, e) in
      sym p.passed ∙ ap (unlisted_in 0) f ∙ q.passed

  pub nth_is_unlisted : (n : ℕ) → is_among listed (short (nth n)) ≡ false
  nth_is_unlisted n = (passed_at n).unlisted

  -- ---- for callers: at which position a number stands

  -- one more
  pub unlisted_more : (k d : ℕ) → unlisted_in k (suc d) ≡ unlisted_in k d + cond (is_among listed (short (k + d))) 0 1
  unfolding unlisted_in
  unlisted_more k zero = zero_more (cond (is_among listed (short k)) 0 1) ∙ ap (λ (j : ℕ). 0 + cond (is_among listed (short j)) 0 1) (no_further k)
    where
      zero_more : (m : ℕ) → m + 0 ≡ 0 + m
      zero_more m = omega arith

      no_further : (m : ℕ) → m ≡ m + 0
      no_further m = omega arith
  unlisted_more k (suc d) =
      ap (λ (m : ℕ). cond (is_among listed (short k)) 0 1 + m) (unlisted_more (suc k) d ∙ ap (λ (j : ℕ). unlisted_in (suc k) d + cond (is_among listed (short j)) 0 1) (further k d))
      ∙ regrouped (cond (is_among listed (short k)) 0 1) (unlisted_in (suc k) d) (cond (is_among listed (short (k + suc d))) 0 1)
    where
      further : (m n : ℕ) → suc m + n ≡ m + suc n
      further m n = omega arith

      regrouped : (m n o : ℕ) → m + (n + o) ≡ (m + n) + o
      regrouped m n o = omega arith

  -- numbers further on have no fewer before them
  never_fewer : (d e : ℕ) → unlisted_in 0 d ≤ unlisted_in 0 (d + e)
  never_fewer d zero = subst (λ (m : ℕ). unlisted_in 0 d ≤ unlisted_in 0 m) (same d) (omega arith)
    where
      same : (m : ℕ) → m ≡ m + 0
      same m = omega arith
  never_fewer d (suc e) = subst (λ (m : ℕ). unlisted_in 0 d ≤ unlisted_in 0 m) (next d e)
      (let ih : unlisted_in 0 d ≤ unlisted_in 0 (d + e) = never_fewer d e in let s = unlisted_more 0 (d + e) in omega (arith, ih, s))
    where
      next : (m n : ℕ) → suc (m + n) ≡ m + suc n
      next m n = omega arith

  more_before : (a b : ℕ) → is_among listed (short a) ≡ false → a < b → unlisted_in 0 a < unlisted_in 0 b
  more_before a b f h =
      let gap : ℕ = b - suc a in
      let e : suc a + gap ≡ b = omega arith in
      let one : unlisted_in 0 (suc a) ≡ unlisted_in 0 a + 1 = unlisted_more 0 a ∙ ap (λ (j : ℕ). unlisted_in 0 a + cond (is_among listed (short j)) 0 1) (same a) ∙ ap (λ (t : Bool). unlisted_in 0 a + cond t 0 1) f in
      let far : unlisted_in 0 (suc a) ≤ unlisted_in 0 (suc a + gap) = never_fewer (suc a) gap in
      subst (λ (m : ℕ). unlisted_in 0 a < unlisted_in 0 m) e (omega (arith, one, far))
    where
      same : (m : ℕ) → 0 + m ≡ m
      same m = omega arith

  -- a number that isn't listed stands where as many before it leave it
  pub nth_is_at : (r : ℕ) → is_among listed (short r) ≡ false → nth (unlisted_in 0 r) ≡ r
  nth_is_at r f = go (cases_lt p.far r) (cases_lt r p.far)
    where
      p : Passed (unlisted_in 0 r) 0 (nth (unlisted_in 0 r))
      p = passed_at (unlisted_in 0 r)

      at : nth (unlisted_in 0 r) ≡ p.far
      at = p.at ∙ same p.far
        where
          same : (m : ℕ) → 0 + m ≡ m
          same m = omega arith

      go : (p.far < r) ⊎ (r ≤ p.far) → (r < p.far) ⊎ (p.far ≤ r) → nth (unlisted_in 0 r) ≡ r
      go (inl h) u =
          let less : unlisted_in 0 p.far < unlisted_in 0 r = more_before p.far r (subst (λ (m : ℕ). is_among listed (short m) ≡ false) at p.unlisted) h in
          let same : unlisted_in 0 p.far ≡ unlisted_in 0 r = p.passed in
          absurd (omega (arith, less, same))
      go (inr g) (inl h) =
          let less : unlisted_in 0 r < unlisted_in 0 p.far = more_before r p.far f h in
          let same : unlisted_in 0 p.far ≡ unlisted_in 0 r = p.passed in
          absurd (omega (arith, less, same))
      go (inr g) (inr h) = let e : nth (unlisted_in 0 r) ≡ p.far = at in omega (arith, e, g, h)
