-- The numbers whose names are refused: they are no more than the names that are.
use Rattle.std.specs.Prelude.{◌≡◌, ◌⊎◌, ◌≤◌, ◌<◌, ℕ, zero, suc, ◌+◌, ◌-◌, Bool, true, false, nat_lt, ◌||◌, List, [], ◌∷◌, ◌++◌, length}
use Rattle.std.proofs.Common.{refl, sym, ap, subst, arith, inl, inr}
use Rattle.std.proofs.lemmas.Bool.{or_cases}
use Rattle.std.proofs.lemmas.List.{length-append}
use Rattle.list_laws.proofs.AllOf.{AllOf}
use Rattle.list_laws.proofs.AnyOf.{any_some}
use Rattle.list_laws.proofs.Counting.{no_more}
use Rattle.list_laws.proofs.Members.{In, in_left, in_right}
use Rattle.list_laws.proofs.PairsOf.{PairsOf}
use Rattle.syntax_lex.specs.Keyword.{is_reserved_keyword, reserved_keywords}
use Rattle.tree_nodes.specs.Tree.{Text}
use Rattle.scope_rules.proofs.SameNames.{same_name_tells, among_in}
use Rattle.scope_rules.specs.Bindings.{same_name}
use Rattle.scope_rules.specs.Evals.{name_eval}
use Rattle.scope_rules.specs.PrivateNames.{is_among}
use Rattle.name_rules.proofs.ShortNumbers.{short_is_one_to_one}
use Rattle.name_rules.specs.Kept.{name_arguments}
use Rattle.name_rules.specs.Open.{all_open}
use Rattle.name_rules.specs.ShortNames.{short}
use Rattle.free_names.specs.Guard.{is_never_given, is_refused}

-- ---- names with numbers that follow one another

names_from : (count k : ℕ) → List Text
names_from zero k = []
names_from (suc count) k = short k ∷ names_from count (suc k)

as_many : (count k : ℕ) → length (names_from count k) ≡ count
unfolding names_from
as_many zero k = refl
as_many (suc count) k = ap suc (as_many count (suc k))

short_differs_from_later : (count k j : ℕ) → j < k → AllOf (λ y. short j ≡ y → ⊥) (names_from count k)
unfolding names_from
short_differs_from_later zero k j h = tt
short_differs_from_later (suc count) k j h = ((λ e. let q : j ≡ k = short_is_one_to_one j k e in omega (arith, h, q)), short_differs_from_later count (suc k) j (omega (arith, h)))

all_different : (count k : ℕ) → PairsOf (λ x y. x ≡ y → ⊥) (names_from count k)
unfolding names_from
all_different zero k = tt
all_different (suc count) k = (short_differs_from_later count (suc k) k (omega arith), all_different count (suc k))

each_passes : (test : Text → Bool) (count k : ℕ) → ((j : ℕ) → k ≤ j → j < k + count → test (short j) ≡ true) → (x : Text) → In x (names_from count k) → test x ≡ true
unfolding names_from
each_passes test zero k h x i = absurd i
each_passes test (suc count) k h x i = go i (each_passes test count (suc k) (λ j a b. h j (omega (arith, a)) (omega (arith, b))) x)
  where
    go : (short k ≡ x) ⊎ In x (names_from count (suc k)) → (In x (names_from count (suc k)) → test x ≡ true) → test x ≡ true
    go (inl e) ih = subst (λ (y : Text). test y ≡ true) e (h k (omega arith) (omega arith))
    go (inr j) ih = ih j

-- ---- the names that are refused

module _ (inserted : List Text) where
  pub is_listed : (x : Text) → is_refused inserted x ≡ true → In x (reserved_keywords ++ (name_eval ∷ name_arguments ∷ inserted))
  unfolding all_open is_refused is_never_given
  is_listed x h = last (or_cases _ _ h)
    where
      past : In x (name_eval ∷ name_arguments ∷ inserted) → In x (reserved_keywords ++ (name_eval ∷ name_arguments ∷ inserted))
      past i = in_right reserved_keywords (name_eval ∷ name_arguments ∷ inserted) x i

      first : (is_reserved_keyword x ≡ true) ⊎ (same_name x name_eval ≡ true) → In x (reserved_keywords ++ (name_eval ∷ name_arguments ∷ inserted))
      first (inl k) =
          let w : (y : Text) × In y reserved_keywords × (same_name y x ≡ true) = any_some (λ y. same_name y x) reserved_keywords k in
          in_left reserved_keywords (name_eval ∷ name_arguments ∷ inserted) x (subst (λ (y : Text). In y reserved_keywords) ((same_name_tells w.0 x).0 w.2) w.1)
      first (inr k) = past (inl (sym ((same_name_tells x name_eval).0 k)))

      next : ((is_reserved_keyword x || same_name x name_eval) ≡ true) ⊎ (same_name x name_arguments ≡ true) → In x (reserved_keywords ++ (name_eval ∷ name_arguments ∷ inserted))
      next (inl e) = first (or_cases _ _ e)
      next (inr e) = past (inr (inl (sym ((same_name_tells x name_arguments).0 e))))

      last : ((is_reserved_keyword x || same_name x name_eval || same_name x name_arguments) ≡ true) ⊎ (is_among inserted x ≡ true) → In x (reserved_keywords ++ (name_eval ∷ name_arguments ∷ inserted))
      last (inl e) = next (or_cases _ _ e)
      last (inr e) = past (inr (inr (among_in inserted x e)))

  pub how_many : length reserved_keywords ≡ 46
  unfolding all_open
  how_many = refl

  refused_are_few : (n count : ℕ) → ((j : ℕ) → n ≤ j → j < n + count → is_refused inserted (short j) ≡ true) → count ≤ 48 + length inserted
  refused_are_few n count h =
      let a : length (names_from count n) ≤ length (reserved_keywords ++ (name_eval ∷ name_arguments ∷ inserted)) =
      no_more same_name same_name_tells (names_from count n) (reserved_keywords ++ (name_eval ∷ name_arguments ∷ inserted)) (all_different count n) (λ x i. is_listed x (each_passes (is_refused inserted) count n h x i)) in
      let b : length (reserved_keywords ++ (name_eval ∷ name_arguments ∷ inserted)) ≡ length reserved_keywords + length (name_eval ∷ name_arguments ∷ inserted) = length-append reserved_keywords (name_eval ∷ name_arguments ∷ inserted) in
      let d : length (name_eval ∷ name_arguments ∷ inserted) ≡ suc (suc (length inserted)) = refl in
      let c : length (names_from count n) ≡ count = as_many count n in
      omega (arith, a, b, c, d, how_many)

  -- all numbers from n on that are below this one have names that are refused
  abbrev pub AreRefused : ℕ → ℕ → Type 0
  AreRefused n number = (k : ℕ) → n ≤ k → k < number → is_refused inserted (short k) ≡ true

  one_more : (n number : ℕ) → AreRefused n number → is_refused inserted (short number) ≡ true → AreRefused n (suc number)
  one_more n number h r k a b = go (nat_lt k number) refl
    where
      below : nat_lt k number ≡ true → k < number
      below e = grind (arith, e)

      past : nat_lt k number ≡ false → number ≤ k
      past e = grind (arith, e)

      go : (t : Bool) → nat_lt k number ≡ t → is_refused inserted (short k) ≡ true
      go true e = h k a (below e)
      go false e = let f : number ≤ k = past e in let q : number ≡ k = omega (arith, b, f) in subst (λ (j : ℕ). is_refused inserted (short j) ≡ true) q r

  pub not_far : (n number : ℕ) → n ≤ number → AreRefused n number → is_refused inserted (short number) ≡ true → number < n + 48 + length inserted
  not_far n number a h r =
      let c : suc number - n ≤ 48 + length inserted = refused_are_few n (suc number - n) (λ j p q. one_more n number h r j p (omega (arith, a, q))) in
      omega (arith, a, c)
