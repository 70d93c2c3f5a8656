-- The first candidates that aren't taken: they are all different, and there are enough of them.
use Rattle.std.specs.List.{list_all, list_any}
use Rattle.std.specs.Prelude.{nat_eq, take, get_or, ◌≡◌, ◌⊎◌, ◌≤◌, ◌<◌, ℕ, zero, suc, ◌+◌, ◌*◌, ◌-◌, ◌/◌, ◌%◌, Bool, true, false, cond, ◌||◌, ◌&&◌, nat_lt, List, [], ◌∷◌, ◌++◌, length, map}
use Rattle.std.proofs.Common.{refl, sym, ap, ◌∙◌, subst, arith, inl, inr}
use Rattle.std.proofs.lemmas.Bool.{agree_below_at, or_cases, and_from, and_parts, both_ways}
use Rattle.std.proofs.lemmas.List.{length-append, length-map}
use Rattle.list_laws.proofs.AllOf.{AllOf, of_each}
use Rattle.list_laws.proofs.AnyOf.{any_some}
use Rattle.list_laws.proofs.Counting.{no_more}
use Rattle.list_laws.proofs.Members.{In, in_left, in_map, in_right}
use Rattle.list_laws.proofs.PairsOf.{PairsOf}
use Rattle.syntax_lex.specs.Keyword.{is_reserved_keyword, reserved_keywords}
use Rattle.tree_nodes.specs.Tree.{Text}
use Rattle.scope_rules.proofs.SameNames.{same_name_tells, among_in}
use Rattle.scope_rules.specs.Bindings.{same_name}
use Rattle.scope_rules.specs.Evals.{name_eval}
use Rattle.name_rules.proofs.ShortNumbers.{short_is_one_to_one}
use Rattle.name_rules.specs.FreeNames.{first_untaken, is_spelled, is_taken, is_unchanged}
use Rattle.name_rules.specs.GivenNames.{free_names}
use Rattle.name_rules.specs.Groups.{Member}
use Rattle.name_rules.specs.Kept.{is_reserved, name_arguments}
use Rattle.name_rules.specs.Open.{all_open}
use Rattle.name_rules.specs.Options.{Options}
use Rattle.name_rules.specs.ShortNames.{candidate, characters, digits_onto, more_characters, readable_name}

-- ---- no two numbers have one candidate

-- the number that decimal digits go on with
abbrev read_digits : ℕ → Text → ℕ
read_digits n [] = n
read_digits n (c ∷ cs) = read_digits (n * 10 + (c - 48)) cs

digits_read : (fuel n : ℕ) (after : Text) → n < fuel → read_digits 0 (digits_onto fuel n after) ≡ read_digits n after
unfolding all_open
digits_read zero n after h = absurd (omega (arith, h))
digits_read (suc fuel) n after h = go (nat_lt n 10) refl (λ a s. digits_read fuel (n / 10) a s)
  where
    ten : (m : ℕ) → nat_lt m 10 ≡ false → 10 ≤ m
    ten m e = grind (arith, e)

    go : (b : Bool) → nat_lt n 10 ≡ b → ((a : Text) → n / 10 < fuel → read_digits 0 (digits_onto fuel (n / 10) a) ≡ read_digits (n / 10) a) → read_digits 0 (elim b as (λ c. Text) [ true ↦ (48 + n) ∷ after | false ↦ digits_onto fuel (n / 10) ((48 + n % 10) ∷ after) ]) ≡ read_digits n after
    go true e ih = let q : 0 * 10 + (48 + n - 48) ≡ n = omega arith in ap (λ m. read_digits m after) q
    go false e ih =
        let t : 10 ≤ n = ten n e in
        let s : n / 10 < fuel = omega (arith, t, h) in
        let q : n / 10 * 10 + (48 + n % 10 - 48) ≡ n = omega arith in
        ih ((48 + n % 10) ∷ after) s ∙ ap (λ m. read_digits m after) q

past_five : Text → Text
past_five (a ∷ b ∷ c ∷ d ∷ e ∷ rest) = rest
past_five _ = []

readable_one : (m n : ℕ) → readable_name m ≡ readable_name n → m ≡ n
unfolding all_open past_five
readable_one m n e =
    sym (digits_read (suc m) m [] (omega arith)) ∙ ap (λ x. read_digits 0 (past_five x)) e ∙ digits_read (suc n) n [] (omega arith)

pub candidate_one : (readable : Bool) (m n : ℕ) → candidate readable m ≡ candidate readable n → m ≡ n
unfolding all_open
candidate_one true m n e = readable_one m n e
candidate_one false m n e = short_is_one_to_one m n e

-- ---- the first that aren't taken

-- two tests that answer first_untaken_same find the same
pub first_untaken_same : (name : ℕ → Text) (p q : Text → Bool) → ((x : Text) → p x ≡ q x) → (fuel n k : ℕ) → first_untaken name p fuel n k ≡ first_untaken name q fuel n k
unfolding all_open
first_untaken_same name p q h zero n k = refl
first_untaken_same name p q h (suc fuel) zero k = refl
first_untaken_same name p q h (suc fuel) (suc n) k = go (p (name k)) (q (name k)) (h (name k)) (first_untaken_same name p q h fuel (suc n) (suc k)) (first_untaken_same name p q h fuel n (suc k))
  where
    go : (a b : Bool) → a ≡ b → first_untaken name p fuel (suc n) (suc k) ≡ first_untaken name q fuel (suc n) (suc k) → first_untaken name p fuel n (suc k) ≡ first_untaken name q fuel n (suc k)
        → elim a as (λ c. List Text) [ true ↦ first_untaken name p fuel (suc n) (suc k) | false ↦ name k ∷ first_untaken name p fuel n (suc k) ]
        ≡ elim b as (λ c. List Text) [ true ↦ first_untaken name q fuel (suc n) (suc k) | false ↦ name k ∷ first_untaken name q fuel n (suc k) ]
    go true true e ih jh = ih
    go false false e ih jh = ap (λ (xs : List Text). name k ∷ xs) jh
    go true false e ih jh = absurd (both_ways true e refl)
    go false true e ih jh = absurd (both_ways false refl e)

module _ (name : ℕ → Text) (one : (m n : ℕ) → name m ≡ name n → m ≡ n) (taken : Text → Bool) where
  all_untaken : (fuel n k : ℕ) → AllOf (λ x. taken x ≡ false) (first_untaken name taken fuel n k)
  unfolding all_open
  all_untaken zero n k = tt
  all_untaken (suc fuel) zero k = tt
  all_untaken (suc fuel) (suc n) k = go (taken (name k)) refl (all_untaken fuel (suc n) (suc k)) (all_untaken fuel n (suc k))
    where
      go : (b : Bool) → taken (name k) ≡ b → AllOf (λ x. taken x ≡ false) (first_untaken name taken fuel (suc n) (suc k)) → AllOf (λ x. taken x ≡ false) (first_untaken name taken fuel n (suc k))
          → AllOf (λ x. taken x ≡ false) (elim b as (λ c. List Text) [ true ↦ first_untaken name taken fuel (suc n) (suc k) | false ↦ name k ∷ first_untaken name taken fuel n (suc k) ])
      go true e ih jh = ih
      go false e ih jh = (e, jh)

  -- a candidate from k on
  abbrev Later : ℕ → Text → Type 0
  Later k x = (j : ℕ) × (k ≤ j) × (x ≡ name j)

  later_more : (k : ℕ) (xs : List Text) → AllOf (Later (suc k)) xs → AllOf (Later k) xs
  later_more k [] a = tt
  later_more k (x ∷ xs) a = ((a.0.0, (let h : suc k ≤ a.0.0 = a.0.1 in omega (arith, h)), a.0.2), later_more k xs a.1)

  all_later : (fuel n k : ℕ) → AllOf (Later k) (first_untaken name taken fuel n k)
  unfolding all_open
  all_later zero n k = tt
  all_later (suc fuel) zero k = tt
  all_later (suc fuel) (suc n) k = go (taken (name k)) (later_more k (first_untaken name taken fuel (suc n) (suc k)) (all_later fuel (suc n) (suc k))) (later_more k (first_untaken name taken fuel n (suc k)) (all_later fuel n (suc k)))
    where
      go : (b : Bool) → AllOf (Later k) (first_untaken name taken fuel (suc n) (suc k)) → AllOf (Later k) (first_untaken name taken fuel n (suc k))
          → AllOf (Later k) (elim b as (λ c. List Text) [ true ↦ first_untaken name taken fuel (suc n) (suc k) | false ↦ name k ∷ first_untaken name taken fuel n (suc k) ])
      go true ih jh = ih
      go false ih jh = ((k, omega arith, refl), jh)

  untaken_different : (fuel n k : ℕ) → PairsOf (λ x y. x ≡ y → ⊥) (first_untaken name taken fuel n k)
  unfolding all_open
  untaken_different zero n k = tt
  untaken_different (suc fuel) zero k = tt
  untaken_different (suc fuel) (suc n) k = go (taken (name k)) (untaken_different fuel (suc n) (suc k)) (untaken_different fuel n (suc k))
    where
      other : (xs : List Text) → AllOf (Later (suc k)) xs → AllOf (λ y. name k ≡ y → ⊥) xs
      other [] a = tt
      other (x ∷ xs) a = ((λ e. let h : suc k ≤ a.0.0 = a.0.1 in let q : k ≡ a.0.0 = one k a.0.0 (e ∙ a.0.2) in omega (arith, h, q)), other xs a.1)

      go : (b : Bool) → PairsOf (λ x y. x ≡ y → ⊥) (first_untaken name taken fuel (suc n) (suc k)) → PairsOf (λ x y. x ≡ y → ⊥) (first_untaken name taken fuel n (suc k))
          → PairsOf (λ x y. x ≡ y → ⊥) (elim b as (λ c. List Text) [ true ↦ first_untaken name taken fuel (suc n) (suc k) | false ↦ name k ∷ first_untaken name taken fuel n (suc k) ])
      go true ih jh = ih
      go false ih jh = (other (first_untaken name taken fuel n (suc k)) (all_later fuel n (suc k)), jh)

  -- those that are passed over
  unfoldable pub passed : ℕ → ℕ → ℕ → List Text
  passed zero n k = []
  passed (suc fuel) zero k = []
  passed (suc fuel) (suc n) k = cond (taken (name k)) (name k ∷ passed fuel (suc n) (suc k)) (passed fuel n (suc k))

  pub passed_taken : (fuel n k : ℕ) → AllOf (λ x. taken x ≡ true) (passed fuel n k)
  unfolding passed
  passed_taken zero n k = tt
  passed_taken (suc fuel) zero k = tt
  passed_taken (suc fuel) (suc n) k = go (taken (name k)) refl (passed_taken fuel (suc n) (suc k)) (passed_taken fuel n (suc k))
    where
      go : (b : Bool) → taken (name k) ≡ b → AllOf (λ x. taken x ≡ true) (passed fuel (suc n) (suc k)) → AllOf (λ x. taken x ≡ true) (passed fuel n (suc k))
          → AllOf (λ x. taken x ≡ true) (cond b (name k ∷ passed fuel (suc n) (suc k)) (passed fuel n (suc k)))
      go true e ih jh = (e, ih)
      go false e ih jh = jh

  passed_later : (fuel n k : ℕ) → AllOf (Later k) (passed fuel n k)
  unfolding passed
  passed_later zero n k = tt
  passed_later (suc fuel) zero k = tt
  passed_later (suc fuel) (suc n) k = go (taken (name k)) (later_more k (passed fuel (suc n) (suc k)) (passed_later fuel (suc n) (suc k))) (later_more k (passed fuel n (suc k)) (passed_later fuel n (suc k)))
    where
      go : (b : Bool) → AllOf (Later k) (passed fuel (suc n) (suc k)) → AllOf (Later k) (passed fuel n (suc k)) → AllOf (Later k) (cond b (name k ∷ passed fuel (suc n) (suc k)) (passed fuel n (suc k)))
      go true ih jh = ((k, omega arith, refl), ih)
      go false ih jh = jh

  pub passed_different : (fuel n k : ℕ) → PairsOf (λ x y. x ≡ y → ⊥) (passed fuel n k)
  unfolding passed
  passed_different zero n k = tt
  passed_different (suc fuel) zero k = tt
  passed_different (suc fuel) (suc n) k = go (taken (name k)) (passed_different fuel (suc n) (suc k)) (passed_different fuel n (suc k))
    where
      other : (xs : List Text) → AllOf (Later (suc k)) xs → AllOf (λ y. name k ≡ y → ⊥) xs
      other [] a = tt
      other (x ∷ xs) a = ((λ e. let h : suc k ≤ a.0.0 = a.0.1 in let q : k ≡ a.0.0 = one k a.0.0 (e ∙ a.0.2) in omega (arith, h, q)), other xs a.1)

      go : (b : Bool) → PairsOf (λ x y. x ≡ y → ⊥) (passed fuel (suc n) (suc k)) → PairsOf (λ x y. x ≡ y → ⊥) (passed fuel n (suc k))
          → PairsOf (λ x y. x ≡ y → ⊥) (cond b (name k ∷ passed fuel (suc n) (suc k)) (passed fuel n (suc k)))
      go true ih jh = (other (passed fuel (suc n) (suc k)) (passed_later fuel (suc n) (suc k)), ih)
      go false ih jh = jh

  -- n are found, or all fuel is used
  untaken_or_no_fuel : (fuel n k : ℕ) → (length (first_untaken name taken fuel n k) ≡ n) ⊎ ((fuel ≤ length (passed fuel n k) + length (first_untaken name taken fuel n k)) × (length (first_untaken name taken fuel n k) < n))
  unfolding all_open passed
  untaken_or_no_fuel zero zero k = inl refl
  untaken_or_no_fuel zero (suc n) k = inr (omega arith, omega arith)
  untaken_or_no_fuel (suc fuel) zero k = inl refl
  untaken_or_no_fuel (suc fuel) (suc n) k = go (taken (name k)) (untaken_or_no_fuel fuel (suc n) (suc k)) (untaken_or_no_fuel fuel n (suc k))
    where
      go : (b : Bool)
          → (length (first_untaken name taken fuel (suc n) (suc k)) ≡ suc n) ⊎ ((fuel ≤ length (passed fuel (suc n) (suc k)) + length (first_untaken name taken fuel (suc n) (suc k))) × (length (first_untaken name taken fuel (suc n) (suc k)) < suc n))
          → (length (first_untaken name taken fuel n (suc k)) ≡ n) ⊎ ((fuel ≤ length (passed fuel n (suc k)) + length (first_untaken name taken fuel n (suc k))) × (length (first_untaken name taken fuel n (suc k)) < n))
          → (length (elim b as (λ c. List Text) [ true ↦ first_untaken name taken fuel (suc n) (suc k) | false ↦ name k ∷ first_untaken name taken fuel n (suc k) ]) ≡ suc n)
          ⊎ ((suc fuel ≤ length (cond b (name k ∷ passed fuel (suc n) (suc k)) (passed fuel n (suc k))) + length (elim b as (λ c. List Text) [ true ↦ first_untaken name taken fuel (suc n) (suc k) | false ↦ name k ∷ first_untaken name taken fuel n (suc k) ]))
          × (length (elim b as (λ c. List Text) [ true ↦ first_untaken name taken fuel (suc n) (suc k) | false ↦ name k ∷ first_untaken name taken fuel n (suc k) ]) < suc n))
      go true (inl e) jh = inl e
      go true (inr w) jh = let a : fuel ≤ length (passed fuel (suc n) (suc k)) + length (first_untaken name taken fuel (suc n) (suc k)) = w.0 in inr (omega (arith, a), w.1)
      go false ih (inl e) = inl (ap suc e)
      go false ih (inr w) =
          let a : fuel ≤ length (passed fuel n (suc k)) + length (first_untaken name taken fuel n (suc k)) = w.0 in
          let b : length (first_untaken name taken fuel n (suc k)) < n = w.1 in
          inr (omega (arith, a), omega (arith, b))

  pub enough_untaken : (listed : List Text) → ((x : Text) → taken x ≡ true → In x listed) → (fuel n k : ℕ) → n + length listed ≤ fuel → length (first_untaken name taken fuel n k) ≡ n
  enough_untaken listed f fuel n k h = go (untaken_or_no_fuel fuel n k)
    where
      few : length (passed fuel n k) ≤ length listed
      few = no_more same_name same_name_tells (passed fuel n k) listed (passed_different fuel n k) (λ x i. f x (of_each (λ y. taken y ≡ true) (passed fuel n k) x (passed_taken fuel n k) i))

      go : (length (first_untaken name taken fuel n k) ≡ n) ⊎ ((fuel ≤ length (passed fuel n k) + length (first_untaken name taken fuel n k)) × (length (first_untaken name taken fuel n k) < n)) → length (first_untaken name taken fuel n k) ≡ n
      go (inl e) = e
      go (inr w) = let a : fuel ≤ length (passed fuel n k) + length (first_untaken name taken fuel n k) = w.0 in let b : length (first_untaken name taken fuel n k) < n = w.1 in
          absurd (omega (arith, a, b, few, h))

-- ---- what is taken is listed

all_taken : Options → List Member → List Text
all_taken o ms = reserved_keywords ++ (name_eval ∷ name_arguments ∷ (o.reserved ++ map (λ m. m.place.name) ms))

taken_listed : (o : Options) (ms : List Member) (x : Text) → is_taken o ms x ≡ true → In x (all_taken o ms)
unfolding all_open all_taken
taken_listed o ms x h = first (or_cases _ _ h)
  where
    past : In x (name_eval ∷ name_arguments ∷ (o.reserved ++ map (λ (m : Member). m.place.name) ms)) → In x (reserved_keywords ++ (name_eval ∷ name_arguments ∷ (o.reserved ++ map (λ (m : Member). m.place.name) ms)))
    past i = in_right reserved_keywords (name_eval ∷ name_arguments ∷ (o.reserved ++ map (λ (m : Member). m.place.name) ms)) x i

    keyword : is_reserved_keyword x ≡ true → In x (reserved_keywords ++ (name_eval ∷ name_arguments ∷ (o.reserved ++ map (λ (m : Member). m.place.name) ms)))
    keyword k = let w : (y : Text) × In y reserved_keywords × (same_name y x ≡ true) = any_some (λ y. same_name y x) reserved_keywords k in
        in_left reserved_keywords (name_eval ∷ name_arguments ∷ (o.reserved ++ map (λ (m : Member). m.place.name) ms)) x (subst (λ (y : Text). In y reserved_keywords) ((same_name_tells w.0 x).0 w.2) w.1)

    reserved : (same_name x name_arguments ≡ true) ⊎ (list_any (same_name x) o.reserved ≡ true) → In x (reserved_keywords ++ (name_eval ∷ name_arguments ∷ (o.reserved ++ map (λ (m : Member). m.place.name) ms)))
    reserved (inl e) = past (inr (inl (sym ((same_name_tells x name_arguments).0 e))))
    reserved (inr e) = past (inr (inr (in_left o.reserved (map (λ (m : Member). m.place.name) ms) x (among_in o.reserved x e))))

    third : ((is_reserved_keyword x || same_name x name_eval) ≡ true) ⊎ (is_reserved o x ≡ true) → In x (reserved_keywords ++ (name_eval ∷ name_arguments ∷ (o.reserved ++ map (λ (m : Member). m.place.name) ms)))
    third (inl e) = second (or_cases _ _ e)
      where
        second : (is_reserved_keyword x ≡ true) ⊎ (same_name x name_eval ≡ true) → In x (reserved_keywords ++ (name_eval ∷ name_arguments ∷ (o.reserved ++ map (λ (m : Member). m.place.name) ms)))
        second (inl k) = keyword k
        second (inr k) = past (inl (sym ((same_name_tells x name_eval).0 k)))
    third (inr e) = reserved (or_cases _ _ e)

    first : ((is_reserved_keyword x || same_name x name_eval || is_reserved o x) ≡ true) ⊎ (list_any (λ m. is_unchanged m && same_name m.place.name x) ms ≡ true) → In x (reserved_keywords ++ (name_eval ∷ name_arguments ∷ (o.reserved ++ map (λ (m : Member). m.place.name) ms)))
    first (inl e) = third (or_cases _ _ e)
    first (inr e) =
        let w : (m : Member) × In m ms × ((is_unchanged m && same_name m.place.name x) ≡ true) = any_some (λ m. is_unchanged m && same_name m.place.name x) ms e in
        past (inr (inr (in_right o.reserved (map (λ (m : Member). m.place.name) ms) x
        (subst (λ (y : Text). In y (map (λ (m : Member). m.place.name) ms)) ((same_name_tells w.0.place.name x).0 (and_parts _ _ w.2).1) (in_map (λ (m : Member). m.place.name) ms w.0 w.1)))))

-- ---- the free names of a tree

pub free_names_length : (o : Options) (ms : List Member) (n : ℕ) → length (free_names o ms n) ≡ n
unfolding all_open all_taken
free_names_length o ms n = enough_untaken (candidate o.readable) (candidate_one o.readable) (is_taken o ms) (all_taken o ms) (taken_listed o ms) (n + 48 + length o.reserved + length ms) n 0
    (let a : length (o.reserved ++ map (λ (m : Member). m.place.name) ms) ≡ length o.reserved + length (map (λ (m : Member). m.place.name) ms) = length-append o.reserved (map (λ (m : Member). m.place.name) ms) in
    let b : length (map (λ (m : Member). m.place.name) ms) ≡ length ms = length-map ms (λ (m : Member). m.place.name) in
    omega (arith, a, b))

pub free_different : (o : Options) (ms : List Member) (n : ℕ) → PairsOf (λ x y. x ≡ y → ⊥) (free_names o ms n)
unfolding all_open
free_different o ms n = untaken_different (candidate o.readable) (candidate_one o.readable) (is_taken o ms) (n + 48 + length o.reserved + length ms) n 0

pub free_untaken : (o : Options) (ms : List Member) (n : ℕ) → AllOf (λ x. is_taken o ms x ≡ false) (free_names o ms n)
unfolding all_open
free_untaken o ms n = all_untaken (candidate o.readable) (candidate_one o.readable) (is_taken o ms) (n + 48 + length o.reserved + length ms) n 0

-- ---- how names are spelled

starts_name : ℕ → Bool
starts_name c = list_any (nat_eq c) (take 54 characters)

in_name : ℕ → Bool
in_name c = list_any (nat_eq c) characters

start_told : (k : ℕ) → k < 54 → starts_name (get_or characters k 0) ≡ true
unfolding starts_name
start_told k h = agree_below_at (λ n. list_any (nat_eq (get_or characters n 0)) (take 54 characters)) (λ n. true) 54 k refl h

part_told : (k : ℕ) → k < 64 → in_name (get_or characters k 0) ≡ true
unfolding in_name
part_told k h = agree_below_at (λ n. list_any (nat_eq (get_or characters n 0)) characters) (λ n. true) 64 k refl h

digit_told : (k : ℕ) → k < 10 → in_name (48 + k) ≡ true
unfolding in_name
digit_told k h = agree_below_at (λ n. list_any (nat_eq (48 + n)) characters) (λ n. true) 10 k refl h

parts_told : (fuel m : ℕ) → list_all (λ d. list_any (nat_eq d) characters) (more_characters fuel m) ≡ true
unfolding all_open in_name
parts_told zero m = refl
parts_told (suc fuel) zero = refl
parts_told (suc fuel) (suc m) = and_from _ _ (part_told (m % 64) (let h : m % 64 < 64 = omega arith in h)) (parts_told fuel (m / 64))

digits_told : (fuel n : ℕ) (after : Text) → list_all (λ d. list_any (nat_eq d) characters) after ≡ true → list_all (λ d. list_any (nat_eq d) characters) (digits_onto fuel n after) ≡ true
unfolding all_open in_name
digits_told zero n after h = h
digits_told (suc fuel) n after h = go (nat_lt n 10) refl (λ a w. digits_told fuel (n / 10) a w)
  where
    below : nat_lt n 10 ≡ true → n < 10
    below e = grind (arith, e)

    go : (b : Bool) → nat_lt n 10 ≡ b → ((a : Text) → list_all (λ d. list_any (nat_eq d) characters) a ≡ true → list_all (λ d. list_any (nat_eq d) characters) (digits_onto fuel (n / 10) a) ≡ true)
        → list_all (λ d. list_any (nat_eq d) characters) (elim b as (λ c. Text) [ true ↦ (48 + n) ∷ after | false ↦ digits_onto fuel (n / 10) ((48 + n % 10) ∷ after) ]) ≡ true
    go true e ih = and_from _ _ (digit_told n (below e)) h
    go false e ih = ih ((48 + n % 10) ∷ after) (and_from _ _ (digit_told (n % 10) (let q : n % 10 < 10 = omega arith in q)) h)

pub spelled_told : (readable : Bool) (n : ℕ) → is_spelled (candidate readable n) ≡ true
unfolding all_open starts_name
spelled_told true n = digits_told (suc n) n [] refl
spelled_told false n = and_from _ _ (start_told (n % 54) (let h : n % 54 < 54 = omega arith in h)) (parts_told n (n / 54))

pub free_spelled : (o : Options) (ms : List Member) (n : ℕ) → AllOf (λ x. is_spelled x ≡ true) (free_names o ms n)
unfolding all_open
free_spelled o ms n = go (free_names o ms n) (all_later (candidate o.readable) (candidate_one o.readable) (is_taken o ms) (n + 48 + length o.reserved + length ms) n 0)
  where
    go : (xs : List Text) → AllOf (Later (candidate o.readable) (candidate_one o.readable) (is_taken o ms) 0) xs → AllOf (λ x. is_spelled x ≡ true) xs
    go [] a = tt
    go (x ∷ xs) a = (subst (λ (y : Text). is_spelled y ≡ true) (sym a.0.2) (spelled_told o.readable a.0.0), go xs a.1)
