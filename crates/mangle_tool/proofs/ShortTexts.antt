-- The names that are given have few characters.
use Rattle.std.specs.Prelude.{◌≡◌, ◌⊎◌, ◌<◌, ◌≤◌, ℕ, zero, suc, ◌+◌, ◌/◌, ◌%◌, ◌^◌, Bool, true, false, nat_lt, List, [], ◌∷◌, ◌++◌, codes, length, map, string_bytes}
use Rattle.std.specs.List.{AllByRecursion, Contains}
use Rattle.std.proofs.Common.{refl, ap, subst, sym, arith, inl, inr, Global, String}
use Rattle.std.proofs.lemmas.List.{length-append}
use Rattle.list_laws.proofs.Members.{In, contains_from_in, from_append, from_map}
use Rattle.name_rules.proofs.Bounds.{bound_is_small, names_are_bounded}
use Rattle.name_rules.proofs.CountFrom.{from_count}
use Rattle.name_rules.specs.Bounds.{candidate_limit}
use Rattle.name_rules.specs.GivenNames.{count_from, names_of_slots}
use Rattle.name_rules.specs.Options.{Options}
use Rattle.name_rules.specs.ShortNames.{candidate, digits_onto, more_characters, readable_name, short}
use Rattle.tree_nodes.specs.NodeCount.{node_count, nodes_in}
use Rattle.tree_nodes.specs.Tree.{Text, Tree, alone}

more_long : (fuel m : ℕ) → length (more_characters fuel m) ≤ fuel
unfolding more_characters
more_long zero m = omega arith
more_long (suc fuel) zero = omega arith
more_long (suc fuel) (suc m) = omega (arith, more_long fuel (m / 64))

-- the n-th name has at most n + 1 characters
short_long : (n : ℕ) → length (short n) ≤ suc n
unfolding short
short_long n = omega (arith, more_long n (n / 54))

-- no more digits than fuel
digits_long : (fuel n : ℕ) (after : Text) → length (digits_onto fuel n after) ≤ fuel + length after
unfolding digits_onto
digits_long zero n after = omega arith
digits_long (suc fuel) n after = go (nat_lt n 10) (digits_long fuel (n / 10) ((48 + n % 10) ∷ after))
  where
    go : (b : Bool) → length (digits_onto fuel (n / 10) ((48 + n % 10) ∷ after)) ≤ fuel + suc (length after)
        → length (elim b as (λ c. Text) [ true ↦ (48 + n) ∷ after | false ↦ digits_onto fuel (n / 10) ((48 + n % 10) ∷ after) ]) ≤ suc fuel + length after
    go true h = omega arith
    go false h = omega (arith, h)

readable_long : (n : ℕ) → length (readable_name n) ≤ n + 6
unfolding readable_name
readable_long n =
    let digits : length (digits_onto (suc n) n []) ≤ suc n + 0 = digits_long (suc n) n [] in
    let whole : length (codes "slot_" ++ digits_onto (suc n) n []) ≡ 5 + length (digits_onto (suc n) n []) = length-append (codes "slot_") (digits_onto (suc n) n []) in
    omega (arith, digits, whole)

candidate_long : (readable : Bool) (n : ℕ) → length (candidate readable n) ≤ n + 6
unfolding candidate
candidate_long true n = readable_long n
candidate_long false n = omega (arith, short_long n)

each_short : (given : List (String Global)) → ((x : Text) → In x (map string_bytes given) → length x < 2 ^ 32) → AllByRecursion (λ s. length (string_bytes s) < 2 ^ 32) given
each_short [] f = tt
each_short (s ∷ ss) f = (f (string_bytes s) (inl refl), each_short ss (λ x i. f x (inr i)))

module _ (o : Options) (t : Tree) (few : node_count t + length o.reserved < 2 ^ 30) (limit : ℕ) (low : limit ≤ 2 ^ 31) where
  slot_name_short : (x : Text) → In x (names_of_slots o (alone t)) → length x < 2 ^ 32
  slot_name_short x i =
      let c : Contains (names_of_slots o (alone t)) x = contains_from_in (names_of_slots o (alone t)) x i in
      let n = names_are_bounded o (alone t) x c in
      let most : candidate_limit o (alone t) < 2 ^ 31 = bound_is_small o (alone t) (let all : nodes_in (alone t) + length o.reserved < 2 ^ 30 = omega (arith, few) in all) in
      let less : n.0 < candidate_limit o (alone t) = n.2 in
      let long : length (candidate o.readable n.0) ≤ n.0 + 6 = candidate_long o.readable n.0 in
      let same : length x ≡ length (candidate o.readable n.0) = ap length n.1 in
      omega (arith, most, less, long, same)

  private_name_short : (x : Text) → In x (map short (count_from limit 0)) → length x < 2 ^ 32
  private_name_short x i =
      let n : (n : ℕ) × In n (count_from limit 0) × (short n ≡ x) = from_map short (count_from limit 0) x i in
      let less : n.0 < limit + 0 = from_count limit 0 n.0 n.1 in
      let long : length (short n.0) ≤ suc n.0 = short_long n.0 in
      let same : length x ≡ length (short n.0) = ap length (sym n.2) in
      omega (arith, low, less, long, same)

  given_short : (x : Text) → In x (names_of_slots o (alone t) ++ map short (count_from limit 0)) → length x < 2 ^ 32
  given_short x i = go (from_append (names_of_slots o (alone t)) (map short (count_from limit 0)) x i)
    where
      go : In x (names_of_slots o (alone t)) ⊎ In x (map short (count_from limit 0)) → length x < 2 ^ 32
      go (inl j) = slot_name_short x j
      go (inr j) = private_name_short x j

  -- the names that are given, as the code has them
  pub given_names_short : (given : List (String Global)) → map string_bytes given ≡ names_of_slots o (alone t) ++ map short (count_from limit 0)
      → AllByRecursion (λ s. length (string_bytes s) < 2 ^ 32) given
  given_names_short given e = each_short given (λ x i. given_short x (subst (In x) e i))
