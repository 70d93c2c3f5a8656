-- The names that are given are kept in place: they are ASCII, and of at most 15 bytes.
use Rattle.std.specs.Prelude.{◌≡◌, ◌⊎◌, ◌<◌, ◌≤◌, ℕ, zero, suc, ◌+◌, ◌*◌, ◌/◌, ◌%◌, ◌^◌, Bool, true, false, nat_lt, List, [], ◌∷◌, ◌++◌, codes, length, map, string_bytes}
use Rattle.std.specs.List.{AllByRecursion}
use Rattle.std.specs.Str.{IsAscii}
use Rattle.std.proofs.Common.{refl, sym, ap, subst, arith, inl, inr, String}
use Rattle.std.proofs.lemmas.List.{length-append}
use Rattle.list_laws.proofs.Members.{In, contains_from_in, from_append, from_map}
use Rattle.name_rules.proofs.Bounds.{bound_is_small, names_are_bounded}
use Rattle.name_rules.proofs.Characters.{character_ascii, short_fits}
use Rattle.name_rules.proofs.CountFrom.{from_count}
use Rattle.name_rules.specs.Bounds.{candidate_limit}
use Rattle.name_rules.specs.GivenNames.{count_from, names_of_slots}
use Rattle.name_rules.specs.Options.{Options}
use Rattle.name_rules.specs.ShortNames.{candidate, characters, digits_onto, more_characters, readable_name, short}
use Rattle.symbol_names.specs.Inline.{IsInline}
use Rattle.tree_nodes.specs.NodeCount.{nodes_in}
use Rattle.tree_nodes.specs.Tree.{Parts, Text}

-- ---- ASCII

none_ascii : IsAscii []
none_ascii i = omega arith

more_ascii : (c : ℕ) (cs : Text) → c < 128 → IsAscii cs → IsAscii (c ∷ cs)
more_ascii c cs h a zero = h
more_ascii c cs h a (suc i) = a i

later_ascii : (fuel m : ℕ) → IsAscii (more_characters fuel m)
unfolding more_characters
later_ascii zero m = none_ascii
later_ascii (suc fuel) zero = none_ascii
later_ascii (suc fuel) (suc m) = more_ascii _ _ (character_ascii (m % 64) (omega arith)) (later_ascii fuel (m / 64))

short_ascii : (n : ℕ) → IsAscii (short n)
unfolding short
short_ascii n = more_ascii _ _ (character_ascii (n % 54) (omega arith)) (later_ascii n (n / 54))

below_ten : (n : ℕ) → nat_lt n 10 ≡ true → n < 10
below_ten n e = grind (arith, e)

digits_ascii : (fuel n : ℕ) (after : Text) → IsAscii after → IsAscii (digits_onto fuel n after)
unfolding digits_onto
digits_ascii zero n after a = a
digits_ascii (suc fuel) n after a = go (nat_lt n 10) refl (digits_ascii fuel (n / 10) ((48 + n % 10) ∷ after))
  where
    go : (b : Bool) → nat_lt n 10 ≡ b → (IsAscii ((48 + n % 10) ∷ after) → IsAscii (digits_onto fuel (n / 10) ((48 + n % 10) ∷ after)))
        → IsAscii (elim b as (λ c. Text) [ true ↦ (48 + n) ∷ after | false ↦ digits_onto fuel (n / 10) ((48 + n % 10) ∷ after) ])
    go true e ih = more_ascii (48 + n) after (let l : n < 10 = below_ten n e in omega (arith, l)) a
    go false e ih = ih (more_ascii (48 + n % 10) after (omega arith) a)

slot_ascii : (cs : Text) → IsAscii cs → IsAscii (codes "slot_" ++ cs)
slot_ascii cs a =
    more_ascii 115 (108 ∷ 111 ∷ 116 ∷ 95 ∷ cs) (omega arith)
    (more_ascii 108 (111 ∷ 116 ∷ 95 ∷ cs) (omega arith)
    (more_ascii 111 (116 ∷ 95 ∷ cs) (omega arith)
    (more_ascii 116 (95 ∷ cs) (omega arith)
    (more_ascii 95 cs (omega arith) a))))

-- ---- lengths

-- the least number with more than so many digits
abbrev tens : ℕ → ℕ
tens zero = 1
tens (suc j) = 10 * tens j

digits_few : (fuel j n : ℕ) (after : Text) → n < tens (suc j) → length (digits_onto fuel n after) ≤ suc j + length after
unfolding digits_onto
digits_few zero j n after h = omega arith
digits_few (suc fuel) j n after h = go (nat_lt n 10) refl j h (λ i. digits_few fuel i (n / 10) ((48 + n % 10) ∷ after))
  where
    not_below : nat_lt n 10 ≡ false → 10 ≤ n
    not_below e = grind (arith, e)

    go : (b : Bool) → nat_lt n 10 ≡ b → (j : ℕ) → n < tens (suc j) → ((i : ℕ) → n / 10 < tens (suc i) → length (digits_onto fuel (n / 10) ((48 + n % 10) ∷ after)) ≤ suc i + length ((48 + n % 10) ∷ after))
        → length (elim b as (λ c. Text) [ true ↦ (48 + n) ∷ after | false ↦ digits_onto fuel (n / 10) ((48 + n % 10) ∷ after) ]) ≤ suc j + length after
    go true e j l ih = omega arith
    go false e zero l ih = absurd (let m : 10 ≤ n = not_below e in omega (arith, l, m))
    go false e (suc i) l ih =
        let q : n / 10 < tens (suc i) = omega (arith, l) in
        let r : length (digits_onto fuel (n / 10) ((48 + n % 10) ∷ after)) ≤ suc i + length ((48 + n % 10) ∷ after) = ih i q in
        omega (arith, r)

readable_fits : (n : ℕ) → n < 2 ^ 31 → length (readable_name n) ≤ 15
unfolding readable_name
readable_fits n h =
    let digits : length (digits_onto (suc n) n []) ≤ 10 + 0 = digits_few (suc n) 9 n [] (omega (arith, h)) in
    let whole : length (codes "slot_" ++ digits_onto (suc n) n []) ≡ 5 + length (digits_onto (suc n) n []) = length-append (codes "slot_") (digits_onto (suc n) n []) in
    omega (arith, digits, whole)

-- ---- names

short_inline : (n : ℕ) → n < 2 ^ 32 → IsInline (short n)
short_inline n h = record { ascii = short_ascii n; fits = (let s : length (short n) ≤ 6 = short_fits n (omega (arith, h)) in omega (arith, s)) }

readable_inline : (n : ℕ) → n < 2 ^ 31 → IsInline (readable_name n)
unfolding readable_name
readable_inline n h = record { ascii = slot_ascii (digits_onto (suc n) n []) (digits_ascii (suc n) n [] none_ascii); fits = readable_fits n h }

candidate_inline : (readable : Bool) (n : ℕ) → n < 2 ^ 31 → IsInline (candidate readable n)
unfolding candidate
candidate_inline true n h = readable_inline n h
candidate_inline false n h = short_inline n (omega (arith, h))

module _ (o : Options) (t : Parts) (few : nodes_in t + length o.reserved < 2 ^ 30) (limit : ℕ) (low : limit ≤ 2 ^ 31) where
  slot_name_inline : (x : Text) → In x (names_of_slots o t) → IsInline x
  slot_name_inline x i =
      let n = names_are_bounded o t x (contains_from_in (names_of_slots o t) x i) in
      let most : candidate_limit o t < 2 ^ 31 = bound_is_small o t few in
      let less : n.0 < candidate_limit o t = n.2 in
      subst IsInline (sym n.1) (candidate_inline o.readable n.0 (omega (arith, most, less)))

  private_name_inline : (x : Text) → In x (map short (count_from limit 0)) → IsInline x
  private_name_inline x i =
      let n : (n : ℕ) × In n (count_from limit 0) × (short n ≡ x) = from_map short (count_from limit 0) x i in
      let less : n.0 < limit + 0 = from_count limit 0 n.0 n.1 in
      subst IsInline n.2 (short_inline n.0 (omega (arith, low, less)))

  given_inline : (x : Text) → In x (names_of_slots o t ++ map short (count_from limit 0)) → IsInline x
  given_inline x i = go (from_append (names_of_slots o t) (map short (count_from limit 0)) x i)
    where
      go : In x (names_of_slots o t) ⊎ In x (map short (count_from limit 0)) → IsInline x
      go (inl j) = slot_name_inline x j
      go (inr j) = private_name_inline x j

  pub names_inline : {Z : Type 0} (given : List (String Z)) → map string_bytes given ≡ names_of_slots o t ++ map short (count_from limit 0) → AllByRecursion (λ s. IsInline (string_bytes s)) given
  names_inline {Z} given e = each given (λ x i. given_inline x (subst (In x) e i))
    where
      each : (ss : List (String Z)) → ((x : Text) → In x (map string_bytes ss) → IsInline x) → AllByRecursion (λ s. IsInline (string_bytes s)) ss
      each [] f = tt
      each (s ∷ ss) f = (f (string_bytes s) (inl refl), each ss (λ x i. f x (inr i)))
