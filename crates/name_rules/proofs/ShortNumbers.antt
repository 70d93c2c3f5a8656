-- A name tells its number: the first character in base 54, the others in base 64 without a zero digit.
use Rattle.std.specs.Prelude.{◌≡◌, ◌⊎◌, ℕ, zero, suc, ◌+◌, ◌*◌, ◌/◌, ◌%◌, ◌<◌, ◌≤◌, true, nat_eq, length, get_or}
use Rattle.std.proofs.Common.{refl, sym, ap, ◌∙◌, arith, inl, inr}
use Rattle.std.proofs.lemmas.Bool.{agree_below_at, cases_lt, eqb-true}
use Rattle.name_rules.specs.NameOrder.{LengthsNeverFall, ShorterNamesComeFirst, ShortIsOneToOne, digit, number_after, number_of_name, place_in}
use Rattle.name_rules.specs.Open.{all_open}
use Rattle.name_rules.specs.ShortNames.{characters, more_characters, short}

character_told : (k : ℕ) → k < 64 → digit (get_or characters k 0) ≡ k
unfolding digit
character_told k h = eqb-true (digit (get_or characters k 0)) k (agree_below_at (λ n. nat_eq (place_in characters (get_or characters n 0)) n) (λ n. true) 64 k refl h)

left_told : (fuel m : ℕ) → m ≤ fuel → number_after (more_characters fuel m) ≡ m
unfolding all_open
left_told zero m h = omega (arith, h)
left_told (suc fuel) zero h = refl
left_told (suc fuel) (suc m) h =
    let d : m % 64 < 64 = omega arith in
    let c : digit (get_or characters (m % 64) 0) ≡ m % 64 = character_told (m % 64) d in
    let q : m / 64 ≤ m = omega arith in
    let r : number_after (more_characters fuel (m / 64)) ≡ m / 64 = left_told fuel (m / 64) (omega (arith, h, q)) in
    let e : m % 64 + 64 * (m / 64) ≡ m = omega arith in
    omega (arith, c, r, e)

pub number_told : (n : ℕ) → number_of_name (short n) ≡ n
unfolding all_open
number_told n =
    let d : n % 54 < 64 = omega arith in
    let c : digit (get_or characters (n % 54) 0) ≡ n % 54 = character_told (n % 54) d in
    let q : n / 54 ≤ n = omega arith in
    let r : number_after (more_characters n (n / 54)) ≡ n / 54 = left_told n (n / 54) q in
    let e : n % 54 + 54 * (n / 54) ≡ n = omega arith in
    omega (arith, c, r, e)

pub short_is_one_to_one : ShortIsOneToOne
short_is_one_to_one m n e = sym (number_told m) ∙ ap number_of_name e ∙ number_told n

longer : (f g m n : ℕ) → m ≤ n → n ≤ g → length (more_characters f m) ≤ length (more_characters g n)
unfolding all_open
longer zero g m n h k = omega arith
longer (suc f) g zero n h k = omega arith
longer (suc f) g (suc m) zero h k = absurd (omega (arith, h))
longer (suc f) zero (suc m) (suc n) h k = absurd (omega (arith, k))
longer (suc f) (suc g) (suc m) (suc n) h k =
    let d : m / 64 ≤ n / 64 = omega (arith, h) in
    let q : n / 64 ≤ n = omega arith in
    let r : length (more_characters f (m / 64)) ≤ length (more_characters g (n / 64)) = longer f g (m / 64) (n / 64) d (omega (arith, k, q)) in
    omega (arith, r)

pub lengths_never_fall : LengthsNeverFall
unfolding all_open
lengths_never_fall m n h =
    let d : m / 54 ≤ n / 54 = omega (arith, h) in
    let q : n / 54 ≤ n = omega arith in
    let r : length (more_characters m (m / 54)) ≤ length (more_characters n (n / 54)) = longer m n (m / 54) (n / 54) d q in
    omega (arith, r)

pub shorter_names_come_first : ShorterNamesComeFirst
shorter_names_come_first m n h = go (cases_lt m n)
  where
    go : (m < n) ⊎ (n ≤ m) → m < n
    go (inl l) = l
    go (inr l) = let r : length (short n) ≤ length (short m) = lengths_never_fall n m l in absurd (omega (arith, r, h))
