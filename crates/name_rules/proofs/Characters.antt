-- The characters of a short name: how far they go on, and that they are ASCII.
use Rattle.std.specs.Prelude.{◌≡◌, ◌≤◌, ◌<◌, ℕ, zero, suc, ◌+◌, ◌*◌, ◌/◌, ◌%◌, true, nat_lt, [], ◌∷◌, ◌++◌, length, get_or}
use Rattle.std.proofs.Common.{refl, sym, ap, ◌∙◌, arith}
use Rattle.std.proofs.lemmas.Bool.{agree_below_at}
use Rattle.std.proofs.lemmas.List.{append_assoc, append-nil, length-append}
use Rattle.name_rules.specs.Open.{all_open}
use Rattle.name_rules.specs.ShortNames.{characters, more_characters, short}
use Rattle.tree_nodes.specs.Tree.{Text}

-- more fuel than is left changes nothing
pub fuel_told : (f g m : ℕ) → m ≤ f → m ≤ g → more_characters f m ≡ more_characters g m
unfolding all_open
fuel_told zero zero m h k = refl
fuel_told zero (suc g) zero h k = refl
fuel_told zero (suc g) (suc m) h k = absurd (omega (arith, h))
fuel_told (suc f) zero zero h k = refl
fuel_told (suc f) zero (suc m) h k = absurd (omega (arith, k))
fuel_told (suc f) (suc g) zero h k = refl
fuel_told (suc f) (suc g) (suc m) h k = ap (λ xs. get_or characters (m % 64) 0 ∷ xs) (fuel_told f g (m / 64) (omega (arith, h)) (omega (arith, k)))

-- the least number from which there are more than these many characters
abbrev reach : ℕ → ℕ
reach zero = 1
reach (suc k) = 64 * reach k + 1

at_most : (k f m : ℕ) → m < reach k → length (more_characters f m) ≤ k
unfolding all_open
at_most k zero m h = omega arith
at_most k (suc f) zero h = omega arith
at_most zero (suc f) (suc m) h = absurd (omega (arith, h))
at_most (suc k) (suc f) (suc m) h =
    let i : length (more_characters f (m / 64)) ≤ k = at_most k f (m / 64) (omega (arith, h)) in
    omega (arith, i)

pub short_fits : (n : ℕ) → n < 4294967296 → length (short n) ≤ 6
unfolding all_open
short_fits n h =
    let i : length (more_characters n (n / 54)) ≤ 5 = at_most 5 n (n / 54) (omega (arith, h)) in
    omega (arith, i)

pub character_ascii : (k : ℕ) → k < 64 → get_or characters k 0 < 128
character_ascii k h = grind (arith, agree_below_at (λ n. nat_lt (get_or characters n 0) 128) (λ n. true) 64 k refl h)

-- ---- a name as it is written

pub start_is_told : (n c : ℕ) (empty name : Text) → empty ≡ [] → c ≡ get_or characters (n % 54) 0 → name ≡ empty ++ c ∷ [] → name ++ more_characters (n / 54) (n / 54) ≡ short n
unfolding all_open
start_is_told n c empty name e d h =
    ap (λ (t : Text). t ++ more_characters (n / 54) (n / 54)) (h ∙ ap (λ (t : Text). t ++ c ∷ []) e ∙ ap (λ (k : ℕ). k ∷ []) d)
    ∙ ap (λ (xs : Text). get_or characters (n % 54) 0 ∷ xs) (fuel_told (n / 54) n (n / 54) (omega arith) (omega arith))

pub step_told : (n left m c : ℕ) (name after : Text) → left ≡ suc m → name ++ more_characters left left ≡ short n → c ≡ get_or characters (m % 64) 0 → after ≡ name ++ c ∷ []
    → after ++ more_characters (m / 64) (m / 64) ≡ short n
unfolding all_open
step_told n left m c name after p h d e =
    ap (λ (t : Text). t ++ more_characters (m / 64) (m / 64)) e
    ∙ append_assoc name (c ∷ []) (more_characters (m / 64) (m / 64))
    ∙ ap (λ (k : ℕ). name ++ k ∷ more_characters (m / 64) (m / 64)) d
    ∙ ap (λ (xs : Text). name ++ get_or characters (m % 64) 0 ∷ xs) (fuel_told (m / 64) m (m / 64) (omega arith) (omega arith))
    ∙ sym (ap (λ (k : ℕ). name ++ more_characters k k) p)
    ∙ h

pub room_left : (n left : ℕ) (name : Text) → n < 4294967296 → name ++ more_characters left left ≡ short n → length name < 7
room_left n left name f h =
    let a : length (name ++ more_characters left left) ≡ length name + length (more_characters left left) = length-append name (more_characters left left) in
    let b : length (name ++ more_characters left left) ≡ length (short n) = ap length h in
    omega (arith, a, b, short_fits n f)

pub end_told : (n left : ℕ) (name : Text) → left ≡ 0 → name ++ more_characters left left ≡ short n → name ≡ short n
unfolding all_open
end_told n left name e h = sym (append-nil name) ∙ sym (ap (λ (k : ℕ). name ++ more_characters k k) e) ∙ h
