-- A test is true or false, and an option is something or nothing.
use Rattle.std.specs.Prelude.{true, None, false, is_some, Bool, Some, Option}
use Rattle.std.proofs.Common.{ap, sym, refl, ◌≡◌}
use Rattle.std.proofs.lemmas.Bool.{both_ways}

-- the cases of a test, with what it answers
pub told : {X : Type 0} {G : Type 0} (o : Option X) → (o ≡ None → G) → ((x : X) → o ≡ Some x → G) → G
told None n s = n refl
told (Some x) n s = s x refl

pub tested : {G : Type 0} (b : Bool) → (b ≡ true → G) → (b ≡ false → G) → G
tested true t f = t refl
tested false t f = f refl

pub some_one : {X : Type 0} (x y : X) → Some x ≡ Some y → x ≡ y
some_one x y e = ap (λ o. elim o [ None ↦ x | Some z ↦ z ]) e

pub none_some : {X : Type 0} (x : X) → None ≡ Some x → ⊥
none_some x e = both_ways false refl (ap (λ o. elim o [ None ↦ false | Some z ↦ true ]) e)

-- tests that pass alike
pub tests_agree : (a b : Bool) → (a ≡ true → b ≡ true) → (b ≡ true → a ≡ true) → a ≡ b
tests_agree true true f g = refl
tests_agree true false f g = sym (f refl)
tests_agree false true f g = g refl
tests_agree false false f g = refl

-- the same, where it is asked whether something is there
pub none_told : {X : Type 0} (o : Option X) → is_some o ≡ false → o ≡ None
none_told None h = refl
none_told (Some x) h = absurd (both_ways _ h refl)

pub some_told : {X : Type 0} (o : Option X) → is_some o ≡ true → (x : X) × (o ≡ Some x)
some_told None h = absurd (both_ways _ refl h)
some_told (Some x) h = (x, refl)
