-- Taking apart tests, options and comparisons of texts.
use Rattle.std.proofs.Common.{◌≡◌, ℕ, List, Bool, true, false, ◌||◌, Option, Some, None, option_map, option_and_then, if◌then◌else◌, refl, sym, ◌∙◌, true≢false, bytes_eq}
use Rattle.std.proofs.lemmas.Slice.Eq.{bytes_eq-Decides}
pub use Rattle.std.proofs.lemmas.Bool.{and_parts as both, not-true as not_true, or_parts as neither}
pub use Rattle.std.proofs.lemmas.Option.{same_Some as some_same}

pub or_true : (a : Bool) → (a || true) ≡ true
or_true true = refl
or_true false = refl

pub none_some : {A C : Type 0} (a : A) → None ≡ Some a → C
none_some a e = absurd (cc)

pub map_some : {A B : Type 0} (f : A → B) (o : Option A) (b : B) → option_map f o ≡ Some b
    → (a : A) × (o ≡ Some a) × (f a ≡ b)
map_some f None b e = absurd (cc)
map_some f (Some a) b e = (a, refl, cc)

pub then_some : {A B : Type 0} (f : A → Option B) (o : Option A) (b : B) → option_and_then f o ≡ Some b
    → (a : A) × (o ≡ Some a) × (f a ≡ Some b)
then_some f None b e = absurd (cc)
then_some f (Some a) b e = (a, refl, e)

pub if_some : {A : Type 0} (b : Bool) (x : Option A) (y : A) → (if b then x else None) ≡ Some y
    → (b ≡ true) × (x ≡ Some y)
if_some true x y e = (refl, e)
if_some false x y e = absurd (cc)

-- a text is itself
pub bytes_same : (xs : List ℕ) → bytes_eq xs xs ≡ true
bytes_same xs = (bytes_eq-Decides xs xs).1 refl

pub bytes_equal : (xs ys : List ℕ) → bytes_eq xs ys ≡ true → xs ≡ ys
bytes_equal xs ys e = (bytes_eq-Decides xs ys).0 e

pub bytes_differ : (xs ys : List ℕ) → (xs ≡ ys → ⊥) → bytes_eq xs ys ≡ false
bytes_differ xs ys h = by_test (bytes_eq xs ys) refl
  where
    by_test : (b : Bool) → bytes_eq xs ys ≡ b → bytes_eq xs ys ≡ false
    by_test true e = absurd (h (bytes_equal xs ys e))
    by_test false e = e

pub bytes_turned : (xs ys : List ℕ) → bytes_eq xs ys ≡ false → bytes_eq ys xs ≡ false
bytes_turned xs ys e = bytes_differ ys xs (λ same. true≢false (sym ((bytes_eq-Decides xs ys).1 (sym same)) ∙ e))
