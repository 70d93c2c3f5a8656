-- The names that places leave unresolved, one place after another.
use Rattle.std.specs.Prelude.{◌≡◌, ◌&&◌, ◌||◌, ℕ, Bool, true, false, is_some, List, Option, Some, bytes_eq, cond}
use Rattle.std.specs.Map.{update}
use Rattle.std.proofs.Common.{refl, sym, ap, ◌∙◌}
use Rattle.std.proofs.lemmas.Bool.{both_ways}
use Rattle.std.proofs.lemmas.Slice.Eq.{bytes_eq-Decides}

same_turned : (x y : List ℕ) → bytes_eq x y ≡ bytes_eq y x
same_turned x y = go (bytes_eq x y) refl (bytes_eq y x) refl
  where
    go : (a : Bool) → bytes_eq x y ≡ a → (b : Bool) → bytes_eq y x ≡ b → a ≡ b
    go true p true q = refl
    go false p false q = refl
    go true p false q = absurd (both_ways _ q ((bytes_eq-Decides y x).1 (sym ((bytes_eq-Decides x y).0 p))))
    go false p true q = absurd (both_ways _ p ((bytes_eq-Decides x y).1 (sym ((bytes_eq-Decides y x).0 q))))

-- a map with a name more
pub name_more : (f : List ℕ → Option (Unit {0})) (o : Option (Unit {0})) (name x : List ℕ) → o ≡ update bytes_eq f name (Some tt) x → is_some o ≡ (is_some (f x) || bytes_eq x name)
name_more f o name x e = ap (λ (p : Option (Unit {0})). is_some p) e ∙ go (bytes_eq name x) (is_some (f x)) ∙ ap (λ (b : Bool). is_some (f x) || b) (same_turned name x)
  where
    go : (b c : Bool) → is_some (cond b (Some tt) (f x)) ≡ (is_some (f x) || b)
    go true c = or_true (is_some (f x))
      where
        or_true : (b : Bool) → true ≡ (b || true)
        or_true true = refl
        or_true false = refl
    go false c = or_false (is_some (f x))
      where
        or_false : (b : Bool) → b ≡ (b || false)
        or_false true = refl
        or_false false = refl

-- a name that is left or not
pub left_name : (a b c : Bool) → (a && b) ≡ true → (a && b && c) ≡ c
left_name true true c e = refl
left_name true false c e = absurd (both_ways _ refl e)
left_name false b c e = absurd (both_ways _ refl e)

pub no_name : (a b c : Bool) → (a && b) ≡ false → (a && b && c) ≡ false
no_name true true c e = absurd (both_ways _ e refl)
no_name true false c e = refl
no_name false b c e = refl

pub or_nothing : (a b : Bool) → b ≡ false → a ≡ (a || b)
or_nothing true b e = refl
or_nothing false b e = sym e
