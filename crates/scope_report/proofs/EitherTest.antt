-- Whether an item passes one of two tests.
use Rattle.std.specs.Prelude.{◌≡◌, Bool, true, false, ◌||◌, List, [], ◌∷◌}
use Rattle.std.specs.List.{list_any}
use Rattle.std.proofs.Common.{refl, ap, ◌∙◌}

pub any_either : {X : Type 0} (s t : X → Bool) (xs : List X) → (list_any s xs || list_any t xs) ≡ list_any (λ x. s x || t x) xs
any_either s t [] = refl
any_either s t (x ∷ xs) = shuffled (s x) (t x) (list_any s xs) (list_any t xs) ∙ ap (λ (b : Bool). s x || t x || b) (any_either s t xs)
  where
    shuffled : (a b c d : Bool) → ((a || c) || (b || d)) ≡ ((a || b) || (c || d))
    shuffled true b c d = refl
    shuffled false true true d = refl
    shuffled false true false d = refl
    shuffled false false c d = refl
