-- What is left to a loop that goes down a list.
use Rattle.std.proofs.Common.{◌≡◌, ℕ, suc, ◌+◌, ◌<◌, ◌≤◌, List, [], ◌∷◌, map, ap, ◌∙◌, sym, length, get_or, drop, arith, add-one}
use Rattle.std.proofs.Math.Seq.{drop-cons}
use Rattle.std.proofs.lemmas.Grind.{common_steps}

-- before the turn of the element x
pub map_drop-next : {A B : Type 0} (h : A → B) (xs : List A) (i : ℕ) (x : A) → i < length xs → x ≡ get_or xs i x →
    map h (drop i xs) ≡ h x ∷ map h (drop (i + 1) xs)
map_drop-next h xs i x b e = rw add-one (ap (map h) (drop-cons xs i x b ∙ ap (λ y. y ∷ drop (suc i) xs) (sym e)))

-- after the last turn
pub map_drop-end : {A B : Type 0} (h : A → B) (xs : List A) (i : ℕ) → length xs ≤ i → map h (drop i xs) ≡ []
map_drop-end h xs i b = let d : drop i xs ≡ [] = grind (arith, common_steps) in ap (map h) d
