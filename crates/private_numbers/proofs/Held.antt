-- What is held of all class bodies, and read of it.
use Rattle.std.specs.Prelude.{◌≡◌, ◌<◌, ◌+◌, ℕ, zero, suc, List, [], ◌∷◌, ◌++◌, length, get_or, Option, Some, None}
use Rattle.std.proofs.Common.{refl, sym, ap, ◌∙◌, subst, arith}
use borrow.Author.Count.{below_more}
use Rattle.std.proofs.lemmas.Option.{slice_get-get_or}
use Rattle.place_list.specs.declared.tables.PlaceList.{PlaceList}
use Rattle.private_numbers.specs.AllNumbers.{numbers_at}
use Rattle.private_numbers.specs.Numbers.{AreClassNumbers}
use Rattle.private_numbers.specs.declared.class_numbers.ClassNumbers.{ClassNumbers}

numbers_before : (ns : List ClassNumbers) (x : ClassNumbers) (k : ℕ) → k < length ns → numbers_at (ns ++ x ∷ []) k ≡ numbers_at ns k
unfolding numbers_at
numbers_before [] x k h = absurd (omega (arith, h))
numbers_before (n ∷ ns) x zero h = refl
numbers_before (n ∷ ns) x (suc k) h = numbers_before ns x k (omega (arith, h))

numbers_last : (ns : List ClassNumbers) (x : ClassNumbers) → numbers_at (ns ++ x ∷ []) (length ns) ≡ x.numbers.items
unfolding numbers_at
numbers_last [] x = refl
numbers_last (n ∷ ns) x = numbers_last ns x

-- one class body more
pub numbers_pushed : (l : PlaceList) (ns : List ClassNumbers) (n : ℕ) → length ns ≡ n → ((c : ℕ) → c < n → AreClassNumbers l c (numbers_at ns c)) → (x : ClassNumbers) → AreClassNumbers l n x.numbers.items
    → (c : ℕ) → c < n + 1 → AreClassNumbers l c (numbers_at (ns ++ x ∷ []) c)
numbers_pushed l ns n len so_far x are = below_more (λ c. AreClassNumbers l c (numbers_at (ns ++ x ∷ []) c)) n
    (λ c h. subst (AreClassNumbers l c) (sym (numbers_before ns x c (subst (λ (m : ℕ). c < m) (sym len) h))) (so_far c h))
    (subst (AreClassNumbers l n) (sym (ap (λ (m : ℕ). numbers_at (ns ++ x ∷ []) m) (sym len) ∙ numbers_last ns x)) are)

-- that of a class body in the table
pub numbers_read : (ns : List ClassNumbers) (c : ℕ) (d : ClassNumbers) → c < length ns → numbers_at ns c ≡ (get_or ns c d).numbers.items
unfolding numbers_at
numbers_read ns c d h = ap (λ (o : Option ClassNumbers). elim o as (λ _. List ℕ) [ None ↦ [] | Some n ↦ n.numbers.items ]) (slice_get-get_or ns c d h)
