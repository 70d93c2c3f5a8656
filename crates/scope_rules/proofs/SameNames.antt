-- Names that are the same, names that are listed, and the different names of a list.
use Rattle.std.specs.Prelude.{◌≡◌, ◌⊎◌, ◌≤◌, suc, Bool, true, false, ◌||◌, List, [], ◌∷◌, length}
use Rattle.std.proofs.Common.{refl, sym, ap, ◌∙◌, subst, arith, inl, inr}
use Rattle.std.proofs.lemmas.Bool.{or_cases, or_left, or_right, both_ways}
use Rattle.std.proofs.lemmas.Slice.Eq.{bytes_eq-Decides}
use Rattle.list_laws.proofs.AnyOf.{any_from, any_some}
use Rattle.list_laws.proofs.Members.{In}
use Rattle.list_laws.proofs.Tests.{tested}
use Rattle.tree_nodes.specs.Tree.{Text}
use Rattle.scope_rules.specs.Bindings.{same_name}
use Rattle.scope_rules.specs.Open.{all_open}
use Rattle.scope_rules.specs.PrivateNames.{distinct, distinct_after, is_among}
use Rattle.scope_rules.specs.Renamings.{TellsSame}

pub same_name_tells : TellsSame same_name
unfolding all_open
same_name_tells x y = bytes_eq-Decides x y

pub among_in : (ns : List Text) (x : Text) → is_among ns x ≡ true → In x ns
unfolding all_open
among_in ns x h = let w : (y : Text) × In y ns × (same_name x y ≡ true) = any_some (same_name x) ns h in subst (λ (y : Text). In y ns) (sym ((same_name_tells x w.0).0 w.2)) w.1

pub in_among : (ns : List Text) (x : Text) → In x ns → is_among ns x ≡ true
unfolding all_open
in_among ns x i = any_from (same_name x) ns x i ((same_name_tells x x).1 refl)

pub from_distinct : (before xs : List Text) (x : Text) → is_among (distinct_after before xs) x ≡ true → is_among xs x ≡ true
unfolding all_open
from_distinct before [] x h = h
from_distinct before (y ∷ ys) x h = go (is_among before y) h (from_distinct before ys x) (from_distinct (y ∷ before) ys x)
  where
    go : (b : Bool) → is_among (elim b as (λ c. List Text) [ true ↦ distinct_after before ys | false ↦ y ∷ distinct_after (y ∷ before) ys ]) x ≡ true
        → (is_among (distinct_after before ys) x ≡ true → is_among ys x ≡ true) → (is_among (distinct_after (y ∷ before) ys) x ≡ true → is_among ys x ≡ true) → (same_name x y || is_among ys x) ≡ true
    go true k ih jh = or_right _ _ (ih k)
    go false k ih jh = at (or_cases _ _ k)
      where
        at : (same_name x y ≡ true) ⊎ (is_among (distinct_after (y ∷ before) ys) x ≡ true) → (same_name x y || is_among ys x) ≡ true
        at (inl e) = or_left _ _ e
        at (inr e) = or_right _ _ (jh e)

pub to_distinct : (before xs : List Text) (x : Text) → is_among xs x ≡ true → is_among before x ≡ false → is_among (distinct_after before xs) x ≡ true
unfolding all_open
to_distinct before [] x h n = h
to_distinct before (y ∷ ys) x h n = go (is_among before y) refl (or_cases _ _ h) (λ k. to_distinct before ys x k n) (λ k m. to_distinct (y ∷ before) ys x k m)
  where
    go : (b : Bool) → is_among before y ≡ b → (same_name x y ≡ true) ⊎ (is_among ys x ≡ true) → (is_among ys x ≡ true → is_among (distinct_after before ys) x ≡ true)
        → (is_among ys x ≡ true → is_among (y ∷ before) x ≡ false → is_among (distinct_after (y ∷ before) ys) x ≡ true)
        → is_among (elim b as (λ c. List Text) [ true ↦ distinct_after before ys | false ↦ y ∷ distinct_after (y ∷ before) ys ]) x ≡ true
    go true q (inl e) ih jh = absurd (both_ways _ n (subst (λ (z : Text). is_among before z ≡ true) (sym ((same_name_tells x y).0 e)) q))
    go true q (inr k) ih jh = ih k
    go false q (inl e) ih jh = or_left _ _ e
    go false q (inr k) ih jh = tested (same_name x y) (λ e. or_left _ _ e) (λ f. or_right _ _ (jh k (ap (λ b. b || is_among before x) f ∙ n)))

pub distinct_after_most : (before xs : List Text) → length (distinct_after before xs) ≤ length xs
unfolding all_open
distinct_after_most before [] = omega arith
distinct_after_most before (x ∷ xs) = go (is_among before x) (distinct_after_most before xs) (distinct_after_most (x ∷ before) xs)
  where
    go : (b : Bool) → length (distinct_after before xs) ≤ length xs → length (distinct_after (x ∷ before) xs) ≤ length xs → length (elim b as (λ c. List Text) [ true ↦ distinct_after before xs | false ↦ x ∷ distinct_after (x ∷ before) xs ]) ≤ suc (length xs)
    go true h k = omega (arith, h)
    go false h k = omega (arith, k)

pub in_distinct : (xs : List Text) (x : Text) → In x xs → In x (distinct xs)
unfolding all_open
in_distinct xs x i = among_in (distinct xs) x (to_distinct [] xs x (in_among xs x i) refl)
