-- A map by two numbers, in which one key is set where it isn't yet.
use Rattle.std.specs.Prelude.{◌≡◌, ◌<◌, ℕ, Bool, true, false, cond, ◌&&◌, nat_eq, nat_lt, Option, Some, None, is_some, if◌then◌else◌}
use Rattle.std.specs.Ordering.{is_eq, nat_cmp, ordering_then}
use Rattle.std.specs.declared.cmp.Ordering.{Ordering}
use Rattle.std.specs.declared.cmp.Ordering.TheVariants.{Equal, Greater, Less}
use Rattle.std.proofs.Common.{refl, sym, ap, ◌∙◌, arith}
use Rattle.std.proofs.lemmas.Bool.{and_parts, both_ways, eqb-true, ltb-true}
use Rattle.scope_rules.specs.Bindings.{or_else}

-- at a key whose numbers are a and b, it has what it has there
pub key_is : {X : Type 0} (f : ℕ → ℕ → X) (a b s x : ℕ) → (nat_eq a s && nat_eq b x) ≡ true → f s x ≡ f a b
key_is f a b s x h = let p = and_parts _ _ h in ap (λ (n : ℕ). f n x) (sym (eqb-true a s p.0)) ∙ ap (λ (n : ℕ). f a n) (sym (eqb-true b x p.1))

pub put_absent : (f : ℕ → ℕ → Option ℕ) (a b v s x : ℕ) → is_some (f a b) ≡ false → cond (nat_eq a s && nat_eq b x) (Some v) (f s x) ≡ or_else (f s x) (if nat_eq a s && nat_eq b x then Some v else None)
unfolding or_else
put_absent f a b v s x n = go (nat_eq a s && nat_eq b x) refl (f s x) refl
  where
    go : (t : Bool) → (nat_eq a s && nat_eq b x) ≡ t → (o : Option ℕ) → f s x ≡ o → cond t (Some v) o ≡ or_else o (if t then Some v else None)
    go true e None p = refl
    go true e (Some w) p = absurd (both_ways _ n (ap is_some (sym (key_is f a b s x e) ∙ p)))
    go false e None p = refl
    go false e (Some w) p = refl

pub put_present : (f : ℕ → ℕ → Option ℕ) (a b v s x : ℕ) → is_some (f a b) ≡ true → f s x ≡ or_else (f s x) (if nat_eq a s && nat_eq b x then Some v else None)
unfolding or_else
put_present f a b v s x n = go (nat_eq a s && nat_eq b x) refl (f s x) refl
  where
    go : (t : Bool) → (nat_eq a s && nat_eq b x) ≡ t → (o : Option ℕ) → f s x ≡ o → o ≡ or_else o (if t then Some v else None)
    go true e None p = absurd (both_ways _ refl (ap is_some (sym p ∙ key_is f a b s x e) ∙ n))
    go true e (Some w) p = refl
    go false e None p = refl
    go false e (Some w) p = refl

-- ---- two pairs of numbers are equal in their order where their numbers are

pub is_eq_numbers : (a b : ℕ) → is_eq (nat_cmp a b) ≡ nat_eq a b
is_eq_numbers a b = go (nat_lt a b) refl (nat_eq a b) refl
  where
    go : (l : Bool) → nat_lt a b ≡ l → (e : Bool) → nat_eq a b ≡ e → is_eq (cond l Less (cond e Equal Greater)) ≡ e
    go false p true q = refl
    go false p false q = refl
    go true p false q = refl
    go true p true q = absurd (let l : a < b = ltb-true a b p in let e : a ≡ b = eqb-true a b q in omega arith)

is_eq_both : (o p : Ordering) → is_eq (ordering_then o p) ≡ (is_eq o && is_eq p)
is_eq_both Less p = refl
is_eq_both Equal p = refl
is_eq_both Greater p = refl

pub is_eq_pair : (a b c d : ℕ) → is_eq (ordering_then (nat_cmp a b) (nat_cmp c d)) ≡ (nat_eq a b && nat_eq c d)
is_eq_pair a b c d = is_eq_both (nat_cmp a b) (nat_cmp c d) ∙ ap (λ (t : Bool). t && is_eq (nat_cmp c d)) (is_eq_numbers a b) ∙ ap (λ (t : Bool). nat_eq a b && t) (is_eq_numbers c d)
