-- A map by names, in which one name is set where it isn't yet.
use Rattle.std.specs.Prelude.{◌≡◌, Bool, true, false, cond, Option, Some, None, is_some, if◌then◌else◌}
use Rattle.std.proofs.Common.{refl, ap, ◌∙◌}
use Rattle.std.proofs.lemmas.Bool.{both_ways}
use Rattle.std.proofs.lemmas.Slice.Eq.{bytes_eq-Decides}
use Rattle.tree_nodes.specs.Tree.{Text}
use Rattle.scope_rules.specs.Bindings.{or_else, same_name}

module _ {X : Type 0} (f : Text → Option X) (n : Text) (v : X) where
  pub put_absent : is_some (f n) ≡ false → (x : Text) → cond (same_name n x) (Some v) (f x) ≡ or_else (f x) (if same_name n x then Some v else None)
  unfolding or_else same_name
  put_absent absent x = go (same_name n x) refl (f x) refl
    where
      go : (t : Bool) → same_name n x ≡ t → (o : Option X) → f x ≡ o → cond t (Some v) o ≡ or_else o (if t then Some v else None)
      go true e None p = refl
      go true e (Some w) p = absurd (both_ways _ absent (ap is_some (ap f ((bytes_eq-Decides n x).0 e) ∙ p)))
      go false e None p = refl
      go false e (Some w) p = refl

  pub put_present : is_some (f n) ≡ true → (x : Text) → f x ≡ or_else (f x) (if same_name n x then Some v else None)
  unfolding or_else same_name
  put_present present x = go (same_name n x) refl (f x) refl
    where
      go : (t : Bool) → same_name n x ≡ t → (o : Option X) → f x ≡ o → o ≡ or_else o (if t then Some v else None)
      go true e None p = absurd (both_ways _ (ap is_some (ap f ((bytes_eq-Decides n x).0 e) ∙ p)) present)
      go true e (Some w) p = refl
      go false e None p = refl
      go false e (Some w) p = refl
