-- For callers: the place of a name is its index, and a position is a number where nothing is to be passed over.
use Rattle.std.specs.Prelude.{◌≡◌, ◌+◌, ℕ, zero, suc, Bool, true, false, List, [], ◌∷◌, Option, Some, None, option_map, if◌then◌else◌}
use Rattle.std.proofs.Common.{refl, sym, ap, ◌∙◌, arith}
use Rattle.name_rules.specs.PrivateNumbers.{index_of, nth_unlisted}
use Rattle.tree_nodes.specs.Tree.{Text}
use Rattle.scope_rules.specs.Bindings.{same_name}
use Rattle.scope_rules.specs.PrivateNames.{is_among}
use Rattle.list_laws.proofs.Tests.{none_some, some_one}
use Rattle.class_tables.specs.Tables.{place_in}

pub place_is_index : (x : Text) (ys : List Text) (k : ℕ) → place_in x ys ≡ Some k → index_of x ys ≡ k
unfolding place_in index_of
place_is_index x [] k e = absurd (none_some k e)
place_is_index x (y ∷ ys) k e = go (same_name x y) e (place_in x ys) refl (λ n q. place_is_index x ys n q)
  where
    go : (t : Bool) → if◌then◌else◌ {A = Option ℕ} t (Some 0) (option_map (λ n. suc n) (place_in x ys)) ≡ Some k → (o : Option ℕ) → place_in x ys ≡ o → ((n : ℕ) → place_in x ys ≡ Some n → index_of x ys ≡ n) → if◌then◌else◌ {A = ℕ} t 0 (suc (index_of x ys)) ≡ k
    go true p o q ih = some_one 0 k p
    go false p None q ih = absurd (none_some k (sym (ap (option_map (λ n. suc n)) q) ∙ p))
    go false p (Some n) q ih = ap (λ (m : ℕ). suc m) (ih n q) ∙ some_one (suc n) k (sym (ap (option_map (λ m. suc m)) q) ∙ p)

pub none_passed_over : (n k : ℕ) → nth_unlisted [] (suc n) n k ≡ k + n
unfolding nth_unlisted is_among
none_passed_over zero k = omega arith
none_passed_over (suc m) k = none_passed_over m (suc k) ∙ moved k m
  where
    moved : (a b : ℕ) → suc a + b ≡ a + suc b
    moved a b = omega arith
