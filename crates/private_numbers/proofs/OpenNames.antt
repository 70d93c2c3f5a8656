-- The names of the open classes around, one class body after the other.
use Rattle.std.specs.Prelude.{◌≡◌, ℕ, Bool, true, false, cond, ◌||◌, ◌&&◌, List, [], ◌∷◌, filter}
use Rattle.std.specs.List.{flat_map, list_any}
use Rattle.std.proofs.Common.{refl}
use Rattle.std.proofs.lemmas.Bool.{both_ways}
use Rattle.std.proofs.lemmas.List.Folds.{list_any-append}
use Rattle.name_rules.specs.PrivateNumbers.{open_names}
use Rattle.tree_nodes.specs.Tree.{Text}
use Rattle.tree_places.specs.Places.{Place}
use Rattle.scope_rules.specs.Bindings.{same_name}
use Rattle.scope_rules.specs.Evals.{is_open}
use Rattle.scope_rules.specs.PrivateNames.{is_among, private_names}

module _ (ps : List Place) where
  -- a name is avoided where the first class body keeps it, or those further out do
  pub avoided_first : (c : ℕ) (cs : List ℕ) (x : Text) → is_among (open_names ps (c ∷ cs)) x ≡ ((is_open ps c && is_among (private_names ps c) x) || is_among (open_names ps cs) x)
  unfolding open_names is_among
  avoided_first c cs x = go (is_open ps c)
    where
      go : (b : Bool) → list_any (same_name x) (flat_map (private_names ps) (cond b (c ∷ filter (is_open ps) cs) (filter (is_open ps) cs)))
          ≡ ((b && list_any (same_name x) (private_names ps c)) || list_any (same_name x) (flat_map (private_names ps) (filter (is_open ps) cs)))
      go true = list_any-append (same_name x) (private_names ps c) (flat_map (private_names ps) (filter (is_open ps) cs))
      go false = refl

  -- and none is where no class body is open
  pub none_avoided : (cs : List ℕ) → list_any (is_open ps) cs ≡ false → open_names ps cs ≡ []
  unfolding open_names
  none_avoided [] h = refl
  none_avoided (c ∷ cs) h = go (is_open ps c) h (none_avoided cs)
    where
      go : (b : Bool) → (b || list_any (is_open ps) cs) ≡ false → (list_any (is_open ps) cs ≡ false → flat_map (private_names ps) (filter (is_open ps) cs) ≡ [])
          → flat_map (private_names ps) (cond b (c ∷ filter (is_open ps) cs) (filter (is_open ps) cs)) ≡ []
      go true e ih = absurd (both_ways _ e refl)
      go false e ih = ih e
