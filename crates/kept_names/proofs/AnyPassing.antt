-- A loop that looks for an item that passes.
use Rattle.std.specs.Prelude.{◌≡◌, ◌+◌, ◌<◌, ◌≤◌, ℕ, Bool, true, false, ◌||◌, List, length, map, take, get_or}
use Rattle.std.specs.List.{list_any}
use Rattle.std.proofs.Common.{sym, ap, ◌∙◌, take_all}
use Rattle.std.proofs.lemmas.List.Folds.{list_any_at, list_any_more}
use Rattle.list_laws.proofs.AnyOf.{any_map}

module _ {X Y : Type 0} (view : X → Y) (test : Y → Bool) (all : List X) (i : ℕ) where
  pub passing_found : (e : X) → i < length all → test (view (get_or all i e)) ≡ true → true ≡ list_any test (map view all)
  passing_found e h t = sym (any_map view test all ∙ list_any_at (λ q. test (view q)) all i e h t)

  pub none_passes_further : (e : X) → i < length all → list_any (λ q. test (view q)) (take i all) ≡ false → test (view (get_or all i e)) ≡ false
      → list_any (λ q. test (view q)) (take (i + 1) all) ≡ false
  none_passes_further e h n t = list_any_more (λ q. test (view q)) all i e h ∙ ap (λ (b : Bool). b || test (view (get_or all i e))) n ∙ t

  pub none_passes : length all ≤ i → list_any (λ q. test (view q)) (take i all) ≡ false → false ≡ list_any test (map view all)
  none_passes h n = sym (any_map view test all ∙ ap (list_any (λ q. test (view q))) (sym (take_all i all h)) ∙ n)
