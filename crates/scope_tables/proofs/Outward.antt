-- Walks outwards by numbers answer as the definitions over scopes do.
use Rattle.std.specs.Prelude.{◌≡◌, ◌<◌, ◌≤◌, ℕ, zero, suc, Bool, true, false, not, ◌&&◌, ◌||◌, List, ◌∷◌, length, Option, Some, None, is_some}
use Rattle.std.proofs.Common.{refl, sym, ap, ◌∙◌, arith}
use Rattle.std.proofs.lemmas.Bool.{both_ways}
use Rattle.place_list.proofs.OutwardWalks.{how_far, lower, nearer, same_scope_is_number}
use Rattle.place_list.specs.Bounds.{IsBounded}
use Rattle.place_list.specs.Outwards.{same_number}
use Rattle.place_list.specs.TableViews.{list_view, lists_in, scope_at}
use Rattle.place_list.specs.Tables.{list_at}
use Rattle.place_list.specs.declared.tables.PlaceList.{PlaceList}
use Rattle.scope_rules.specs.Bindings.{or_else}
use Rattle.scope_tables.specs.Nearest.{any_before, nearest}
use Rattle.scope_tables.specs.Views.{IsScope}
use Rattle.scope_tables.proofs.Numbers.{Next, none_outside, scope_outwards}
use Rattle.tree_places.specs.Scopes.{Scope, any_below, first_outwards, same_scope}

first_step : (at : Scope → Option ℕ) (k : ℕ) (further : Scope) (o : Option ℕ) → at (k ∷ further) ≡ o → first_outwards at (k ∷ further) ≡ or_else o (first_outwards at further)
unfolding first_outwards or_else
first_step at k further None e = rw (e, first_outwards) refl
first_step at k further (Some x) e = rw (e, first_outwards) refl

module _ (l : PlaceList) (bounded : IsBounded (list_view l)) where
  -- ---- the first answer

  module _ (f : ℕ → Option ℕ) (at : Scope → Option ℕ) (same : (s : ℕ) → s < length l.scopes.items → f s ≡ at (scope_at l (Some s))) where
    first_by : (n : ℕ) (o : Option ℕ) → IsScope l o → how_far o ≤ n → nearest f (scope_at l o) ≡ first_outwards at (scope_at l o)
    unfolding nearest first_outwards
    first_by n None h b = ap (nearest f) (none_outside (lists_in l).scopes) ∙ sym (ap (first_outwards at) (none_outside (lists_in l).scopes))
    first_by zero (Some k) h b = absurd (omega (arith, b))
    first_by (suc n) (Some k) h b =
        let w : Next (scope_at l) k = scope_outwards l bounded k h in
        let line : scope_at l (Some k) ≡ k ∷ scope_at l w.0 = w.1.0 in
        let inner : how_far w.0 < suc k = nearer k w.0 w.1.1 in
        ap (nearest f) line
        ∙ ap (or_else (f k)) (first_by n w.0 (lower (length l.scopes.items) k w.0 h w.1.1) (omega (arith, inner, b)))
        ∙ sym (ap (first_outwards at) line ∙ first_step at k (scope_at l w.0) (f k) (sym (same k h ∙ ap at line)))

    pub nearest_is_first_outwards : (o : Option ℕ) → IsScope l o → nearest f (scope_at l o) ≡ first_outwards at (scope_at l o)
    nearest_is_first_outwards o h = first_by (how_far o) o h (omega arith)

  -- ---- whether one passes below a scope

  module _ (f : ℕ → Bool) (h : Option ℕ) (known : IsScope l h) (test : Scope → Bool) (same : (s : ℕ) → s < length l.scopes.items → f s ≡ test (scope_at l (Some s))) where
    below_by : (n : ℕ) (o : Option ℕ) → IsScope l o → how_far o ≤ n → any_before f h (scope_at l o) ≡ any_below test (scope_at l h) (scope_at l o)
    unfolding any_before any_below
    below_by n None i b = ap (any_before f h) (none_outside (lists_in l).scopes) ∙ sym (ap (any_below test (scope_at l h)) (none_outside (lists_in l).scopes))
    below_by zero (Some k) i b = absurd (omega (arith, b))
    below_by (suc n) (Some k) i b =
        let w : Next (scope_at l) k = scope_outwards l bounded k i in
        let line : scope_at l (Some k) ≡ k ∷ scope_at l w.0 = w.1.0 in
        let inner : how_far w.0 < suc k = nearer k w.0 w.1.1 in
        ap (any_before f h) line
        ∙ ap (λ (t : Bool). not (same_number (Some k) h) && (f k || t)) (below_by n w.0 (lower (length l.scopes.items) k w.0 i w.1.1) (omega (arith, inner, b)))
        ∙ ap (λ (t : Bool). not t && (f k || any_below test (scope_at l h) (scope_at l w.0)))
        (sym (ap (λ (s : Scope). same_scope s (scope_at l h)) (sym line) ∙ same_scope_is_number l (Some k) h i known))
        ∙ ap (λ (t : Bool). not (same_scope (k ∷ scope_at l w.0) (scope_at l h)) && (t || any_below test (scope_at l h) (scope_at l w.0))) (same k i ∙ ap test line)
        ∙ sym (ap (any_below test (scope_at l h)) line)

    pub before_is_below : (o : Option ℕ) → IsScope l o → any_before f h (scope_at l o) ≡ any_below test (scope_at l h) (scope_at l o)
    before_is_below o i = below_by (how_far o) o i (omega arith)

-- ---- a loop outwards: the whole answer is the one from here on

module _ (line : Option ℕ → List ℕ) (s : ℕ) (at further : Option ℕ) (here : at ≡ Some s) (outwards : line (Some s) ≡ s ∷ line further) where
  module _ (f : ℕ → Option ℕ) (whole : Option ℕ) (so_far : whole ≡ nearest f (line at)) where
    nearest_step : whole ≡ or_else (f s) (nearest f (line further))
    unfolding nearest
    nearest_step = so_far ∙ ap (λ (o : Option ℕ). nearest f (line o)) here ∙ ap (nearest f) outwards

    pub found_at : (o : Option ℕ) → o ≡ f s → is_some o ≡ true → o ≡ whole
    unfolding or_else
    found_at None p t = absurd (both_ways _ refl t)
    found_at (Some n) p t = sym (nearest_step ∙ ap (λ (o : Option ℕ). or_else o (nearest f (line further))) (sym p))

    pub go_on : (o : Option ℕ) → o ≡ f s → is_some o ≡ false → whole ≡ nearest f (line further)
    unfolding or_else
    go_on None p t = nearest_step ∙ ap (λ (o : Option ℕ). or_else o (nearest f (line further))) (sym p)
    go_on (Some n) p t = absurd (both_ways _ t refl)

  module _ (f : ℕ → Bool) (h : Option ℕ) (whole : Bool) (so_far : whole ≡ any_before f h (line at)) where
    before_step : whole ≡ (not (same_number (Some s) h) && (f s || any_before f h (line further)))
    unfolding any_before
    before_step = so_far ∙ ap (λ (o : Option ℕ). any_before f h (line o)) here ∙ ap (any_before f h) outwards

    pub at_the_home : same_number (Some s) h ≡ true → false ≡ whole
    at_the_home t = sym (before_step ∙ ap (λ (b : Bool). not b && (f s || any_before f h (line further))) t)

    pub passes_below : same_number (Some s) h ≡ false → f s ≡ true → true ≡ whole
    passes_below t p = sym (before_step ∙ ap (λ (b : Bool). not b && (f s || any_before f h (line further))) t ∙ ap (λ (b : Bool). b || any_before f h (line further)) p)

    pub goes_on : same_number (Some s) h ≡ false → f s ≡ false → whole ≡ any_before f h (line further)
    goes_on t p = before_step ∙ ap (λ (b : Bool). not b && (f s || any_before f h (line further))) t ∙ ap (λ (b : Bool). b || any_before f h (line further)) p

-- ---- its end

module _ (lists : List (List ℕ)) (at : Option ℕ) (ended : at ≡ None) where
  pub nearest_ends : (f : ℕ → Option ℕ) (whole : Option ℕ) → whole ≡ nearest f (list_at lists at) → None ≡ whole
  unfolding list_at nearest
  nearest_ends f whole so_far = sym (so_far ∙ ap (λ (o : Option ℕ). nearest f (list_at lists o)) ended)

  pub before_ends : (f : ℕ → Bool) (h : Option ℕ) (whole : Bool) → whole ≡ any_before f h (list_at lists at) → false ≡ whole
  unfolding list_at any_before
  before_ends f h whole so_far = sym (so_far ∙ ap (λ (o : Option ℕ). any_before f h (list_at lists o)) ended)
