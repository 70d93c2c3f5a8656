-- The numbers of scopes, class bodies and heads in an entry, and scopes by their numbers.
use Rattle.std.specs.Prelude.{◌≡◌, ◌<◌, ℕ, zero, suc, Bool, true, false, nat_eq, List, [], ◌∷◌, length, slice_get, Option, Some, None, if◌then◌else◌}
use Rattle.std.proofs.Common.{refl, sym, ap, ◌∙◌, subst, arith}
use Rattle.std.proofs.Math.Dec.{eqb-suc-zero, eqb-zero-suc}
use Rattle.std.proofs.lemmas.Bool.{both_ways, eq-eqb, eqb-true}
use Rattle.std.proofs.lemmas.List.{length-map}
use Rattle.place_list.proofs.OutwardWalks.{line_outwards, outer_below, same_scope_is_number}
use Rattle.place_list.specs.Bounds.{IsBelow, IsBounded}
use Rattle.place_list.specs.Outwards.{same_number}
use Rattle.place_list.specs.TableViews.{class_parents, classes_at, list_view, scope_at, scope_parents}
use Rattle.place_list.specs.Tables.{list_at, setting_of, site_of}
use Rattle.place_list.specs.declared.tables.ClassEntry.{ClassEntry}
use Rattle.place_list.specs.declared.tables.PlaceEntry.{PlaceEntry}
use Rattle.place_list.specs.declared.tables.PlaceList.{PlaceList}
use Rattle.place_list.specs.declared.tables.ScopeEntry.{ScopeEntry}
use Rattle.scope_rules.specs.Homes.{home, is_var}
use Rattle.scope_tables.specs.Keys.{number_from}
use Rattle.scope_tables.specs.Views.{IsScope, Stands, home_number, site_in}
use Rattle.tree_places.specs.Scopes.{same_scope}

pub next_numbers : (a b : ℕ) → nat_eq (suc a) (suc b) ≡ nat_eq a b
next_numbers a b = go _ refl _ refl
  where
    go : (t : Bool) → nat_eq (suc a) (suc b) ≡ t → (u : Bool) → nat_eq a b ≡ u → t ≡ u
    go true p true q = refl
    go false p false q = refl
    go true p false q = absurd (both_ways _ q (eq-eqb a b (let e : suc a ≡ suc b = eqb-true (suc a) (suc b) p in omega (arith, e))))
    go false p true q = absurd (both_ways _ p (eq-eqb (suc a) (suc b) (ap (λ (n : ℕ). suc n) (eqb-true a b q))))

pub same_numbers : (a b : Option ℕ) → nat_eq (number_from a) (number_from b) ≡ same_number a b
unfolding number_from same_number
same_numbers None None = refl
same_numbers None (Some b) = eqb-zero-suc b
same_numbers (Some a) None = eqb-suc-zero a
same_numbers (Some a) (Some b) = next_numbers a b

pub same_scopes : (l : PlaceList) (a b : Option ℕ) → IsScope l a → IsScope l b → same_scope (scope_at l a) (scope_at l b) ≡ nat_eq (number_from a) (number_from b)
same_scopes l a b h g = same_scope_is_number l a b h g ∙ sym (same_numbers a b)

-- ---- what is next outwards

entry_at : {X : Type 0} (xs : List X) (k : ℕ) → k < length xs → (x : X) × (slice_get xs k ≡ Some x)
entry_at [] k h = absurd (omega (arith, h))
entry_at (x ∷ xs) zero h = (x, refl)
entry_at (x ∷ xs) (suc k) h = entry_at xs k (omega (arith, h))

abbrev pub Next : (Option ℕ → List ℕ) → ℕ → Type 0
Next line k = (p : Option ℕ) × ((line (Some k) ≡ k ∷ line p) × IsBelow k p)

module _ (l : PlaceList) (bounded : IsBounded (list_view l)) (k : ℕ) where
  pub scope_outwards : k < length l.scopes.items → Next (scope_at l) k
  scope_outwards h =
      let many : length (scope_parents l) ≡ length l.scopes.items = length-map l.scopes.items (λ (e : ScopeEntry). e.parent) in
      let w : (p : Option ℕ) × (slice_get (scope_parents l) k ≡ Some p) = entry_at (scope_parents l) k (omega (arith, many, h)) in
      (w.0, (line_outwards (scope_parents l) bounded.scopes k w.0 w.1, outer_below (scope_parents l) bounded.scopes k w.0 w.1))

  pub class_outwards : k < length l.class_bodies.items → Next (classes_at l) k
  class_outwards h =
      let many : length (class_parents l) ≡ length l.class_bodies.items = length-map l.class_bodies.items (λ (e : ClassEntry). e.parent) in
      let w : (p : Option ℕ) × (slice_get (class_parents l) k ≡ Some p) = entry_at (class_parents l) k (omega (arith, many, h)) in
      (w.0, (line_outwards (class_parents l) bounded.class_bodies k w.0 w.1, outer_below (class_parents l) bounded.class_bodies k w.0 w.1))

-- outside is nothing
pub none_outside : (lists : List (List ℕ)) → list_at lists None ≡ []
unfolding list_at
none_outside lists = refl

-- ---- the numbers of an entry

module _ (l : PlaceList) (e : PlaceEntry) (s : Stands l e) where
  many_scopes : length (scope_parents l) ≡ length l.scopes.items
  many_scopes = length-map l.scopes.items (λ (x : ScopeEntry). x.parent)

  pub scope_is_known : IsScope l e.setting.scope
  scope_is_known = subst (λ (n : ℕ). IsBelow n e.setting.scope) many_scopes s.known.scope

  pub var_scope_is_known : IsScope l e.setting.var_scope
  var_scope_is_known = subst (λ (n : ℕ). IsBelow n e.setting.var_scope) many_scopes s.known.var_scope

  pub class_is_known : IsBelow (length l.class_bodies.items) e.setting.class_body
  class_is_known = subst (λ (n : ℕ). IsBelow n e.setting.class_body) (length-map l.class_bodies.items (λ (x : ClassEntry). x.parent)) s.known.class_body

  pub head_is_known : IsBelow (length l.heads.items) e.setting.head
  head_is_known = s.known.head

  pub home_is_known : IsScope l (home_number e)
  unfolding home_number
  home_is_known = go (is_var e.setting.role)
    where
      go : (b : Bool) → IsScope l (if b then e.setting.var_scope else e.setting.scope)
      go true = var_scope_is_known
      go false = scope_is_known

pub home_at : (l : PlaceList) (e : PlaceEntry) → scope_at l (home_number e) ≡ home (site_in l e)
unfolding home_number home site_of setting_of
home_at l e = go (is_var e.setting.role)
  where
    go : (b : Bool) → scope_at l (if b then e.setting.var_scope else e.setting.scope) ≡ (if b then scope_at l e.setting.var_scope else scope_at l e.setting.scope)
    go true = refl
    go false = refl
