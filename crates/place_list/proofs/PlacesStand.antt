-- What is known of an entry that is read out of a list of places.
use Rattle.std.proofs.Common.{◌≡◌, ◌<◌, ℕ, zero, suc, Bool, true, List, [], ◌∷◌, get_or, length, map, slice_get, Option, Some, None, IfSome, refl, sym, ap, subst, ◌∙◌, arith}
use Rattle.std.specs.List.{AllByRecursion}
use Rattle.std.proofs.lemmas.List.{length-map}
use Rattle.place_list.proofs.OutwardWalks.{same_is_number}
use Rattle.place_list.specs.Bounds.{HasVarScope, IsBelow, IsBounded, IsKnown}
use Rattle.place_list.specs.Outwards.{HaveVarScope, same_number}
use Rattle.place_list.specs.TableViews.{entry_view, list_view, class_parents, lists_in, place_in, places_in, scope_at, scope_parents, var_scopes}
use Rattle.place_list.specs.Tables.{Entry, place_of, setting_of, site_of}
use Rattle.place_list.specs.declared.tables.ClassEntry.{ClassEntry}
use Rattle.place_list.specs.declared.tables.HeadEntry.{HeadEntry}
use Rattle.place_list.specs.declared.tables.PlaceEntry.{PlaceEntry}
use Rattle.place_list.specs.declared.tables.PlaceList.{PlaceList}
use Rattle.place_list.specs.declared.tables.ScopeEntry.{ScopeEntry}
use Rattle.tree_nodes.proofs.Cases.{bytes_same}
use Rattle.tree_places.specs.Places.{Place}
use Rattle.tree_places.specs.Scopes.{same_scope}

pub read_at : {X : Type 0} (xs : List X) (i : ℕ) (x : X) → i < length xs → x ≡ get_or xs i x → slice_get xs i ≡ Some x
read_at [] i x h e = absurd (omega (arith, h))
read_at (y ∷ ys) zero x h e = let same : x ≡ y = e in ap Some (sym same)
read_at (y ∷ ys) (suc i) x h e = read_at ys i x (omega (arith, h)) e

pub mapped_at : {X Y : Type 0} (f : X → Y) (xs : List X) (i : ℕ) (x : X) → slice_get xs i ≡ Some x → slice_get (map f xs) i ≡ Some (f x)
mapped_at f [] i x e = absurd (cc)
mapped_at f (y ∷ ys) zero x e = let same : y ≡ x = cc in ap (λ z. Some (f z)) same
mapped_at f (y ∷ ys) (suc i) x e = mapped_at f ys i x e

pub all_at : {X : Type 0} (P : X → Type 0) (xs : List X) (i : ℕ) (x : X) → AllByRecursion P xs → slice_get xs i ≡ Some x → P x
all_at P [] i x a e = absurd (cc)
all_at P (y ∷ ys) zero x a e = let same : y ≡ x = cc in subst P same a.0
all_at P (y ∷ ys) (suc i) x a e = all_at P ys i x a.1 e

many_scopes : (l : PlaceList) → length (scope_parents l) ≡ length l.scopes.items
many_scopes l = length-map l.scopes.items (λ (y : ScopeEntry). y.parent)

-- the numbers outside, of entries that are read
pub parent_read : (l : PlaceList) (k : ℕ) (x : ScopeEntry) → k < length l.scopes.items → x ≡ get_or l.scopes.items k x → slice_get (scope_parents l) k ≡ Some x.parent
parent_read l k x h e = mapped_at (λ (y : ScopeEntry). y.parent) l.scopes.items k x (read_at l.scopes.items k x h e)

pub var_scope_read : (l : PlaceList) (k : ℕ) (x : ScopeEntry) → k < length l.scopes.items → x ≡ get_or l.scopes.items k x → slice_get (var_scopes l) k ≡ Some x.var_scope
var_scope_read l k x h e = mapped_at (λ (y : ScopeEntry). y.var_scope) l.scopes.items k x (read_at l.scopes.items k x h e)

below_same : (m n : ℕ) (o : Option ℕ) → m ≡ n → IsBelow m o → IsBelow n o
below_same m n o e h = subst (λ (k : ℕ). IsBelow k o) e h

pub var_scope_below : (l : PlaceList) → IsBounded (list_view l) → (k : ℕ) (x : ScopeEntry) → k < length l.scopes.items → x ≡ get_or l.scopes.items k x → IsBelow (length l.scopes.items) x.var_scope
var_scope_below l bounded k x h e =
    below_same (length (scope_parents l)) (length l.scopes.items) x.var_scope (many_scopes l)
    (all_at (λ (y : ScopeEntry). IsBelow (length (scope_parents l)) y.var_scope) l.scopes.items k x bounded.var_scope_numbers (read_at l.scopes.items k x h e))

pub class_read : (l : PlaceList) (k : ℕ) (x : ClassEntry) → k < length l.class_bodies.items → x ≡ get_or l.class_bodies.items k x → slice_get (class_parents l) k ≡ Some x.parent
class_read l k x h e = mapped_at (λ (y : ClassEntry). y.parent) l.class_bodies.items k x (read_at l.class_bodies.items k x h e)

pub head_scope_read : (l : PlaceList) (k : ℕ) (x : HeadEntry) → IsBounded (list_view l) → slice_get l.heads.items k ≡ Some x → x.scope < length l.scopes.items
head_scope_read l k x bounded e =
    let h : x.scope < length (scope_parents l) = all_at (λ (y : HeadEntry). y.scope < length (scope_parents l)) l.heads.items k x bounded.head_scopes e in
    omega (arith, many_scopes l, h)

module _ (l : PlaceList) (i : ℕ) (x : PlaceEntry) (e : slice_get l.places.items i ≡ Some x) where
  -- it stands for the place at its index
  pub stands_for_place : slice_get (places_in l) i ≡ Some (place_in l x)
  stands_for_place = mapped_at (place_of (lists_in l)) (map entry_view l.places.items) i (entry_view x) (mapped_at entry_view l.places.items i x e)

  -- its numbers are those of entries
  pub numbers_are_known : IsBounded (list_view l) → IsKnown (list_view l) x.setting
  numbers_are_known bounded = all_at (λ (y : Entry). IsKnown (list_view l) y.setting) (map entry_view l.places.items) i (entry_view x) bounded.places (mapped_at entry_view l.places.items i x e)

pub told_of_place : (l : PlaceList) (i : ℕ) (x : PlaceEntry) (b : Bool) → slice_get (places_in l) i ≡ Some (place_in l x) → b ≡ same_scope (scope_at l x.setting.scope) (scope_at l x.setting.var_scope)
    → IfSome (slice_get (places_in l) i) (λ p. b ≡ same_scope p.site.setting.scope p.site.setting.var_scope)
unfolding place_of site_of setting_of
told_of_place l i x b e t = subst (λ (o : Option Place). IfSome o (λ p. b ≡ same_scope p.site.setting.scope p.site.setting.var_scope)) (sym e) t

-- ---- the var scope of all places of a scope

below_scopes : (l : PlaceList) (k : ℕ) → k < length l.scopes.items → k < length (scope_parents l)
below_scopes l k h = omega (arith, many_scopes l, h)

number_is : (a b : Option ℕ) → same_number a b ≡ true → a ≡ b
unfolding same_number
number_is None None e = refl
number_is None (Some b) e = absurd (cc)
number_is (Some a) None e = absurd (cc)
number_is (Some a) (Some b) e = ap (λ (n : ℕ). Some n) (grind (arith, e))

same_lists : (xs ys : List ℕ) → xs ≡ ys → same_scope xs ys ≡ true
unfolding same_scope
same_lists xs ys e = ap (λ (zs : List ℕ). same_scope xs zs) (sym e) ∙ bytes_same xs

module _ (l : PlaceList) (bounded : IsBounded (list_view l)) (k : ℕ) (v : Option ℕ) (h : k < length l.scopes.items) (e : slice_get (var_scopes l) k ≡ Some v) where
  of_entry : (x : Entry) → IsKnown (list_view l) x.setting → (place_of (lists_in l) x).site.setting.scope ≡ scope_at l (Some k) → (place_of (lists_in l) x).site.setting.var_scope ≡ scope_at l v
  unfolding place_of site_of setting_of
  of_entry x known same =
      let scope : x.setting.scope ≡ Some k = number_is x.setting.scope (Some k) (sym (same_is_number (scope_parents l) x.setting.scope (Some k) known.scope (below_scopes l k h)) ∙ same_lists _ _ same) in
      let has : HasVarScope (var_scopes l) (Some k) x.setting.var_scope = subst (λ (o : Option ℕ). HasVarScope (var_scopes l) o x.setting.var_scope) scope known.has_var_scope in
      let v_is : x.setting.var_scope ≡ v = let both : Some x.setting.var_scope ≡ Some v = sym has ∙ e in cc in
      ap (scope_at l) v_is

  of_entries : (xs : List Entry) → AllByRecursion (λ (x : Entry). IsKnown (list_view l) x.setting) xs
      → AllByRecursion (λ p. p.site.setting.scope ≡ scope_at l (Some k) → p.site.setting.var_scope ≡ scope_at l v) (map (place_of (lists_in l)) xs)
  of_entries [] a = tt
  of_entries (x ∷ xs) a = (of_entry x a.0, of_entries xs a.1)

  pub have_var_scope : HaveVarScope l (Some k) v
  have_var_scope = of_entries (map entry_view l.places.items) bounded.places
