-- The first places of private names in class bodies, one place after another, and the nearest of them.
use Rattle.std.specs.Prelude.{◌≡◌, ◌+◌, ◌<◌, ℕ, suc, Bool, true, false, not, ◌&&◌, nat_eq, List, [], ◌∷◌, length, take, map, get_or, find, Option, Some, None, if◌then◌else◌, bytes_eq}
use Rattle.std.specs.List.{Contains}
use Rattle.std.proofs.Common.{refl, sym, ap, ◌∙◌}
use Rattle.std.proofs.lemmas.List.{map-append, take_more}
use Rattle.tree_nodes.specs.Tree.{Text}
use Rattle.tree_places.specs.Places.{Place}
use Rattle.scope_rules.specs.Bindings.{is_node, node, node_of, or_else, same_name}
use Rattle.scope_rules.specs.PrivateNames.{declares_private, declares_private_name, is_innermost, private_binder}
use Rattle.place_list.specs.Names.{AreNumbered}
use Rattle.scope_tables.specs.Nearest.{nearest}
use Rattle.place_list.specs.Bounds.{IsBelow, IsBounded}
use Rattle.place_list.specs.TableViews.{classes_at, list_view, lists_in, place_in}
use Rattle.place_list.specs.Tables.{place_of, site_of}
use Rattle.scope_tables.specs.Views.{places_of, site_in}
use Rattle.scope_tables.proofs.Numbers.{Next, class_outwards, next_numbers, none_outside}
use Rattle.place_list.specs.declared.tables.PlaceEntry.{PlaceEntry}
use Rattle.place_list.specs.declared.tables.PlaceList.{PlaceList}
use Rattle.scope_tables.proofs.FirstPlaces.{contains_at, find_after, or_nothing}

module _ (l : PlaceList) (all : List PlaceEntry) (numbered : AreNumbered all) (m : ℕ → ℕ → Option ℕ) (i : ℕ) (e : PlaceEntry) (within : i < length all)
    (so_far : (c : ℕ) (q : PlaceEntry) → Contains all q → m (suc c) q.name_number ≡ node_of (find (declares_private_name same_name q.name.now c) (places_of l (take i all))))
    (o : Option ℕ) (told : (c : ℕ) → is_node o c ≡ declares_private c (site_in l (get_or all i e))) where
  -- with the place at i
  one_more : (c : ℕ) (q : PlaceEntry) → Contains all q → node_of (find (declares_private_name same_name q.name.now c) (places_of l (take (i + 1) all)))
      ≡ or_else (m (suc c) q.name_number) (if is_node o c && nat_eq (get_or all i e).name_number q.name_number then Some (get_or all i e).node else None)
  unfolding declares_private_name place_of site_of node same_name
  one_more c q j =
      let test : Place → Bool = declares_private_name same_name q.name.now c in
      ap (λ ps. node_of (find test ps)) (ap (map (place_in l)) (take_more all i e within) ∙ map-append (place_in l) (take i all) (get_or all i e ∷ []))
      ∙ find_after test (places_of l (take i all)) (place_in l (get_or all i e))
      ∙ ap (λ r. or_else r (if test (place_in l (get_or all i e)) then Some (get_or all i e).node else None)) (sym (so_far c q j))
      ∙ ap (λ (b : Bool). or_else (m (suc c) q.name_number) (if b && bytes_eq (get_or all i e).name.now q.name.now then Some (get_or all i e).node else None)) (sym (told c))
      ∙ ap (λ (b : Bool). or_else (m (suc c) q.name_number) (if is_node o c && b then Some (get_or all i e).node else None)) (sym (numbered (get_or all i e) q (contains_at all i e within) j))

  pub private_put : (k : ℕ) → o ≡ Some k → (h n : ℕ) → h ≡ suc k → n ≡ (get_or all i e).name_number
      → (m' : ℕ → ℕ → Option ℕ) → ((c x : ℕ) → m' c x ≡ or_else (m c x) (if nat_eq h c && nat_eq n x then Some (get_or all i e).node else None))
      → (c : ℕ) (q : PlaceEntry) → Contains all q → m' (suc c) q.name_number ≡ node_of (find (declares_private_name same_name q.name.now c) (places_of l (take (i + 1) all)))
  unfolding is_node
  private_put k s h n is_class is_name m' put c q j =
      put (suc c) q.name_number
      ∙ ap (λ (b : ℕ). or_else (m (suc c) q.name_number) (if nat_eq b (suc c) && nat_eq n q.name_number then Some (get_or all i e).node else None)) is_class
      ∙ ap (λ (b : ℕ). or_else (m (suc c) q.name_number) (if nat_eq (suc k) (suc c) && nat_eq b q.name_number then Some (get_or all i e).node else None)) is_name
      ∙ ap (λ (b : Bool). or_else (m (suc c) q.name_number) (if b && nat_eq (get_or all i e).name_number q.name_number then Some (get_or all i e).node else None)) (next_numbers k c)
      ∙ sym (one_more c q j ∙ ap (λ p. or_else (m (suc c) q.name_number) (if is_node p c && nat_eq (get_or all i e).name_number q.name_number then Some (get_or all i e).node else None)) s)

  pub private_passed : o ≡ None
      → (c : ℕ) (q : PlaceEntry) → Contains all q → m (suc c) q.name_number ≡ node_of (find (declares_private_name same_name q.name.now c) (places_of l (take (i + 1) all)))
  unfolding is_node
  private_passed s c q j =
      sym (or_nothing (m (suc c) q.name_number))
      ∙ sym (one_more c q j ∙ ap (λ p. or_else (m (suc c) q.name_number) (if is_node p c && nat_eq (get_or all i e).name_number q.name_number then Some (get_or all i e).node else None)) s)

-- ---- the nearest

-- where two answer alike
pub nearest_alike : (f g : ℕ → Option ℕ) → ((c : ℕ) → f c ≡ g c) → (cs : List ℕ) → nearest f cs ≡ nearest g cs
unfolding nearest
nearest_alike f g same [] = refl
nearest_alike f g same (c ∷ cs) = ap (λ o. or_else o (nearest f cs)) (same c) ∙ ap (or_else (g c)) (nearest_alike f g same cs)

pub nearest_is_private_binder : (ps : List Place) (x : Text) (cs : List ℕ) → nearest (λ c. node_of (find (declares_private_name same_name x c) ps)) cs ≡ private_binder same_name ps x cs
unfolding nearest private_binder or_else
nearest_is_private_binder ps x [] = refl
nearest_is_private_binder ps x (c ∷ cs) = go (node_of (find (declares_private_name same_name x c) ps)) (nearest_is_private_binder ps x cs)
  where
    go : (o : Option ℕ) → nearest (λ k. node_of (find (declares_private_name same_name x k) ps)) cs ≡ private_binder same_name ps x cs
        → or_else o (nearest (λ k. node_of (find (declares_private_name same_name x k) ps)) cs) ≡ elim o as (λ _. Option ℕ) [ Some n ↦ Some n | None ↦ private_binder same_name ps x cs ]
    go None ih = ih
    go (Some n) ih = refl

-- the innermost class body is the one from which they go outwards
pub innermost_is_first : (l : PlaceList) (bounded : IsBounded (list_view l)) (o : Option ℕ) → IsBelow (length l.class_bodies.items) o → (c : ℕ) → is_innermost c (classes_at l o) ≡ is_node o c
unfolding is_innermost is_node
innermost_is_first l bounded None h c = ap (is_innermost c) (none_outside (lists_in l).class_bodies)
innermost_is_first l bounded (Some k) h c = let w : Next (classes_at l) k = class_outwards l bounded k h in ap (is_innermost c) w.1.0

pub not_flips : (r b : Bool) → b ≡ not r → r ≡ not b
not_flips true b e = sym (ap not e)
not_flips false b e = sym (ap not e)
