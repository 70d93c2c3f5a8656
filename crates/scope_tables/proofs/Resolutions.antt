-- What is found out of a list speaks of all its places.
use Rattle.std.specs.Prelude.{◌≡◌, ℕ, Bool, ◌||◌, List, map, slice_get, Option, Some, IfSome}
use Rattle.std.proofs.Common.{sym, ap, subst, ◌∙◌}
use Rattle.place_list.proofs.PlacesStand.{numbers_are_known, read_at, stands_for_place}
use Rattle.place_list.specs.Bounds.{IsBounded}
use Rattle.place_list.specs.Names.{AreNumbered}
use Rattle.place_list.specs.TableViews.{entry_view, list_view, lists_in, place_in, places_in}
use Rattle.place_list.specs.Tables.{place_of}
use Rattle.place_list.specs.declared.tables.PlaceEntry.{PlaceEntry}
use Rattle.place_list.specs.declared.tables.PlaceList.{PlaceList}
use Rattle.std.proofs.lemmas.Simd.{map-map}
use Rattle.scope_rules.specs.Bindings.{Bound, binding, bindings, bound, same_name, shadower}
use Rattle.scope_rules.specs.Faults.{has_fault}
use Rattle.scope_tables.specs.FaultsOf.{AreFaults}
use Rattle.scope_tables.specs.Views.{AllStand, bound_of, bounds_of, places_of}
use Rattle.scope_tables.specs.declared.bound.BoundPlace.{BoundPlace}
use Rattle.scope_tables.specs.declared.faults.Faults.{Faults}
use Rattle.tree_nodes.specs.Tree.{Text}
use Rattle.tree_places.specs.Places.{Place}

pub all_stand : (l : PlaceList) → IsBounded (list_view l) → AreNumbered l.places.items → AllStand l l.places.items
all_stand l bounded numbered = record {
  stands = λ e i. record { bounded = bounded; known = numbers_are_known l i.0 e (read_at l.places.items i.0 e i.1 (sym i.2)) bounded };
  numbered = numbered;
}

pub all_places : (l : PlaceList) → places_of l l.places.items ≡ places_in l
all_places l = sym (map-map (place_of (lists_in l)) entry_view l.places.items)

-- the bindings in places that have their own
pub bindings_alone : (l : PlaceList) (bs : List BoundPlace) (ps : List Place) → bounds_of l bs ≡ bound same_name ps → map (λ b. b.binding) bs ≡ bindings same_name ps
unfolding bound bound_of bindings
bindings_alone l bs ps e =
    sym (map-map (λ (b : Bound Text). b.binding) (bound_of l) bs)
    ∙ ap (map (λ (b : Bound Text). b.binding)) e
    ∙ map-map (λ (b : Bound Text). b.binding) (λ (p : Place). record { place = p; binding = binding same_name ps p }) ps

five : {a b c d e a' b' c' d' e' : Bool} → a ≡ a' → b ≡ b' → c ≡ c' → d ≡ d' → e ≡ e' → (a || b || c || d || e) ≡ (a' || b' || c' || d' || e')
five {a} {b} {c} {d} {e} {a'} {b'} {c'} {d'} {e'} p q r s t =
    ap (λ (x : Bool). x || b || c || d || e) p ∙ ap (λ (x : Bool). a' || x || c || d || e) q ∙ ap (λ (x : Bool). a' || b' || x || d || e) r
    ∙ ap (λ (x : Bool). a' || b' || c' || x || e) s ∙ ap (λ (x : Bool). a' || b' || c' || d' || x) t

pub one_of_five : (ps : List Place) (f : Faults) → AreFaults ps f → (f.redeclaration || f.crossing || f.sloppy_function || f.undeclared || f.reach) ≡ has_fault same_name ps
unfolding has_fault
one_of_five ps f a = five a.redeclaration a.crossing a.sloppy_function a.undeclared a.reach

-- ---- of a whole list

pub faults_of_list : (l : PlaceList) (f : Faults) → AreFaults (places_of l l.places.items) f → AreFaults (places_in l) f
faults_of_list l f a = subst (λ (ps : List Place). AreFaults ps f) (all_places l) a

pub shadower_at : (l : PlaceList) (i : ℕ) (e : PlaceEntry) → slice_get l.places.items i ≡ Some e → (o : Option ℕ) → o ≡ shadower same_name (places_of l l.places.items) (place_in l e)
    → IfSome (slice_get (places_in l) i) (λ p. o ≡ shadower same_name (places_in l) p)
shadower_at l i e read o same =
    subst (λ (x : Option Place). IfSome x (λ p. o ≡ shadower same_name (places_in l) p)) (sym (stands_for_place l i e read))
    (same ∙ ap (λ (ps : List Place). shadower same_name ps (place_in l e)) (all_places l))
