-- The places of a list, each with what it is bound to.
use Rattle.std.specs.Prelude.{◌≡◌, ◌+◌, ◌<◌, ℕ, List, [], ◌∷◌, ◌++◌, length, map, take, get_or, slice_get, Option, Some, None}
use Rattle.std.proofs.Common.{sym, ap, ◌∙◌}
use Rattle.std.proofs.lemmas.List.{get_or_default, length-map, take_more}
use Rattle.std.proofs.lemmas.Option.{get_or_from_slice_get, slice_get_within}
use Rattle.list_laws.proofs.Tests.{some_one}
use Rattle.place_list.proofs.PlacesStand.{mapped_at, read_at}
use Rattle.place_list.specs.TableViews.{entry_view, lists_in, place_in, places_in}
use Rattle.place_list.specs.Tables.{place_of}
use Rattle.place_list.specs.declared.tables.PlaceEntry.{PlaceEntry}
use Rattle.place_list.specs.declared.tables.PlaceList.{PlaceList}
use Rattle.scope_rules.specs.Bindings.{binding, bindings, bound, same_name}
use Rattle.tree_places.specs.Places.{Place}

pub many_places : (l : PlaceList) → length (places_in l) ≡ length l.places.items
many_places l = length-map (map entry_view l.places.items) (place_of (lists_in l)) ∙ length-map l.places.items entry_view

pub many_bindings : (l : PlaceList) → length (bindings same_name (places_in l)) ≡ length l.places.items
unfolding bindings
many_bindings l = length-map (places_in l) (binding same_name (places_in l)) ∙ many_places l

pub many_bound : (l : PlaceList) → length (bound same_name (places_in l)) ≡ length l.places.items
unfolding bound
many_bound l = length-map (places_in l) (λ (p : Place). record { place = p; binding = binding same_name (places_in l) p }) ∙ many_places l

-- an entry with its binding stands for the place with its binding
pub bound_at : (l : PlaceList) (i : ℕ) (e : PlaceEntry) → slice_get (places_in l) i ≡ Some (place_in l e) → (bs : List (Option ℕ)) → bs ≡ bindings same_name (places_in l) → i < length bs
    → (b : Option ℕ) → b ≡ get_or bs i None → slice_get (bound same_name (places_in l)) i ≡ Some (record { place = place_in l e; binding = b })
unfolding bound bindings
bound_at l i e read bs are h b at =
    mapped_at (λ (p : Place). record { place = p; binding = binding same_name (places_in l) p }) (places_in l) i (place_in l e) read
    ∙ ap (λ (o : Option ℕ). Some (record { place = place_in l e; binding = o }))
    (some_one _ _ (sym (mapped_at (binding same_name (places_in l)) (places_in l) i (place_in l e) read) ∙ ap (λ (os : List (Option ℕ)). slice_get os i) (sym are) ∙ read_at bs i (get_or bs i None) h (sym (get_or_default bs i (get_or bs i None) None h))) ∙ sym at)

-- one item more
pub take_read : {X : Type 0} (xs : List X) (i : ℕ) (x : X) → slice_get xs i ≡ Some x → take (i + 1) xs ≡ take i xs ++ x ∷ []
take_read xs i x e = take_more xs i x (slice_get_within xs i x e) ∙ ap (λ y. take i xs ++ y ∷ []) (get_or_from_slice_get xs i x x e)
