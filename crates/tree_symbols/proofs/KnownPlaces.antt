-- What is known of the place at an index, and of one place after another.
use Rattle.std.specs.Prelude.{◌≡◌, ◌+◌, ◌<◌, ℕ, Bool, List, [], ◌∷◌, ◌++◌, length, map, take, get_or, slice_get, Option, Some, IfSome, is_some}
use Rattle.std.proofs.Common.{sym, ap, ◌∙◌, subst}
use Rattle.std.proofs.lemmas.List.{get_or_default, length-map, map_push, take_more}
use Rattle.list_laws.proofs.Tests.{some_one}
use Rattle.place_list.proofs.PlacesStand.{mapped_at, read_at, stands_for_place}
use Rattle.place_list.specs.Bounds.{IsBounded}
use Rattle.place_list.specs.Names.{AreNumbered}
use Rattle.place_list.specs.TableViews.{entry_view, list_view, lists_in, place_in, places_in}
use Rattle.place_list.specs.Tables.{place_of}
use Rattle.place_list.specs.declared.tables.PlaceEntry.{PlaceEntry}
use Rattle.place_list.specs.declared.tables.PlaceList.{PlaceList}
use Rattle.scope_rules.specs.Bindings.{binding, bindings, same_name, shadower}
use Rattle.scope_tables.proofs.Numbers.{home_is_known, scope_is_known}
use Rattle.scope_tables.proofs.Resolutions.{all_stand}
use Rattle.scope_tables.specs.Views as entries
use Rattle.scope_tables.specs.Views.{Stands}
use Rattle.tree_places.specs.Places.{Place}
use Rattle.tree_symbols.specs.Known.{IsKnown, home_number}
use Rattle.tree_symbols.specs.declared.known.KnownPlace.{KnownPlace}

pub bindings_count : (l : PlaceList) (bs : List (Option ℕ)) → bs ≡ bindings same_name (places_in l) → length bs ≡ length l.places.items
unfolding bindings
bindings_count l bs is =
    ap length is ∙ length-map (places_in l) (binding same_name (places_in l)) ∙ length-map (map entry_view l.places.items) (place_of (lists_in l)) ∙ length-map l.places.items entry_view

module _ (l : PlaceList) (bounded : IsBounded (list_view l)) (numbered : AreNumbered l.places.items) (i : ℕ) (e : PlaceEntry) (h : i < length l.places.items) (read : e ≡ get_or l.places.items i e) where
  stands : Stands l e
  stands = (all_stand l bounded numbered).stands e (i, h, sym read)

  place_at : slice_get (places_in l) i ≡ Some (place_in l e)
  place_at = stands_for_place l i e (read_at l.places.items i e h read)

  binding_read : (bs : List (Option ℕ)) (d : Option ℕ) → bs ≡ bindings same_name (places_in l) → get_or bs i d ≡ binding same_name (places_in l) (place_in l e)
  unfolding bindings
  binding_read bs d is =
      let inside : i < length bs = subst (λ (n : ℕ). i < n) (sym (bindings_count l bs is)) h in
      let there : slice_get bs i ≡ Some (get_or bs i d) = read_at bs i (get_or bs i d) inside (sym (get_or_default bs i (get_or bs i d) d inside)) in
      some_one _ _ (sym there ∙ ap (λ (cs : List (Option ℕ)). slice_get cs i) is ∙ mapped_at (binding same_name (places_in l)) (places_in l) i (place_in l e) place_at)

  shadower_read : (o : Option ℕ) → IfSome (slice_get (places_in l) i) (λ p. o ≡ shadower same_name (places_in l) p) → o ≡ shadower same_name (places_in l) (place_in l e)
  shadower_read o told = subst (λ (x : Option Place). IfSome x (λ p. o ≡ shadower same_name (places_in l) p)) place_at told

  pub is_known : (bs : List (Option ℕ)) (d o b : Option ℕ) (t : Bool) → bs ≡ bindings same_name (places_in l) → b ≡ get_or bs i d
      → IfSome (slice_get (places_in l) i) (λ p. o ≡ shadower same_name (places_in l) p) → t ≡ is_some o
      → IsKnown l (places_in l) (record { place = e; binding = b; shadowed = t })
  unfolding home_number entries.home_number
  is_known bs d o b t is found told some = record {
    binding_is = found ∙ binding_read bs d is;
    shadowed_is = some ∙ ap is_some (shadower_read o told);
    scope = scope_is_known l e stands;
    home = home_is_known l e stands;
  }

pub places_more : (es : List PlaceEntry) (ks more : List KnownPlace) (k : KnownPlace) (i : ℕ) → i < length es → map (λ (j : KnownPlace). j.place) ks ≡ take i es
    → k.place ≡ get_or es i k.place → more ≡ ks ++ k ∷ [] → map (λ (j : KnownPlace). j.place) more ≡ take (i + 1) es
places_more es ks more k i h so_far read pushed =
    ap (map (λ (j : KnownPlace). j.place)) pushed
    ∙ map_push (λ (j : KnownPlace). j.place) ks k
    ∙ ap (λ (fs : List PlaceEntry). fs ++ k.place ∷ []) so_far
    ∙ ap (λ (e : PlaceEntry). take i es ++ e ∷ []) read
    ∙ sym (take_more es i k.place h)
