-- The names of all places that are unresolved are the unresolved names: one that is stands at some place.
use Rattle.std.specs.Prelude.{◌≡◌, ◌&&◌, ◌||◌, not, is_some, ℕ, Bool, true, false, List, [], ◌∷◌, map, bytes_eq}
use Rattle.std.specs.List.{list_any}
use Rattle.std.proofs.Common.{refl, sym, ap, ◌∙◌}
use Rattle.std.proofs.lemmas.Bool.{both_ways}
use Rattle.std.proofs.lemmas.Slice.Eq.{bytes_eq-Decides}
use Rattle.place_list.specs.TableViews.{entry_view, lists_in, places_in}
use Rattle.place_list.specs.Tables as tables
use Rattle.place_list.specs.declared.tables.PlaceEntry.{PlaceEntry}
use Rattle.place_list.specs.declared.tables.PlaceList.{PlaceList}
use Rattle.scope_rules.specs.Bindings.{binding, same_name}
use Rattle.scope_rules.specs.Homes.{refers}
use Rattle.scope_rules.specs.References.{is_unresolved}
use Rattle.tree_nodes.specs.Tree.{Text}
use Rattle.tree_places.specs.Places.{Place}
use Rattle.unresolved_names.specs.Noted.{is_noted}

-- under the name x a test of names is that of x
tested : (U : Text → Bool) (x y : Text) → (U y && bytes_eq x y) ≡ (U x && bytes_eq x y)
tested U x y = go (bytes_eq x y) refl
  where
    to_false : (b : Bool) → false ≡ (b && false)
    to_false true = refl
    to_false false = refl

    go : (b : Bool) → bytes_eq x y ≡ b → (U y && b) ≡ (U x && b)
    go true e = ap (λ (z : Text). U z && true) (sym ((bytes_eq-Decides x y).0 e))
    go false e = sym (to_false (U y)) ∙ to_false (U x)

any_tested : (U : Text → Bool) (x : Text) (es : List PlaceEntry) → list_any (λ e. U e.name.now && bytes_eq x e.name.now) es ≡ (U x && list_any (λ e. bytes_eq x e.name.now) es)
any_tested U x [] = to_false (U x)
  where
    to_false : (b : Bool) → false ≡ (b && false)
    to_false true = refl
    to_false false = refl
any_tested U x (e ∷ es) =
    ap (λ b. b || list_any (λ e. U e.name.now && bytes_eq x e.name.now) es) (tested U x e.name.now)
    ∙ ap (λ b. (U x && bytes_eq x e.name.now) || b) (any_tested U x es) ∙ joined (U x) (bytes_eq x e.name.now) _
  where
    joined : (a b c : Bool) → ((a && b) || (a && c)) ≡ (a && (b || c))
    joined true b c = refl
    joined false b c = refl

-- a place that is found by more has the name
named : (a b c r s : Bool) → (r ≡ true → s ≡ true) → ((a && b && c) || r) ≡ true → (c || s) ≡ true
named a b true r s f h = refl
named true true false r s f h = f h
named true false false r s f h = f h
named false b false r s f h = f h

-- an unresolved name stands at a place
stands : (l : PlaceList) (ps : List Place) (x : Text) (es : List PlaceEntry)
    → list_any (λ p. refers p.site && not (is_some (binding same_name ps p)) && same_name x p.name) (map (tables.place_of (lists_in l)) (map entry_view es)) ≡ true
    → list_any (λ e. bytes_eq x e.name.now) es ≡ true
unfolding same_name tables.place_of
stands l ps x [] h = h
stands l ps x (e ∷ es) h = named (refers (tables.place_of (lists_in l) (entry_view e)).site) (not (is_some (binding same_name ps (tables.place_of (lists_in l) (entry_view e))))) (bytes_eq x e.name.now) _ _ (stands l ps x es) h

pub noted_names_are_unresolved : (l : PlaceList) (x : Text) → list_any (λ e. is_noted (places_in l) x e.name.now) l.places.items ≡ is_unresolved same_name (places_in l) x
unfolding is_noted same_name is_unresolved
noted_names_are_unresolved l x = any_tested (is_unresolved same_name (places_in l)) x l.places.items ∙ settled (is_unresolved same_name (places_in l) x) _ (stands l (places_in l) x l.places.items)
  where
    settled : (a b : Bool) → (a ≡ true → b ≡ true) → (a && b) ≡ a
    settled true b f = f refl
    settled false b f = refl
