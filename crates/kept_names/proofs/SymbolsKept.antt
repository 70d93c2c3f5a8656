-- The symbols among places, one place after another.
use Rattle.std.specs.Prelude.{◌≡◌, ◌+◌, ◌<◌, ℕ, Bool, List, [], ◌∷◌, ◌++◌, filter, length, map, take, get_or}
use Rattle.std.proofs.Common.{sym, ap, ◌∙◌}
use Rattle.std.proofs.lemmas.List.{map-append, map_more}
use Rattle.std.proofs.lemmas.List.Elements.{filter-append}
use Rattle.std.proofs.lemmas.Simd.{map-map}
use Rattle.kept_names.specs.NamesKept.{symbols_kept}
use Rattle.list_laws.proofs.Filtered.{filter_map_before}
use Rattle.name_rules.specs.Kept.{name_kept}
use Rattle.name_rules.specs.Options.{Options}
use Rattle.scope_rules.specs.Bindings.{Bound, binding, bound, is_binding, same_name}
use Rattle.scope_rules.specs.Symbols.{is_symbol, symbols}
use Rattle.tree_nodes.specs.Tree.{Text}
use Rattle.tree_places.specs.Places.{Place}

-- of one more item what is said of those that pass
pub passing_more : {X Y Z : Type 0} (view : X → Y) (test : Y → Bool) (f : Y → Z) (xs : List X) (i : ℕ) (d : X) → i < length xs → (ys zs : List Z) → ys ≡ map f (filter test (map view (take i xs)))
    → zs ≡ ys ++ map f (filter test (view (get_or xs i d) ∷ [])) → zs ≡ map f (filter test (map view (take (i + 1) xs)))
passing_more view test f xs i d h ys zs so_far one =
    one
    ∙ ap (λ ws. ws ++ map f (filter test (view (get_or xs i d) ∷ []))) so_far
    ∙ sym (map-append f (filter test (map view (take i xs))) (filter test (view (get_or xs i d) ∷ [])))
    ∙ ap (map f) (sym (filter-append test (map view (take i xs)) (view (get_or xs i d) ∷ [])))
    ∙ ap (λ ws. map f (filter test ws)) (sym (map_more view xs i d h))

abbrev as_bound : List Place → Place → Bound Text
as_bound ps p = record { place = p; binding = binding same_name ps p }

-- the symbols are the places that are their own bindings
pub symbols_told : (o : Options) (ps : List Place) → map (name_kept o (bound same_name ps)) (filter is_binding (bound same_name ps)) ≡ symbols_kept o ps
unfolding symbols_kept symbols bound is_binding is_symbol
symbols_told o ps =
    ap (map (name_kept o (bound same_name ps))) (filter_map_before (as_bound ps) is_binding ps)
    ∙ map-map (name_kept o (bound same_name ps)) (as_bound ps) (symbols same_name ps)
