use Rattle.std.specs.Prelude.{◌≡◌, ◌&&◌, Bool, List, None, Option, false, get_or, length, map, ℕ}
use Rattle.std.proofs.Common.{ap, arith, sym, ◌∙◌}
use Rattle.std.proofs.lemmas.Option.{get_or_from_slice_get}
use Rattle.scope_tables.proofs.BoundPlaces.{many_bindings}
use Rattle.place_list.proofs.PlacesStand.{mapped_at}
use Rattle.place_list.specs.TableViews.{place_in, places_in}
use Rattle.place_list.specs.Tables.{place_of, site_of}
use Rattle.scope_rules.specs.Bindings.{binding, bindings, is_node, node, same_name}
use Rattle.scope_rules.specs.Homes.{declares}
use Rattle.scope_rules.specs.Symbols as symbols
use Rattle.symbol_names.proofs.by_symbol.is_symbol.Goals as goal

pub binding_at-binding-requires : goal.binding_at-binding-requires
binding_at-binding-requires c = let l = c.args.tables.now.list in omega (arith, ap length c.bindings-bindings.ensures, many_bindings l, c.requires.index)

pub returns : goal.returns
unfolding symbols.is_symbol bindings node place_of site_of
returns c =
    let l = c.args.tables.now.list in
    let ps = places_in l in
    let p = place_in l c.place-place.result in
    c.is_own.ensures l
    ∙ ap (λ (b : Option ℕ). declares p.site && is_node b (node p))
    (c.binding_at-binding.ensures ∙ ap (λ (bs : List (Option ℕ)). get_or bs c.args.i None) c.bindings-bindings.ensures
    ∙ get_or_from_slice_get (map (binding same_name ps) ps) c.args.i (binding same_name ps p) None (mapped_at (binding same_name ps) ps c.args.i p c.place-place.ensures.stands))
    ∙ sym (get_or_from_slice_get (map (symbols.is_symbol same_name ps) ps) c.args.i (symbols.is_symbol same_name ps p) false (mapped_at (symbols.is_symbol same_name ps) ps c.args.i p c.place-place.ensures.stands))
