use Rattle.std.specs.Prelude.{◌<◌, List, Option, length, ℕ}
use Rattle.std.proofs.Common.{ap, arith, sym}
use Rattle.place_list.proofs.PlacesStand.{read_at, stands_for_place}
use Rattle.scope_tables.proofs.BoundPlaces.{bound_at, many_bindings}
use Rattle.scope_tables.specs.Views.{bound_of}
use Rattle.scope_tables.proofs.Resolutions.{all_stand}
use Rattle.scope_tables.proofs.bound.bound_place.Goals as goal

pub binding_at-requires : goal.binding_at-requires
binding_at-requires c = let l = c.args.tables.now.list in omega (arith, ap length c.bindings-bindings.ensures, many_bindings l, c.requires.index)

pub returns-clause-place : goal.returns-clause-place
returns-clause-place c =
    let l = c.args.tables.now.list in
    stands_for_place l c.args.i c.index-place.result.now (read_at l.places.items c.args.i c.index-place.result.now c.requires.index c.index-place.ensures)

pub returns-clause-bound : goal.returns-clause-bound
unfolding bound_of
returns-clause-bound c =
    let l = c.args.tables.now.list in
    let bs : List (Option ℕ) = c.bindings-bindings.result.now in
    let h : c.args.i < length bs = omega (arith, ap length c.bindings-bindings.ensures, many_bindings l, c.requires.index) in
    bound_at l c.args.i c.index-place.result.now (stands_for_place l c.args.i c.index-place.result.now (read_at l.places.items c.args.i c.index-place.result.now c.requires.index c.index-place.ensures))
    bs c.bindings-bindings.ensures h c.binding_at.result c.binding_at.ensures

pub returns-clause-listed : goal.returns-clause-listed
returns-clause-listed c = (c.args.i, c.requires.index, sym c.index-place.ensures)

pub returns-clause-stands : goal.returns-clause-stands
returns-clause-stands c =
    let l = c.args.tables.now.list in
    (all_stand l c.requires.tables.bounded c.requires.tables.numbered).stands _ (c.args.i, c.requires.index, sym c.index-place.ensures)
