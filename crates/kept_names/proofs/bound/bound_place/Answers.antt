use Rattle.std.specs.Prelude.{◌≡◌, ◌<◌, Option, IfSome, length, ℕ, List}
use Rattle.std.proofs.Common.{ap, arith, subst}
use Rattle.scope_tables.proofs.BoundPlaces.{bound_at, many_bindings}
use Rattle.kept_names.specs.Views.{bound_of}
use Rattle.place_list.specs.TableViews.{places_in}
use Rattle.scope_rules.specs.Bindings.{same_name, shadower}
use Rattle.tree_places.specs.Places.{Place}
use Rattle.kept_names.proofs.bound.bound_place.Goals as goal

pub binding_at-requires : goal.binding_at-requires
binding_at-requires c = let l = c.args.tables.now.list in omega (arith, ap length c.bindings-bindings.ensures, many_bindings l, c.requires.index)

pub returns-clause-bound : goal.returns-clause-bound
unfolding bound_of
returns-clause-bound c =
    let l = c.args.tables.now.list in
    let bs : List (Option ℕ) = c.bindings-bindings.result.now in
    let h : c.args.i < length bs = omega (arith, ap length c.bindings-bindings.ensures, many_bindings l, c.requires.index) in
    bound_at l c.args.i c.place-place.result c.place-place.ensures.stands bs c.bindings-bindings.ensures h c.binding_at.result c.binding_at.ensures

pub returns-clause-shadowed : goal.returns-clause-shadowed
returns-clause-shadowed c =
    let ps = places_in c.args.tables.now.list in
    subst (λ (o : Option Place). IfSome o (λ p. c.shadower.result ≡ shadower same_name ps p)) c.place-place.ensures.stands c.shadower.ensures

pub returns-clause-stands : goal.returns-clause-stands
returns-clause-stands c = record { bounded = c.requires.tables.bounded; known = c.place-place.ensures.known }
