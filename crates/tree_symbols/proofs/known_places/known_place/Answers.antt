use Rattle.std.specs.Prelude.{None}
use Rattle.tree_symbols.proofs.KnownPlaces.{is_known}
use Rattle.tree_symbols.proofs.known_places.known_place.Goals as goal

pub returns-clause-known : goal.returns-clause-known
returns-clause-known c =
    is_known c.args.tables.now.list c.requires.tables.bounded c.requires.tables.numbered c.args.i _ c.requires.index c.index-place.ensures c.bindings.result.now None c.shadower-shadower.result c.number_or_none-binding.result
    c.is_some.result c.bindings.ensures c.number_or_none-binding.ensures c.shadower-shadower.ensures c.is_some.ensures
