use Rattle.std.proofs.Common.{sym}
use Rattle.place_list.proofs.PlacesStand.{read_at}
use Rattle.scope_tables.proofs.Resolutions.{all_stand, shadower_at}
use Rattle.scope_tables.proofs.tables.ScopeTables.shadower.Goals as goal

pub shadower-requires : goal.shadower-requires
shadower-requires c =
    let l = c.args.self.now.list in
    (all_stand l c.requires.tables.bounded c.requires.tables.numbered).stands _ (c.args.i, c.requires.index, sym c.index.ensures)

pub returns : goal.returns
returns c =
    let l = c.args.self.now.list in
    shadower_at l c.args.i c.index.result.now (read_at l.places.items c.args.i c.index.result.now c.requires.index c.index.ensures) c.shadower.result
    (c.shadower.ensures l.places.items c.requires.tables.found.declarations (c.args.i, c.requires.index, sym c.index.ensures))
