use Rattle.place_list.proofs.OutwardWalks.{line_outwards, outer_below}
use Rattle.place_list.proofs.PlacesStand.{parent_read}
use Rattle.place_list.specs.TableViews.{scope_parents}
use Rattle.place_list.proofs.tables.PlaceList.parent.Goals as goal

pub returns-clause-outwards : goal.returns-clause-outwards
returns-clause-outwards c =
    let l = c.args.self.now in
    line_outwards (scope_parents l) c.requires.bounded.scopes c.args.scope c.index.result.now.parent (parent_read l c.args.scope c.index.result.now c.requires.scope c.index.ensures)

pub returns-clause-below : goal.returns-clause-below
returns-clause-below c =
    let l = c.args.self.now in
    outer_below (scope_parents l) c.requires.bounded.scopes c.args.scope c.index.result.now.parent (parent_read l c.args.scope c.index.result.now c.requires.scope c.index.ensures)
