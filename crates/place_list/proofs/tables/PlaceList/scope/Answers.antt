use Rattle.place_list.proofs.PlacesStand.{mapped_at, read_at}
use Rattle.place_list.specs.TableViews.{scope_node_in}
use Rattle.place_list.proofs.tables.PlaceList.scope.Goals as goal

pub returns : goal.returns
returns c =
    let l = c.args.self.now in
    mapped_at (scope_node_in l) l.scopes.items c.args.scope c.index.result.now (read_at l.scopes.items c.args.scope c.index.result.now c.requires.scope c.index.ensures)
