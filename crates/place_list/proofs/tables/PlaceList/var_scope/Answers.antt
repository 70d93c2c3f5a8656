use Rattle.place_list.proofs.PlacesStand.{have_var_scope, var_scope_below, var_scope_read}
use Rattle.place_list.proofs.tables.PlaceList.var_scope.Goals as goal

pub returns-clause-places : goal.returns-clause-places
returns-clause-places c =
    let l = c.args.self.now in
    have_var_scope l c.requires.bounded c.args.scope c.index.result.now.var_scope c.requires.scope (var_scope_read l c.args.scope c.index.result.now c.requires.scope c.index.ensures)

pub returns-clause-below : goal.returns-clause-below
returns-clause-below c =
    let l = c.args.self.now in
    var_scope_below l c.requires.bounded c.args.scope c.index.result.now c.requires.scope c.index.ensures
