use Rattle.place_list.proofs.PlacesStand.{told_of_place}
use Rattle.place_list.proofs.tables.PlaceList.lies_in_var_scope.Goals as goal

pub returns : goal.returns
returns c = told_of_place c.args.self.now c.args.i c.place.result c.is_same_scope.result c.place.ensures.stands c.is_same_scope.ensures
