use Rattle.place_list.proofs.PlacesStand.{numbers_are_known, read_at, stands_for_place}
use Rattle.place_list.proofs.tables.PlaceList.place.Goals as goal

pub returns-clause-stands : goal.returns-clause-stands
returns-clause-stands c = let l = c.args.self.now in stands_for_place l c.args.i c.index.result.now (read_at l.places.items c.args.i c.index.result.now c.requires.index c.index.ensures)

pub returns-clause-known : goal.returns-clause-known
returns-clause-known c = let l = c.args.self.now in numbers_are_known l c.args.i c.index.result.now (read_at l.places.items c.args.i c.index.result.now c.requires.index c.index.ensures) c.requires.bounded
