use Rattle.place_list.proofs.OutwardWalks.{line_outwards, outer_below}
use Rattle.place_list.proofs.PlacesStand.{class_read}
use Rattle.place_list.specs.TableViews.{class_parents}
use Rattle.place_list.proofs.tables.PlaceList.outer_class.Goals as goal

pub returns-clause-outwards : goal.returns-clause-outwards
returns-clause-outwards c =
    let l = c.args.self.now in
    line_outwards (class_parents l) c.requires.bounded.class_bodies c.args.class_body c.index.result.now.parent (class_read l c.args.class_body c.index.result.now c.requires.class_body c.index.ensures)

pub returns-clause-below : goal.returns-clause-below
returns-clause-below c =
    let l = c.args.self.now in
    outer_below (class_parents l) c.requires.bounded.class_bodies c.args.class_body c.index.result.now.parent (class_read l c.args.class_body c.index.result.now c.requires.class_body c.index.ensures)
