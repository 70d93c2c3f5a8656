use Rattle.std.specs.Prelude.{◌<◌, length}
use Rattle.std.proofs.Common.{subst, sym}
use Rattle.place_list.proofs.PlacesStand.{read_at}
use Rattle.place_list.specs.declared.tables.PlaceList.{PlaceList}
use Rattle.class_tables.specs.PrivateTables.{list_in}
use Rattle.tree_semantic.proofs.ClassesTold.{class_told, none_told}
use Rattle.tree_semantic.proofs.classes.class_of_name.Goals as goal

pub declaring_class-requires-clause-index : goal.declaring_class-requires-clause-index
declaring_class-requires-clause-index c = subst (λ (l : PlaceList). c.args.i < length l.places.items) (sym c.requires.list) c.requires.index

pub returns-then-place : goal.returns-then-place
returns-then-place c =
    let l = c.args.list.now in
    class_told l c.args.i _ (read_at l.places.items c.args.i _ c.requires.index c.index-place.ensures) (list_in c.args.table.now) c.requires.list c.declaring_class.result c.if-place.true c.declaring_class.ensures

pub returns-else-place : goal.returns-else-place
returns-else-place c =
    let l = c.args.list.now in
    none_told l c.args.i _ (read_at l.places.items c.args.i _ c.requires.index c.index-place.ensures) c.if-place.false
