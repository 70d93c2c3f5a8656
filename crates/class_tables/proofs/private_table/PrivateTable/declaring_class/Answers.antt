use Rattle.class_tables.proofs.WholeTables.{declaring_told, table_falls}
use Rattle.class_tables.proofs.private_table.PrivateTable.declaring_class.Goals as goal

pub declaring_class-requires : goal.declaring_class-requires
declaring_class-requires c = table_falls c.args.self.now c.requires.whole _ c.as_slice-2.ensures.value

pub returns : goal.returns
returns c =
    declaring_told c.args.self.now c.requires.whole _ _ c.as_slice.ensures.value c.as_slice-2.ensures.value c.args.i c.place-place.result c.place-place.ensures.stands c.place-place.ensures.known
    _ c.declaring_class.ensures
