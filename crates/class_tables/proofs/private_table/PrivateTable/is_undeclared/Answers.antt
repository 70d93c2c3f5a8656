use Rattle.class_tables.proofs.WholeTables.{undeclared_told, table_falls}
use Rattle.class_tables.proofs.private_table.PrivateTable.is_undeclared.Goals as goal

pub is_undeclared-requires : goal.is_undeclared-requires
is_undeclared-requires c = table_falls c.args.self.now c.requires.whole _ c.as_slice-2.ensures.value

pub returns : goal.returns
returns c =
    undeclared_told c.args.self.now c.requires.whole _ _ c.as_slice.ensures.value c.as_slice-2.ensures.value c.args.i c.place-place.result c.place-place.ensures.stands c.place-place.ensures.known
    _ c.is_undeclared.ensures
