use Rattle.class_tables.proofs.WholeTables.{index_told, table_falls}
use Rattle.class_tables.proofs.private_table.PrivateTable.name_index.Goals as goal

pub name_index-requires : goal.name_index-requires
name_index-requires c = table_falls c.args.self.now c.requires.whole _ c.as_slice-2.ensures.value

pub returns : goal.returns
returns c =
    index_told c.args.self.now c.requires.whole _ _ c.as_slice.ensures.value c.as_slice-2.ensures.value c.args.i c.place-place.result c.place-place.ensures.stands c.place-place.ensures.known
    _ c.name_index.ensures
