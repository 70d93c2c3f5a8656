use Rattle.class_tables.proofs.WholeTables.{binding_told, table_falls}
use Rattle.class_tables.proofs.private_table.PrivateTable.private_binding.Goals as goal

pub private_binding-requires : goal.private_binding-requires
private_binding-requires c = table_falls c.args.self.now c.requires.whole _ c.as_slice-2.ensures.value

pub returns : goal.returns
returns c =
    binding_told c.args.self.now c.requires.whole _ _ c.as_slice.ensures.value c.as_slice-2.ensures.value c.args.i c.place-place.result c.place-place.ensures.stands c.place-place.ensures.known
    _ c.private_binding.ensures
