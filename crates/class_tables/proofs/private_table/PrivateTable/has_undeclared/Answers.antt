use Rattle.std.specs.Prelude.{List}
use Rattle.std.proofs.Common.{sym, subst}
use Rattle.place_list.specs.TableViews.{places_in}
use Rattle.class_tables.specs.PrivateTables.{list_in}
use Rattle.class_tables.specs.Tables.{AreTablesOf}
use Rattle.class_tables.specs.declared.class_table.ClassTable.{ClassTable}
use Rattle.class_tables.proofs.ListedPlaces.{of_places}
use Rattle.class_tables.proofs.WholeTables.{table_falls}
use Rattle.class_tables.proofs.private_table.PrivateTable.has_undeclared.Goals as goal

pub has_undeclared-requires : goal.has_undeclared-requires
has_undeclared-requires c = table_falls c.args.self.now c.requires _ c.as_slice-2.ensures.value

pub returns : goal.returns
returns c =
    let ps = places_in (list_in c.args.self.now) in
    c.has_undeclared.ensures ps (of_places (list_in c.args.self.now) c.requires.bounded _ _ c.as_slice-2.ensures.value c.as_slice-3.ensures.value)
    (subst (λ (ts : List ClassTable). AreTablesOf ts ps) (sym c.as_slice.ensures.value) c.requires.tables)
