use Rattle.std.specs.Prelude.{List}
use Rattle.std.proofs.Common.{sym, subst}
use Rattle.place_list.specs.TableViews.{places_in}
use Rattle.class_tables.specs.PrivateTables.{list_in}
use Rattle.class_tables.specs.Tables.{AreTablesOf}
use Rattle.class_tables.specs.declared.class_table.ClassTable.{ClassTable}
use Rattle.class_tables.proofs.private_table.PrivateTable.declares.Goals as goal

pub returns : goal.returns
returns c =
    let ps = places_in (list_in c.args.self.now) in
    c.declares.ensures ps (subst (λ (ts : List ClassTable). AreTablesOf ts ps) (sym c.as_slice.ensures.value) c.requires.tables)
