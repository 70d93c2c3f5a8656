use Rattle.std.specs.Prelude.{◌<◌, ℕ, Bool, List, length}
use Rattle.std.proofs.Common.{sym, subst, ap, ◌∙◌}
use Rattle.name_rules.specs.PrivateNumbers.{closed_count}
use Rattle.place_list.specs.TableViews.{places_in}
use Rattle.class_tables.specs.Counts.{AreFlagsOf}
use Rattle.class_tables.specs.Tables.{AreTablesOf}
use Rattle.class_tables.specs.declared.class_table.ClassTable.{ClassTable}
use Rattle.class_tables.proofs.ListedPlaces.{chain_listed, known_of, of_places}
use Rattle.class_tables.proofs.private_table.PrivateTable.new.Goals as goal

pub declared_names-requires-clause-known : goal.declared_names-requires-clause-known
declared_names-requires-clause-known c = known_of c.args.list.now c.requires _ _ c.as_slice-bodies.ensures.value c.as_slice-places.ensures.value

pub open_classes-requires : goal.open_classes-requires
open_classes-requires c = known_of c.args.list.now c.requires _ _ c.as_slice-bodies.ensures.value c.as_slice-places.ensures.value

pub closed_counts-requires-clause-fall : goal.closed_counts-requires-clause-fall
closed_counts-requires-clause-fall c = (known_of c.args.list.now c.requires _ _ c.as_slice-bodies.ensures.value c.as_slice-places.ensures.value).fall

pub returns-clause-whole : goal.returns-clause-whole
returns-clause-whole c =
    let ps = places_in c.args.list.now in
    let bodies = c.as_slice-bodies.ensures.value in
    let are = of_places c.args.list.now c.requires _ _ bodies c.as_slice-places.ensures.value in
    let tables : AreTablesOf c.in_ok-tables.tables.items ps = c.in_ok-tables.ensures.tables ps are in
    let flags : AreFlagsOf c.in_ok-open.«open».items ps = λ k h. c.in_ok-open.ensures.«open» ps are k (subst (λ (n : ℕ). k < n) c.in_ok-open.ensures.len h) in
    record {
      bounded = c.requires;
      tables = tables;
      tables_length = c.in_ok-tables.ensures.len ∙ ap length bodies;
      is_open = flags;
      open_length = c.in_ok-open.ensures.len ∙ ap length bodies;
      counts = λ k h.
          c.in_ok-counts.ensures.counts ps
          (subst (λ (ts : List ClassTable). AreTablesOf ts ps) (sym c.as_slice-2.ensures.value) tables)
          (subst (λ (fs : List Bool). AreFlagsOf fs ps) (sym c.as_slice-3.ensures.value) flags)
          k (subst (λ (n : ℕ). k < n) (sym (ap length bodies)) h)
          ∙ ap (closed_count ps) (chain_listed c.args.list.now c.requires _ bodies k h);
      counts_length = c.in_ok-counts.ensures.len ∙ ap length bodies;
    }
