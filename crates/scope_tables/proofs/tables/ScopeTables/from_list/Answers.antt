use Rattle.std.specs.Prelude.{List}
use Rattle.std.proofs.Common.{subst, sym}
use Rattle.place_list.specs.declared.tables.PlaceEntry.{PlaceEntry}
use Rattle.scope_tables.proofs.Resolutions.{all_stand}
use Rattle.scope_tables.specs.Resolving.{AreResolved}
use Rattle.scope_tables.specs.Views.{AllStand}
use Rattle.scope_tables.proofs.tables.ScopeTables.from_list.Goals as goal

pub resolve-requires : goal.resolve-requires
resolve-requires c =
    let l = c.args.list in
    subst (λ (es : List PlaceEntry). AllStand l es) (sym c.as_slice.ensures.value) (all_stand l c.requires.bounded c.requires.numbered)

pub returns-clause-tables : goal.returns-clause-tables
returns-clause-tables c =
    let l = c.args.list in
    record {
      bounded = c.requires.bounded;
      numbered = c.requires.numbered;
      found = subst (λ (es : List PlaceEntry). AreResolved l es c.in_ok-resolved.resolved) c.as_slice.ensures.value c.in_ok-resolved.ensures;
      rising = c.requires.rising;
    }
