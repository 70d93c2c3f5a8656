use Rattle.std.specs.Prelude.{List}
use Rattle.std.proofs.Common.{ap, subst, sym, ◌∙◌}
use Rattle.kept_names.specs.Keeping.{keeping}
use Rattle.kept_names.specs.NamesKept.{symbols_kept}
use Rattle.place_list.specs.TableViews.{places_in}
use Rattle.scope_tables.specs.WholeTree.{AreTables}
use Rattle.scope_tables.specs.declared.tables.ScopeTables.{ScopeTables}
use Rattle.tree_places.specs.Places.{Place}
use Rattle.tree_symbols.specs.Scopings.{tables_of}
use Rattle.oxc_mangler.proofs.collect.collect_name_symbols.Goals as goal

pub collect_name_symbols-requires : goal.collect_name_symbols-requires
collect_name_symbols-requires g c = subst AreTables (sym c.tables.ensures) c.scoping.ensures.sound.tables_are

pub returns : goal.returns
returns g c = λ t a.
    c.in_ok-kept.ensures
    ∙ ap (λ (m : ScopeTables). symbols_kept (keeping c.args.options) (places_in m.list)) (c.tables.ensures ∙ ap tables_of c.scoping.ensures.own)
    ∙ ap (λ (ps : List Place). symbols_kept (keeping c.args.options) ps) a.places
