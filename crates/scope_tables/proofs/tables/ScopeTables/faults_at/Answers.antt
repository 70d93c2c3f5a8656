use Rattle.std.specs.Prelude.{◌<◌, ℕ, List}
use Rattle.std.proofs.Common.{ap, subst, sym, ◌∙◌}
use Rattle.place_list.specs.TableViews.{places_in}
use Rattle.scope_tables.specs.FaultsOf.{place_faults}
use Rattle.scope_tables.proofs.EachPlace.{faults_count, faults_read}
use Rattle.scope_tables.proofs.Resolutions.{all_places}
use Rattle.scope_tables.proofs.tables.ScopeTables.faults_at.Goals as goal
use Rattle.tree_places.specs.Places.{Place}

pub nth-requires : goal.nth-requires
nth-requires c = subst (λ (n : ℕ). c.args.i < n) (sym (faults_count c.args.self.now.list _ (c.as_slice.ensures.value ∙ c.requires.tables.found.place_faults_are))) c.requires.index

pub returns : goal.returns
returns c =
    let l = c.args.self.now.list in
    faults_read (places_in l) _ c.args.i c.nth.result (c.as_slice.ensures.value ∙ c.requires.tables.found.place_faults_are ∙ ap (λ (ps : List Place). place_faults ps) (all_places l)) c.nth.ensures
