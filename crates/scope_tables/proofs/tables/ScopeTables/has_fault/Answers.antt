use Rattle.std.proofs.Common.{◌∙◌}
use Rattle.place_list.specs.TableViews.{places_in}
use Rattle.scope_tables.proofs.Resolutions.{faults_of_list, one_of_five}
use Rattle.scope_tables.proofs.tables.ScopeTables.has_fault.Goals as goal

pub returns : goal.returns
returns c =
    let l = c.args.self.now.list in
    let f = c.args.self.now.resolved.faults in
    c.any.ensures ∙ one_of_five (places_in l) f (faults_of_list l f c.requires.found.faults)
