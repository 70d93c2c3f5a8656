use Rattle.scope_tables.proofs.Resolutions.{faults_of_list}
use Rattle.scope_tables.proofs.tables.ScopeTables.faults.Goals as goal

pub returns : goal.returns
returns c = faults_of_list c.args.self.now.list c.args.self.now.resolved.faults c.requires.found.faults
