use Rattle.scope_report.proofs.FaultsFound as stand
use Rattle.scope_report.proofs.laws.faults_are_found.Goals as goal

pub returns : goal.returns
returns c = stand.faults_are_found
