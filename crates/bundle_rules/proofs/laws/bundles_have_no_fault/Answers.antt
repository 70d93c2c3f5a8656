use Rattle.bundle_rules.proofs.BundleFaults as faults
use Rattle.bundle_rules.proofs.laws.bundles_have_no_fault.Goals as goal

pub returns : goal.returns
returns c = faults.bundles_have_no_fault
