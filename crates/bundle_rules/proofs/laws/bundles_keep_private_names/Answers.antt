use Rattle.bundle_rules.proofs.BundleBindings as kept
use Rattle.bundle_rules.proofs.laws.bundles_keep_private_names.Goals as goal

pub returns : goal.returns
returns c = kept.bundles_keep_private_names
