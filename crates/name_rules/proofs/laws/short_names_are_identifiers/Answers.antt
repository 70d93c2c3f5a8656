use Rattle.name_rules.proofs.Identifiers as identifiers
use Rattle.name_rules.proofs.laws.short_names_are_identifiers.Goals as goal

pub returns : goal.returns
returns c = identifiers.short_names_are_identifiers
