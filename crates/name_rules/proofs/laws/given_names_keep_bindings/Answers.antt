use Rattle.name_rules.proofs.GivenNamesKeepBindings as renamed
use Rattle.name_rules.proofs.GivenNamesFit as slot_named
use Rattle.name_rules.proofs.laws.given_names_keep_bindings.Goals as goal

pub returns-clause-fit : goal.returns-clause-fit
returns-clause-fit c = slot_named.given_names_fit

pub returns-clause-bindings : goal.returns-clause-bindings
returns-clause-bindings c = renamed.given_names_keep_bindings
