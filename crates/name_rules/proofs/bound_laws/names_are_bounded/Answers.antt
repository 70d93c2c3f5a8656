use Rattle.name_rules.proofs.Bounds as bounds
use Rattle.name_rules.proofs.bound_laws.names_are_bounded.Goals as goal

pub returns-clause-bounded : goal.returns-clause-bounded
returns-clause-bounded c = bounds.names_are_bounded

pub returns-clause-changed : goal.returns-clause-changed
returns-clause-changed c = bounds.changed_names_are_bounded

pub returns-clause-small : goal.returns-clause-small
returns-clause-small c = bounds.bound_is_small
