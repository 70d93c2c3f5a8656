use Rattle.tree_patterns.proofs.DeclaredAreBound as roles
use Rattle.tree_patterns.proofs.laws.bound_names_are_identifiers.Goals as goal

pub returns : goal.returns
returns c = roles.bound_names_are_identifiers
