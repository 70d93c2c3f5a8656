use Rattle.scope_rules.proofs.FunctionNames as function_names
use Rattle.scope_rules.proofs.separation_laws.function_names_stand_apart.Goals as goal

pub returns : goal.returns
returns c = function_names.function_names_stand_apart
