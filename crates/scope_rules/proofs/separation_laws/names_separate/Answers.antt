use Rattle.scope_rules.proofs.NamesSeparate as separate
use Rattle.scope_rules.proofs.separation_laws.names_separate.Goals as goal

pub returns : goal.returns
returns c = separate.names_separate
