use Rattle.name_rules.proofs.ShortNumbers as numbered
use Rattle.name_rules.proofs.laws.lengths_never_fall.Goals as goal

pub returns-clause-never : goal.returns-clause-never
returns-clause-never c = numbered.lengths_never_fall

pub returns-clause-first : goal.returns-clause-first
returns-clause-first c = numbered.shorter_names_come_first
