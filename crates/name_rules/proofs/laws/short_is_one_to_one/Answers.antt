use Rattle.name_rules.proofs.ShortNumbers as numbered
use Rattle.name_rules.proofs.laws.short_is_one_to_one.Goals as goal

pub returns : goal.returns
returns c = numbered.short_is_one_to_one
