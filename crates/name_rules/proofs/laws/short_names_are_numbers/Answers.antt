use Rattle.name_rules.proofs.Spelled as spelled
use Rattle.name_rules.proofs.laws.short_names_are_numbers.Goals as goal

pub returns-clause-number : goal.returns-clause-number
returns-clause-number c = spelled.short_is_its_number

pub returns-clause-onto : goal.returns-clause-onto
returns-clause-onto c = spelled.short_is_onto
