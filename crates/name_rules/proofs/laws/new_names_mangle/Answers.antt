use Rattle.name_rules.proofs.Mangling as mangling
use Rattle.name_rules.proofs.laws.new_names_mangle.Goals as goal

pub returns-clause-mangled : goal.returns-clause-mangled
returns-clause-mangled c = λ o t u has sound. mangling.is_mangled o t u has sound

pub returns-clause-sound : goal.returns-clause-sound
returns-clause-sound c = λ o t u has sound. mangling.is_sound o t u has sound
