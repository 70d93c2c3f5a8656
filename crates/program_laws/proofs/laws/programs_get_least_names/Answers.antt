use Rattle.program_laws.proofs.Programs as programs
use Rattle.program_laws.proofs.laws.programs_get_least_names.Goals as goal

pub returns : goal.returns
returns c = programs.programs_get_least_names
