use Rattle.program_laws.proofs.Programs as programs
use Rattle.program_laws.proofs.laws.programs_name_functions_once.Goals as goal

pub returns : goal.returns
returns c = programs.programs_name_functions_once
