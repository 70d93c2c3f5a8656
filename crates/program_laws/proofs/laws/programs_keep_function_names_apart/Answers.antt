use Rattle.program_laws.proofs.Programs as programs
use Rattle.program_laws.proofs.laws.programs_keep_function_names_apart.Goals as goal

pub returns : goal.returns
returns c = programs.programs_keep_function_names_apart
