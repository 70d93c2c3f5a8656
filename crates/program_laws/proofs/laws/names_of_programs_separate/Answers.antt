use Rattle.program_laws.proofs.Programs as programs
use Rattle.program_laws.proofs.laws.names_of_programs_separate.Goals as goal

pub returns : goal.returns
returns c = programs.names_of_programs_separate
