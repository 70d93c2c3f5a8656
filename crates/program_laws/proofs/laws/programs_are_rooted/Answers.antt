use Rattle.program_laws.proofs.Programs as programs
use Rattle.program_laws.proofs.laws.programs_are_rooted.Goals as goal

pub returns : goal.returns
returns c = programs.programs_are_rooted
