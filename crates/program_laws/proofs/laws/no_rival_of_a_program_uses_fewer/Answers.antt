use Rattle.program_laws.proofs.Programs as programs
use Rattle.program_laws.proofs.laws.no_rival_of_a_program_uses_fewer.Goals as goal

pub returns : goal.returns
returns c = programs.no_rival_of_a_program_uses_fewer
