use Rattle.tree_rename.proofs.RenamedPrograms as programs
use Rattle.tree_rename.proofs.laws.renamed_programs_are_programs.Goals as goal

pub returns : goal.returns
returns c = programs.renamed_programs
