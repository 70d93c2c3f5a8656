use Rattle.name_rules.proofs.ChosenNames as chosen
use Rattle.name_rules.proofs.choice_laws.chosen_names_are_new.Goals as goal

pub returns : goal.returns
returns c = chosen.chosen_names_are_new
