use Rattle.made_input.proofs.MadeTexts as made
use Rattle.made_input.proofs.laws.made_texts_are_read.Goals as goal

pub returns : goal.returns
returns c = made.made_texts_are_read
