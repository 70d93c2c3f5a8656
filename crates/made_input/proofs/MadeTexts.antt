-- A made text is the text of the made tree.
use Rattle.std.proofs.Common.{refl}
use Rattle.made_input.proofs.MadeLimits.{text_within}
use Rattle.made_input.proofs.MadePieces.{text_utf8}
use Rattle.made_input.proofs.MadeReading.{functions_data, program_data, text_read}
use Rattle.made_input.proofs.MadeShapes.{text_is_tree}
use Rattle.made_input.proofs.MadeSites.{made_tree_sound}
use Rattle.made_input.specs.Laws.{MadeTextsAreRead}

pub made_texts_are_read : MadeTextsAreRead
made_texts_are_read n h = record {
  members = program_data (functions_data 0 n);
  six = refl;
  utf8 = text_utf8 n h;
  parses = text_read n h;
  within = text_within n h;
  is_tree = text_is_tree n h;
  sound = made_tree_sound n;
}
