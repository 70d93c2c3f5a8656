use Rattle.js_grammar.proofs.SoundShapes.{shapes_sound}
use Rattle.js_grammar.proofs.laws.shapes_are_sound.Goals as goal

pub returns : goal.returns
returns c = shapes_sound
