use Rattle.tool_words.proofs.Readings.{AreRead}
use Rattle.tool_words.proofs.options.read_options.Given as goal

abbrev pub invariant-loop-word : goal.invariant-loop-word
invariant-loop-word l = AreRead l.layouts l.words l.word-index l.reading
