use Rattle.arena_core.proofs.Words.{HasNoBitFrom-shr, next_bit}
use Rattle.arena_core.proofs.bit_set.next_in_word.Goals as goal

pub returns-then-rest-eq0 : goal.returns-then-rest-eq0
returns-then-rest-eq0 c = HasNoBitFrom-shr c.args.word c.args.from c.if-rest-eq0.true

pub returns-else-rest-eq0 : goal.returns-else-rest-eq0
returns-else-rest-eq0 c = next_bit c.args.word c.args.from c.ranges.word.fits c.requires c.if-rest-eq0.false
