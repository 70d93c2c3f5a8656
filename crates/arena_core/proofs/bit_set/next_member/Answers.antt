use Rattle.std.proofs.Common.{sym, ◌∙◌, arith}
use Rattle.arena_core.specs.Words.{flags}
use Rattle.arena_core.proofs.Words.{length-flags}
use Rattle.arena_core.proofs.Members.{next_member-below, members_at-next, members_at-word, members_at-end}
use Rattle.arena_core.proofs.bit_set.next_member.Goals as goal

pub returns-in-Some-clause-below : goal.returns-in-Some-clause-below
returns-in-Some-clause-below c = next_member-below c.args.words.now c.args.len c.loop-at.at c.requires.words c.in-Some.next c.in-Some.ensures

pub returns-in-Some-clause-first : goal.returns-in-Some-clause-first
returns-in-Some-clause-first c =
    sym c.loop-at.invariant.1 ∙ members_at-next c.args.words.now c.args.len c.loop-at.at c.requires.words c.in-Some.next c.in-Some.ensures

pub loop-at-preserved : goal.loop-at-preserved
loop-at-preserved c =
    (omega arith, sym (members_at-word c.args.words.now c.args.len c.loop-at.at c.requires.words c.min-at.result c.in-None.ensures (omega arith) (omega arith)) ∙ c.loop-at.invariant.1)

pub returns-clause-none : goal.returns-clause-none
returns-clause-none c = sym c.loop-at.invariant.1 ∙ members_at-end (flags c.args.words.now c.args.len) c.loop-at.at (omega (arith, length-flags c.args.words.now c.args.len))
