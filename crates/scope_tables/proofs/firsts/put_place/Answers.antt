use Rattle.std.proofs.Common.{sym, ◌∙◌}
use Rattle.scope_tables.specs.Keys.{at_key}
use Rattle.scope_tables.proofs.FirstPlaces.{passed_over, taken_in}
use Rattle.scope_tables.proofs.firsts.put_place.Goals as goal

pub returns-in_ok-put_first : goal.returns-in_ok-put_first
returns-in_ok-put_first c = λ all some stand among so_far.
    taken_in c.args.list.now all stand c.args.declaring (at_key c.args.firsts.now) some c.args.place.now among so_far
    c.key_of.result.within c.key_of.result.name c.key_of.ensures.within c.key_of.ensures.name (sym c.passes.ensures ∙ c.if-passes.true) (at_key c.put_first.new.firsts) c.in_ok-put_first.ensures

pub returns-else-passes : goal.returns-else-passes
returns-else-passes c = λ all some stand among so_far.
    passed_over c.args.list.now all stand c.args.declaring (at_key c.args.firsts.now) some c.args.place.now among so_far (sym c.passes.ensures ∙ c.if-passes.false)
