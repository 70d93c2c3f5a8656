use Rattle.std.proofs.Common.{sym, ◌∙◌}
use Rattle.class_tables.specs.Outwards.{outer}
use Rattle.class_tables.specs.Tables.{found_in}
use Rattle.class_tables.proofs.Outward.{at_the_end, found_at, go_on, left_falls}
use Rattle.class_tables.proofs.nearest.declaration.Goals as goal

pub returns-then-is_some : goal.returns-then-is_some
returns-then-is_some c =
    found_at (outer c.args.bodies.now) c.requires (found_in c.args.tables.now c.args.name.now) _ c.loop-at.at c.loop-at.invariant
    c.in-Some.c c.in-Some.is _ c.found_in-found.ensures (sym c.is_some.ensures ∙ c.if-is_some.true)

pub loop-at-smaller : goal.loop-at-smaller
loop-at-smaller c = left_falls (outer c.args.bodies.now) c.requires c.loop-at.at c.in-Some.c c.in-Some.is _ c.outer-at.ensures

pub loop-at-preserved : goal.loop-at-preserved
loop-at-preserved c =
    go_on (outer c.args.bodies.now) c.requires (found_in c.args.tables.now c.args.name.now) _ c.loop-at.at c.loop-at.invariant
    c.in-Some.c c.in-Some.is _ c.found_in-found.ensures (sym c.is_some.ensures ∙ c.if-is_some.false) _ c.outer-at.ensures

pub returns : goal.returns
returns c =
    at_the_end (outer c.args.bodies.now) c.requires (found_in c.args.tables.now c.args.name.now) _ c.loop-at.at c.loop-at.invariant
    c.in_default.is
