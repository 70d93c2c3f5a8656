use Rattle.tree_symbols.specs.ReferenceTables.{IsTellable, told_by, view}
use Rattle.tree_symbols.proofs.Mapped.{holds_at, views_more}
use Rattle.tree_symbols.proofs.reference_table.all_references.Goals as goal

pub reference_of-requires-clause-tellable : goal.reference_of-requires-clause-tellable
reference_of-requires-clause-tellable c = holds_at IsTellable c.args.places.now c.loop-known.known-index _ c.requires.tellable c.loop-known-test.true

pub loop-known-preserved : goal.loop-known-preserved
loop-known-preserved c =
    views_more view (told_by c.args.row.now) c.args.places.now c.loop-known.known-index _ c.loop-known-test.true c.loop-known.references.items c.reference_of.result c.push.new.self.items c.loop-known.invariant c.reference_of.ensures c.in_ok-push.ensures.items
