use Rattle.tree_symbols.specs.Known.{refers}
use Rattle.tree_symbols.proofs.Mapped.{found_more}
use Rattle.tree_symbols.proofs.found.find_references.Goals as goal

pub loop-place-preserved : goal.loop-place-preserved
loop-place-preserved c =
    found_more refers c.args.places.now c.loop-place.place-index _ c.loop-place-test.true c.loop-place.references.items _ c.refers.result c.refers.ensures c.loop-place.invariant c.in_ok-put_if.ensures
