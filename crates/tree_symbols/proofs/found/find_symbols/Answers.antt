use Rattle.tree_symbols.specs.Known.{is_symbol}
use Rattle.tree_symbols.proofs.Mapped.{found_more}
use Rattle.tree_symbols.proofs.found.find_symbols.Goals as goal

pub loop-place-preserved : goal.loop-place-preserved
loop-place-preserved c =
    found_more is_symbol c.args.places.now c.loop-place.place-index _ c.loop-place-test.true c.loop-place.symbols.items _ c.is_symbol.result c.is_symbol.ensures c.loop-place.invariant c.in_ok-put_if.ensures
