use Rattle.syntax_sem.specs.NodeId.{number_of}
use Rattle.tree_symbols.specs.declared.known.KnownPlace.{KnownPlace}
use Rattle.tree_symbols.proofs.Mapped.{below_mapped, numbers_more}
use Rattle.tree_symbols.proofs.ids.node_ids.Goals as goal

pub from_usize-requires : goal.from_usize-requires
from_usize-requires c = below_mapped (λ (k : KnownPlace). k.place.node) 4294967295 c.args.places.now c.loop-known.known-index _ c.requires c.loop-known-test.true

pub loop-known-preserved : goal.loop-known-preserved
loop-known-preserved c =
    numbers_more number_of (λ (k : KnownPlace). k.place.node) c.args.places.now c.loop-known.known-index _ c.loop-known-test.true c.loop-known.ids.items c.from_usize.result c.push.new.self.items c.loop-known.invariant c.from_usize.ensures c.in_ok-push.ensures.items
