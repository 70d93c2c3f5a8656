use Rattle.syntax_sem.specs.SymbolFlags.{bits_of}
use Rattle.tree_symbols.specs.Flags.{role_flags}
use Rattle.tree_symbols.specs.declared.known.KnownPlace.{KnownPlace}
use Rattle.tree_symbols.proofs.Mapped.{numbers_more}
use Rattle.tree_symbols.proofs.symbol_flags.list_flags.Goals as goal

pub loop-known-preserved : goal.loop-known-preserved
loop-known-preserved c =
    numbers_more bits_of (λ (k : KnownPlace). role_flags k.place.setting.role) c.args.places.now c.loop-known.known-index _ c.loop-known-test.true c.loop-known.flags.items c.role_flags.result c.push.new.self.items c.loop-known.invariant c.role_flags.ensures c.in_ok-push.ensures.items
