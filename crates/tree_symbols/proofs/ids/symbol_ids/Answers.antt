use Rattle.syntax_sem.specs.SymbolId.{number_of}
use Rattle.tree_symbols.proofs.Mapped.{ids_more}
use Rattle.tree_symbols.proofs.ids.symbol_ids.Goals as goal

pub loop-n-preserved : goal.loop-n-preserved
loop-n-preserved c = ids_more number_of c.loop-n.ids.items c.from_usize.result c.push.new.self.items c.loop-n.n c.loop-n.invariant c.from_usize.ensures c.in_ok-push.ensures.items
