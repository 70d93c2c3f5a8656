use Rattle.std.proofs.Common.{◌≡◌, map, take}
use Rattle.syntax_sem.specs.NodeId.{number_of}
use Rattle.tree_symbols.specs.Known.{nodes_of}
use Rattle.tree_symbols.proofs.ids.node_ids.Given as goal

abbrev pub invariant-loop-known : goal.invariant-loop-known
invariant-loop-known l = map number_of l.ids.items ≡ nodes_of (take l.known-index l.places)
