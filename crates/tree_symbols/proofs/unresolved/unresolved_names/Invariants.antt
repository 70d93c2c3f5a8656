use Rattle.std.proofs.Common.{◌≡◌, take}
use Rattle.std.specs.List.{list_any}
use Rattle.tree_nodes.specs.Tree.{Text}
use Rattle.tree_symbols.specs.Unresolved.{has_name, leaves_name}
use Rattle.tree_symbols.proofs.unresolved.unresolved_names.Given as goal

abbrev pub invariant-loop-known : goal.invariant-loop-known
invariant-loop-known l = (x : Text) → has_name l.names x ≡ list_any (leaves_name x) (take l.known-index l.places)
