-- How many items the longest list of a run has.
use Rattle.std.specs.Prelude.{ℕ, max}
use Rattle.tree_nodes.specs.Look.{parts_len}
use Rattle.tree_nodes.specs.Tree.{Parts, atom, child, done, many}

abbrev pub widest_list : Parts → ℕ
widest_list done = 0
widest_list (atom a more) = widest_list more
widest_list (child k s e fields more) = max (widest_list fields) (widest_list more)
widest_list (many items more) = max (parts_len items) (max (widest_list items) (widest_list more))
