-- How many nodes a run has, and a tree.
use Rattle.std.specs.Prelude.{ℕ, suc, ◌+◌}
use Rattle.tree_nodes.specs.Tree.{Parts, Tree, atom, child, done, many}

abbrev pub nodes_in : Parts → ℕ
nodes_in done = 0
nodes_in (atom a more) = nodes_in more
nodes_in (child k s e fields more) = suc (nodes_in fields + nodes_in more)
nodes_in (many items more) = nodes_in items + nodes_in more

-- its root included
abbrev pub node_count : Tree → ℕ
node_count t = suc (nodes_in t.fields)
