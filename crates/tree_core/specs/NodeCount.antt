-- How many nodes a run has, and a tree.
pub use Rattle.tree_nodes.specs.NodeCount.{node_count, nodes_in}
