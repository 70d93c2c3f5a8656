use Rattle.std.proofs.Common.{rules}
use Rattle.tree_nodes.proofs.Lists.{parts_len-items_of, are_items-items_of}
use Rattle.tree_nodes.proofs.node.NodeList.len.Goals as goal

pub returns : goal.returns
returns c = record { len = rw (← c.self.view_is, parts_len-items_of) (search rules); shaped = rw (← c.self.view_is) (are_items-items_of c.self.inside.items.items) }
