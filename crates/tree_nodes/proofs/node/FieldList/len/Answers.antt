use Rattle.std.proofs.Common.{rules}
use Rattle.tree_nodes.proofs.Lists.{parts_len-parts_of}
use Rattle.tree_nodes.proofs.node.FieldList.len.Goals as goal

pub returns : goal.returns
returns c = rw (← c.self.view_is, parts_len-parts_of) (search rules)
