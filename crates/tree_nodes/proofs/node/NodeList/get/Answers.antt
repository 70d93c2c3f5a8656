use Rattle.std.proofs.Common.{◌≡◌, ◌∙◌, ap, option_copied, slice_get}
use Rattle.tree_nodes.specs.Look.{item_at}
use Rattle.tree_nodes.proofs.Lists.{item_at-items_of, got_item_falls}
use Rattle.tree_nodes.proofs.node.NodeList.get.Goals as goal

pub returns : goal.returns
returns c =
    let found : option_copied c.at.result ≡ item_at c.args.self.now c.args.i =
    rw (← c.self.view_is, item_at-items_of) (c.at.ensures ∙ ap (λ xs. slice_get xs c.args.i) c.as_slice.ensures.value) in
    record { item = found; smaller = got_item_falls c.at.result c.args.self.now c.args.i found }
