use Rattle.std.proofs.Common.{◌≡◌, ◌∙◌, ap, option_map, slice_get}
use Rattle.tree_nodes.specs.Look.{part_at}
use Rattle.tree_nodes.specs.Views.{part_of}
use Rattle.tree_nodes.proofs.Lists.{map_of_ref, part_at-parts_of, got_part_falls}
use Rattle.tree_nodes.proofs.node.FieldList.get.Goals as goal

pub returns : goal.returns
returns c =
    let found : option_map (λ f. part_of f.now) c.at.result ≡ part_at c.args.self.now c.args.i =
    rw (← c.self.view_is, part_at-parts_of) (map_of_ref part_of c.at.result ∙ ap (option_map part_of) (c.at.ensures ∙ ap (λ xs. slice_get xs c.args.i) c.as_slice.ensures.value)) in
    record { part = found; smaller = got_part_falls c.at.result c.args.self.now c.args.i found }
