use Rattle.std.proofs.Common.{map, ap, ◌∙◌}
use Rattle.tree_nodes.specs.Tree.{alone}
use Rattle.name_map.proofs.ListedPairs.{pairs_marks}
use Rattle.name_map.specs.declared.spots.Pair.{Pair}
use Rattle.tree_rename.proofs.LoopSteps.{if_ok_also}
use Rattle.name_map.proofs.spots.list_marks.Goals as goal

pub returns : goal.returns
returns c =
    if_ok_also c.marks_in.result (λ bs e. e ∙ ap (map (λ (p : Pair). p.marked)) (c.as_slice.ensures.value ∙ c.in_ok-pairs.ensures) ∙ pairs_marks (alone c.args.root.now)) c.marks_in.ensures
