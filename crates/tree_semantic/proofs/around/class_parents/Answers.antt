use Rattle.std.specs.Prelude.{◌<◌, ◌≤◌, length}
use Rattle.std.proofs.Common.{ap, ap₂, arith, ◌∙◌}
use Rattle.std.proofs.lemmas.List.{take_all}
use Rattle.tree_semantic.specs.ClassesAround.{Found, found_after, found_of, nothing_found, parents_told}
use Rattle.tree_semantic.specs.Nodes.{nodes_in}
use Rattle.tree_semantic.proofs.FoundInTurn.{found_more, found_with}
use Rattle.tree_semantic.proofs.around.class_parents.Goals as goal

pub loop-i-init : goal.loop-i-init
unfolding found_after nothing_found
loop-i-init c = ap₂ found_with c.new.ensures.items c.new-2.ensures.items

pub loop-i-preserved : goal.loop-i-preserved
loop-i-preserved c =
    let inside : c.loop-i.i < length (nodes_in c.args.nodes.now) = omega (arith, c.len-i-end.ensures) in
    found_more nothing_found (found_of c.loop-i.found) (found_of c.put_node.new.self) (nodes_in c.args.nodes.now) c.loop-i.i _ inside c.from_usize.ensures c.loop-i.invariant c.in_ok-put_node.ensures

pub returns : goal.returns
unfolding parents_told
returns c =
    let over : length (nodes_in c.args.nodes.now) ≤ c.loop-i.i = omega (arith, c.len-i-end.ensures) in
    ap (λ (f : Found). f.parents) (c.loop-i.invariant ∙ ap (found_after nothing_found) (take_all c.loop-i.i (nodes_in c.args.nodes.now) over))
