use Rattle.std.specs.Prelude.{◌≡◌, ◌<◌, ◌≤◌, length, map}
use Rattle.std.proofs.Common.{ap, arith, ◌∙◌}
use Rattle.std.proofs.lemmas.List.{take_all}
use Rattle.place_list.specs.TableViews.{places_in}
use Rattle.tree_semantic.specs.ClassBodies.{class_of_place}
use Rattle.tree_semantic.proofs.ClassesTold.{classes_more, places_many}
use Rattle.tree_semantic.proofs.classes.declaring_classes.Goals as goal

pub loop-i-preserved : goal.loop-i-preserved
loop-i-preserved c =
    let ps = places_in c.args.list.now in
    let many : length (places_in c.args.list.now) ≡ length c.args.list.now.places.items = places_many c.args.list.now in
    let inside : c.loop-i.i < length c.args.list.now.places.items = omega arith in
    classes_more (class_of_place ps) ps c.loop-i.i c.class_of_name.result c.loop-i.declaring.items c.push.new.self.items (omega (arith, many, inside)) c.class_of_name.ensures c.loop-i.invariant c.in_ok-push.ensures.items

pub returns : goal.returns
returns c =
    let ps = places_in c.args.list.now in
    let many : length (places_in c.args.list.now) ≡ length c.args.list.now.places.items = places_many c.args.list.now in
    let over : length c.args.list.now.places.items ≤ c.loop-i.i = omega arith in
    c.loop-i.invariant ∙ ap (map (class_of_place ps)) (take_all c.loop-i.i ps (omega (arith, many, over)))
