use Rattle.std.specs.Prelude.{◌≡◌, List, Option, length, ℕ}
use Rattle.std.proofs.Common.{ap, subst, ◌∙◌}
use Rattle.tree_semantic.specs.ClassBodies.{AreRowsOf}
use Rattle.tree_semantic.specs.ClassesAround.{parents_told}
use Rattle.tree_semantic.specs.Nodes.{nodes_in}
use Rattle.tree_semantic.proofs.ClassesTold.{classes_are, rows_in}
use Rattle.tree_semantic.proofs.Declared.{all_bound}
use Rattle.tree_semantic.proofs.classes.Classes.build.Goals as goal

pub class_rows-requires-clause-counted : goal.class_rows-requires-clause-counted
class_rows-requires-clause-counted c = ap (λ (os : List (Option ℕ)). length os) (c.as_slice.ensures.value ∙ c.in_ok-parents.ensures) ∙ c.requires.counted

pub returns-clause-classes : goal.returns-clause-classes
returns-clause-classes c =
    let told : c.as_slice.result.now ≡ parents_told (nodes_in c.args.nodes.now) = c.as_slice.ensures.value ∙ c.in_ok-parents.ensures in
    let rows = subst (λ (os : List (Option ℕ)). AreRowsOf c.args.list.now os (length c.args.list.now.class_bodies.items) c.in_ok-rows.rows.items) told c.in_ok-rows.ensures in
    classes_are c.args.list.now (parents_told (nodes_in c.args.nodes.now)) _ (rows_in c.args.list.now (parents_told (nodes_in c.args.nodes.now)) c.in_ok-rows.rows.items c.requires.counted rows) c.requires.outwards rows c.in_ok-node_classes.ensures
    (all_bound _ c.args.list.now c.in_ok-table.ensures.whole c.in_ok-table.ensures.list)

pub returns-clause-parents : goal.returns-clause-parents
returns-clause-parents c =
    let told : c.as_slice.result.now ≡ parents_told (nodes_in c.args.nodes.now) = c.as_slice.ensures.value ∙ c.in_ok-parents.ensures in
    let rows = subst (λ (os : List (Option ℕ)). AreRowsOf c.args.list.now os (length c.args.list.now.class_bodies.items) c.in_ok-rows.rows.items) told c.in_ok-rows.ensures in
    rows_in c.args.list.now (parents_told (nodes_in c.args.nodes.now)) c.in_ok-rows.rows.items c.requires.counted rows
