use Rattle.std.specs.Prelude.{◌≡◌, ◌<◌, ◌≤◌, Option, ℕ, List, length}
use Rattle.std.proofs.Common.{arith, subst, sym}
use Rattle.place_list.specs.declared.tables.PlaceList.{PlaceList}
use Rattle.tree_semantic.specs.ClassBodies.{AreRowsOf, IsRowOf}
use Rattle.tree_semantic.specs.declared.classes.ClassRow.{ClassRow}
use Rattle.tree_semantic.proofs.ClassesTold.{no_rows, rows_more}
use Rattle.tree_semantic.proofs.classes.class_rows.Goals as goal

pub class_row-requires-clause-class : goal.class_row-requires-clause-class
class_row-requires-clause-class c =
    let inside : c.loop-c.c < length c.args.list.now.class_bodies.items = omega (arith, c.requires.counted) in
    subst (λ (l : PlaceList). c.loop-c.c < length l.class_bodies.items) (sym c.requires.list) inside

pub loop-c-init : goal.loop-c-init
loop-c-init c = subst (λ (rs : List ClassRow). AreRowsOf c.args.list.now c.args.parents.now 0 rs) (sym c.new-rows.ensures.items) (no_rows c.args.list.now c.args.parents.now)

pub loop-c-preserved : goal.loop-c-preserved
loop-c-preserved c =
    let inside : c.loop-c.c < length c.args.parents.now = omega arith in
    let row = subst (λ (l : PlaceList). IsRowOf l c.number_or_none.result c.loop-c.c c.in_ok-class_row.field-0) c.requires.list c.in_ok-class_row.ensures in
    rows_more c.args.list.now c.args.parents.now c.loop-c.c c.loop-c.rows.items c.in_ok-class_row.field-0 c.push.new.self.items inside c.loop-c.invariant
    (subst (λ (o : Option ℕ). IsRowOf c.args.list.now o c.loop-c.c c.in_ok-class_row.field-0) c.number_or_none.ensures row) c.in_ok-push.ensures.items

pub returns : goal.returns
returns c =
    let over : length c.args.parents.now ≤ c.loop-c.c = omega arith in
    let all : c.loop-c.c ≡ length c.args.list.now.class_bodies.items = omega (arith, c.requires.counted) in
    subst (λ (n : ℕ). AreRowsOf c.args.list.now c.args.parents.now n c.loop-c.rows.items) all c.loop-c.invariant
