use Rattle.std.proofs.Common.{◌≡◌, ℕ, ◌<◌, ◌≤◌, ◌==◌, ◌∙◌, ◌⊎◌, List, [], ◌∷◌, None, ap, arith, false, get_or, inl, inr, length, map, option_map, rules, sym, true}
use Rattle.std.proofs.lemmas.List.{drop_more}
use Rattle.std.proofs.lemmas.Result.{on_err_weaker, on_ok_weaker}
use Rattle.json_text.specs.Json.{string}
use Rattle.json_text.specs.Units.{units_of}
use Rattle.oxc_estree.specs.Open.{Field, add_field, add_fields, closed, object_of}
use Rattle.oxc_estree.specs.Out.{Meaning, Out, begun_struct, ended_list, is_zero, plain, wrote}
use Rattle.oxc_estree.proofs.Growth.{cut_short_after}
use Rattle.oxc_estree.proofs.ListUnderWay.{begin_list_refused, is_zero-eq, list_end_refused, list_ended, steps_begin as list_begins}
use Rattle.oxc_estree.proofs.Refusals.{at_err}
use Rattle.oxc_estree.proofs.StructUnderWay.{IsStructUnderWay, begin_struct_refused, field_refused, field_written, steps_begin, struct_end_refused, struct_ended}
use Rattle.tree_nodes.specs.Look.{part_at, parts_len, parts_size}
use Rattle.tree_core.specs.Meanings.{field, field_meanings, inside, item_meanings, part_meaning}
use Rattle.tree_nodes.specs.Rows.{column_of, row_of}
use Rattle.tree_nodes.specs.Tree.{Tree}
use Rattle.tree_core.specs.Values.{is_marked}
use Rattle.tree_nodes.specs.Views.{part_of}
use Rattle.tree_nodes.specs.declared.table.Class.TheVariants.{Flag}
use Rattle.tree_nodes.specs.declared.table.Column.{Column}
use Rattle.tree_nodes.specs.declared.table.Mark.TheVariants.{Usual}
use Rattle.tree_nodes.specs.declared.table.Mode.TheVariants.{Gives}
use Rattle.tree_nodes.specs.declared.table.Role.TheVariants.{Plain}
use Rattle.tree_nodes.proofs.Lists.{map_of_ref}
use Rattle.tree_core.proofs.LeftToPrint.{end_of_items, fields_begin, item_refused, item_written, next_falls, no_fields_left, no_items_left, node_refused, node_under_way, shared_refused, shared_written, single_refused, single_written, units_of-word}
use Rattle.tree_core.proofs.print.+write.Goals as goal
use Rattle.tree_core.proofs.print.+write.Goals.{write_fields-else-loop-i-test, write_fields-then-loop-i-test+in_default, write_nodes-else-loop-i-test, write_nodes-then-loop-i-test+in_default}

pub write_node-returns-in_err-write_head-clause-refused : goal.write_node-returns-in_err-write_head-clause-refused
write_node-returns-in_err-write_head-clause-refused g t c =
    let n : Tree = record { kind = c.node.inside.kind; start = c.node.inside.start; stop = c.node.inside.end; fields = c.node.inside.fields } in
    rw (← c.node.view_is) (at_err c.from_residual.result (node_refused (row_of c.row-row.result.now) n c.row-row.ensures c.in_err-write_head.ensures.refused))

pub write_node-returns-clause-ok : goal.write_node-returns-clause-ok
write_node-returns-clause-ok g t c =
    let n : Tree = record { kind = c.node.inside.kind; start = c.node.inside.start; stop = c.node.inside.end; fields = c.node.inside.fields } in
    let p = g.S.Serializer.out c.write_head.new.serializer in
    let m : c.is_marked-marked.result ≡ is_marked n.kind n.fields = rw (← c.node.view_is) at c.is_marked-marked.ensures in
    let u = node_under_way (row_of c.row-row.result.now) n c.row-row.ensures c.in_ok-write_head.ensures.ok in
    rw (← c.node.view_is) (on_ok_weaker c.write_fields.result
    (λ e. e ∙ ap (λ b. closed (add_fields (inside false p) (field_meanings b n.fields (map column_of c.row-row.result.now.columns.now)))) m ∙ u.ends)
    c.write_fields.ensures.ok)

pub write_node-returns-clause-refused : goal.write_node-returns-clause-refused
write_node-returns-clause-refused g t c =
    let n : Tree = record { kind = c.node.inside.kind; start = c.node.inside.start; stop = c.node.inside.end; fields = c.node.inside.fields } in
    let m : c.is_marked-marked.result ≡ is_marked n.kind n.fields = rw (← c.node.view_is) at c.is_marked-marked.ensures in
    let u = node_under_way (row_of c.row-row.result.now) n c.row-row.ensures c.in_ok-write_head.ensures.ok in
    rw (← c.node.view_is) (on_err_weaker c.write_fields.result
    (λ h. cut_short_after u.grown (rw (m, u.ends) at h))
    c.write_fields.ensures.refused)

pub write_nodes-returns-in_err-begin_sequence-clause-refused : goal.write_nodes-returns-in_err-begin_sequence-clause-refused
write_nodes-returns-in_err-begin_sequence-clause-refused g t c =
    at_err c.from_residual.result (begin_list_refused (item_meanings c.args.nodes.now) c.in_err-begin_sequence.ensures.refused)

pub write_nodes-loop-i-init : goal.write_nodes-loop-i-init
write_nodes-loop-i-init g t c = list_begins (item_meanings c.args.nodes.now) c.in_ok-begin_sequence.ensures.ok

pub write_nodes-returns-in_err-write_element-clause-refused : goal.write_nodes-returns-in_err-write_element-clause-refused
write_nodes-returns-in_err-write_element-clause-refused g t c =
    at_err c.from_residual-in_err-write_element.result
    (item_refused c.args.nodes.now c.loop-i.i c.in-Some.item.now c.len-i-end.ensures.shaped c.in-Some.ensures.item c.loop-i.invariant c.in_err-write_element.ensures.refused)

pub write_nodes-loop-i-preserved : goal.write_nodes-loop-i-preserved
write_nodes-loop-i-preserved g t c =
    item_written c.args.nodes.now c.loop-i.i c.in-Some.item.now c.len-i-end.ensures.shaped c.in-Some.ensures.item c.loop-i.invariant c.in_ok-write_element.ensures.ok

-- the loop ends where no item is left
pub write_nodes-returns-clause-ok : goal.write_nodes-returns-clause-ok
write_nodes-returns-clause-ok g t c =
    let items = c.args.nodes.now in
    let over : parts_len items ≤ c.loop-i.i = elim c.loop-i-test.branch [
      | write_nodes-else-loop-i-test w ↦ rw (← c.len-i-end.ensures.len) w.loop-i-test.false
      | write_nodes-then-loop-i-test+in_default w ↦ end_of_items items c.loop-i.i w.in_default.ensures.item
    ] in
    let all : c.len.result ≡ c.loop-i.i = omega (arith, over, c.len.ensures.len, c.len-i-end.ensures.len, c.loop-i.auto.i-end) in
    let p = g.S.Serializer.out c.loop-i.serializer in
    on_ok_weaker c.end_sequence.result
    (λ e. list_ended (no_items_left items c.loop-i.i over c.loop-i.invariant)
    (e ∙ ap (λ n. ended_list (n == 0) p) all ∙ ap (λ b. ended_list b p) (is_zero-eq c.loop-i.i)))
    c.end_sequence.ensures.ok

pub write_nodes-returns-clause-refused : goal.write_nodes-returns-clause-refused
write_nodes-returns-clause-refused g t c =
    let items = c.args.nodes.now in
    let over : parts_len items ≤ c.loop-i.i = elim c.loop-i-test.branch [
      | write_nodes-else-loop-i-test w ↦ rw (← c.len-i-end.ensures.len) w.loop-i-test.false
      | write_nodes-then-loop-i-test+in_default w ↦ end_of_items items c.loop-i.i w.in_default.ensures.item
    ] in
    let all : c.len.result ≡ c.loop-i.i = omega (arith, over, c.len.ensures.len, c.len-i-end.ensures.len, c.loop-i.auto.i-end) in
    let empty : (c.len.result == 0) ≡ is_zero c.loop-i.i = ap (λ n. n == 0) all ∙ is_zero-eq c.loop-i.i in
    on_err_weaker c.end_sequence.result
    (λ h. list_end_refused (no_items_left items c.loop-i.i over c.loop-i.invariant) (rw empty at h))
    c.end_sequence.ensures.refused

pub write_fields-write_shared-requires : goal.write_fields-write_shared-requires
write_fields-write_shared-requires g t c =
    let some : 0 < parts_size c.args.fields.now = omega (arith, c.in-Some.ensures.smaller) in
    let falls = next_falls c.get-in-Some-shared_key.result (parts_size c.args.fields.now) some c.get-in-Some-shared_key.ensures.smaller in
    search rules

pub write_fields-loop-i-init : goal.write_fields-loop-i-init
write_fields-loop-i-init g t c =
    fields_begin c.args.marked c.args.fields.now c.args.columns.now (g.S.Serializer.out c.args.serializer.now) c.requires

abbrev no_column : Column
no_column = record {
  key = record { ref_ptr = (0, 0); now = [] };
  class = Flag;
  mode = Gives Plain;
  inside = false;
  mark = Usual;
  omit = false;
}

pub write_fields-returns-in_err-write_shared-clause-refused : goal.write_fields-returns-in_err-write_shared-clause-refused
write_fields-returns-in_err-write_shared-clause-refused g t c =
    let columns = c.args.columns.now in
    let i = c.loop-i.i in
    at_err c.from_residual.result
    (shared_refused c.loop-i.invariant (get_or columns i no_column) (part_of c.in-Some.field.now) (sym c.in-Some.ensures.part) (drop_more columns i no_column c.loop-i-test.true)
    c.in-Some-shared_key.outer.now _ _ (sym (rw c.in-Some-shared_key.is at c.shared_key.ensures))
    (map_of_ref column_of c.get_column.result ∙ ap (option_map column_of) c.get_column.ensures) c.get-in-Some-shared_key.ensures.part
    c.in_err-write_shared.ensures.refused)

pub write_fields-loop-i-preserved-in-Some-shared_key : goal.write_fields-loop-i-preserved-in-Some-shared_key
write_fields-loop-i-preserved-in-Some-shared_key g t c =
    let columns = c.args.columns.now in
    let i = c.loop-i.i in
    shared_written c.loop-i.invariant (get_or columns i no_column) (part_of c.in-Some.field.now) (sym c.in-Some.ensures.part) (drop_more columns i no_column c.loop-i-test.true)
    c.in-Some-shared_key.outer.now _ _ (sym (rw c.in-Some-shared_key.is at c.shared_key.ensures))
    (map_of_ref column_of c.get_column.result ∙ ap (option_map column_of) c.get_column.ensures) c.get-in-Some-shared_key.ensures.part
    c.in_ok-write_shared.ensures.ok

pub write_fields-returns-in_err-write_single-clause-refused : goal.write_fields-returns-in_err-write_single-clause-refused
write_fields-returns-in_err-write_single-clause-refused g t c =
    let columns = c.args.columns.now in
    let i = c.loop-i.i in
    at_err c.from_residual-in_err-write_single.result
    (single_refused c.loop-i.invariant (get_or columns i no_column) (part_of c.in-Some.field.now) (sym c.in-Some.ensures.part) (drop_more columns i no_column c.loop-i-test.true)
    (sym (rw c.in_default-shared_key.is at c.shared_key.ensures)) c.in_err-write_single.ensures.refused)

pub write_fields-loop-i-preserved : goal.write_fields-loop-i-preserved
write_fields-loop-i-preserved g t c =
    let columns = c.args.columns.now in
    let i = c.loop-i.i in
    single_written c.loop-i.invariant (get_or columns i no_column) (part_of c.in-Some.field.now) (sym c.in-Some.ensures.part) (drop_more columns i no_column c.loop-i-test.true)
    (sym (rw c.in_default-shared_key.is at c.shared_key.ensures)) c.in_ok-write_single.ensures.ok

pub write_fields-returns-clause-ok : goal.write_fields-returns-clause-ok
write_fields-returns-clause-ok g t c =
    let none : (length c.args.columns.now ≤ c.loop-i.i) ⊎ (part_at c.args.fields.now c.loop-i.i ≡ None) = elim c.loop-i-test.branch [
      | write_fields-else-loop-i-test w ↦ inl w.loop-i-test.false
      | write_fields-then-loop-i-test+in_default w ↦ inr (sym w.in_default.ensures.part)
    ] in
    on_ok_weaker c.end_struct.result (struct_ended (no_fields_left c.loop-i.invariant none)) c.end_struct.ensures.ok

pub write_fields-returns-clause-refused : goal.write_fields-returns-clause-refused
write_fields-returns-clause-refused g t c =
    let none : (length c.args.columns.now ≤ c.loop-i.i) ⊎ (part_at c.args.fields.now c.loop-i.i ≡ None) = elim c.loop-i-test.branch [
      | write_fields-else-loop-i-test w ↦ inl w.loop-i-test.false
      | write_fields-then-loop-i-test+in_default w ↦ inr (sym w.in_default.ensures.part)
    ] in
    on_err_weaker c.end_struct.result (struct_end_refused (no_fields_left c.loop-i.invariant none)) c.end_struct.ensures.refused

-- a struct of two fields, from step to step
module _ (k : List ℕ) (m : Meaning) (l : List ℕ) (n : Meaning) where
  abbrev two : List Field
  two = field k m ∷ field l n ∷ []

  before_first : {o p : Out} → p ≡ begun_struct o → IsStructUnderWay o (inside true p) two (wrote o (object_of two))
  before_first h = steps_begin two h

  before_second : {o p q : Out} → p ≡ begun_struct o → q ≡ (add_field (inside true p) k m).out
      → IsStructUnderWay o (inside false q) (field l n ∷ []) (wrote o (object_of two))
  before_second h e = field_written k (λ _. m) (before_first h) (ap (inside false) e)

  before_end : {o p q r : Out} → p ≡ begun_struct o → q ≡ (add_field (inside true p) k m).out
      → r ≡ (add_field (inside false q) l n).out → IsStructUnderWay o (inside false r) [] (wrote o (object_of two))
  before_end h e f = field_written l (λ _. n) (before_second h e) (ap (inside false) f)

pub write_pair-returns-in_err-begin_struct-clause-refused : goal.write_pair-returns-in_err-begin_struct-clause-refused
write_pair-returns-in_err-begin_struct-clause-refused g t c =
    let m = part_meaning c.args.marked c.args.column.now.class (part_of c.args.field.now) in
    let n = part_meaning c.args.marked c.args.next_column.now.class (part_of c.args.next.now) in
    at_err c.from_residual.result
    (begin_struct_refused (two c.args.column.now.key.now m c.args.next_column.now.key.now n) c.in_err-begin_struct.ensures.refused)

pub write_pair-returns-in_err-write_member-clause-refused : goal.write_pair-returns-in_err-write_member-clause-refused
write_pair-returns-in_err-write_member-clause-refused g t c =
    let m = part_meaning c.args.marked c.args.column.now.class (part_of c.args.field.now) in
    let n = part_meaning c.args.marked c.args.next_column.now.class (part_of c.args.next.now) in
    at_err c.from_residual-in_err-write_member.result
    (field_refused c.args.column.now.key.now (λ _. m)
    (before_first c.args.column.now.key.now m c.args.next_column.now.key.now n c.in_ok-begin_struct.ensures.ok)
    c.in_err-write_member.ensures.refused)

pub write_pair-returns-in_err-write_member-2-clause-refused : goal.write_pair-returns-in_err-write_member-2-clause-refused
write_pair-returns-in_err-write_member-2-clause-refused g t c =
    let m = part_meaning c.args.marked c.args.column.now.class (part_of c.args.field.now) in
    let n = part_meaning c.args.marked c.args.next_column.now.class (part_of c.args.next.now) in
    at_err c.from_residual-in_err-write_member-2.result
    (field_refused c.args.next_column.now.key.now (λ _. n)
    (before_second c.args.column.now.key.now m c.args.next_column.now.key.now n c.in_ok-begin_struct.ensures.ok c.in_ok-write_member.ensures.ok)
    c.in_err-write_member-2.ensures.refused)

pub write_pair-returns-clause-ok : goal.write_pair-returns-clause-ok
write_pair-returns-clause-ok g t c =
    let m = part_meaning c.args.marked c.args.column.now.class (part_of c.args.field.now) in
    let n = part_meaning c.args.marked c.args.next_column.now.class (part_of c.args.next.now) in
    on_ok_weaker c.end_struct.result
    (struct_ended (before_end c.args.column.now.key.now m c.args.next_column.now.key.now n
    c.in_ok-begin_struct.ensures.ok c.in_ok-write_member.ensures.ok c.in_ok-write_member-2.ensures.ok)) c.end_struct.ensures.ok

pub write_pair-returns-clause-refused : goal.write_pair-returns-clause-refused
write_pair-returns-clause-refused g t c =
    let m = part_meaning c.args.marked c.args.column.now.class (part_of c.args.field.now) in
    let n = part_meaning c.args.marked c.args.next_column.now.class (part_of c.args.next.now) in
    on_err_weaker c.end_struct.result
    (struct_end_refused (before_end c.args.column.now.key.now m c.args.next_column.now.key.now n
    c.in_ok-begin_struct.ensures.ok c.in_ok-write_member.ensures.ok c.in_ok-write_member-2.ensures.ok)) c.end_struct.ensures.refused

pub write_part-returns-in-Word-clause-ok : goal.write_part-returns-in-Word-clause-ok
write_part-returns-in-Word-clause-ok g t c =
    let old = g.S.Serializer.out c.args.serializer.now in
    let text = ap units_of c.word_text.ensures ∙ units_of-word c.args.class c.in-Word.number in
    rw c.in-Word.is (on_ok_weaker c.serialize-in-Word.result (λ e. e ∙ ap (λ us. wrote old (plain (string us))) text) c.serialize-in-Word.ensures.ok)

pub write_part-returns-in-Word-clause-refused : goal.write_part-returns-in-Word-clause-refused
write_part-returns-in-Word-clause-refused g t c =
    let text = ap units_of c.word_text.ensures ∙ units_of-word c.args.class c.in-Word.number in
    rw c.in-Word.is (on_err_weaker c.serialize-in-Word.result (λ h. rw text at h) c.serialize-in-Word.ensures.refused)
