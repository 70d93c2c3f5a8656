use Rattle.std.proofs.Common.{◌≡◌, ◌∙◌, ◌≤◌, ◌↔◌, IsTrue, None, Some, ap, ap₂, refl, subst, sym, true, true≢false, arith}
use Rattle.name_map.proofs.SameTrees.{alone_same, items_apart, items_next, many_inside, no_child, no_item, no_list, no_part, no_tree, one_length, other_heads, other_lengths, parts_apart, parts_next, some_same, told_apart, told_by_fields, told_inside}
use Rattle.name_map.specs.Heads.{same_heads}
use Rattle.tree_nodes.specs.Look.{parts_len}
use Rattle.tree_nodes.specs.Tree.{Parts, Text, Tree, alone, atom, done, many, text}
use Rattle.tree_nodes.specs.Views.{part_of}
use Rattle.name_map.proofs.same.+same.Goals as goal

pub is_child-returns-in-Child : goal.is_child-returns-in-Child
is_child-returns-in-Child t c =
    rw c.in-Child.is
    (subst (λ (u : Tree). IsTrue c.same_node.result ↔ (alone c.args.node.now ≡ alone u)) c.deref.ensures
    (told_inside alone c.args.node.now c.deref.result.now c.same_node.result (alone_same c.args.node.now c.deref.result.now) c.same_node.ensures))

pub is_child-returns-in_default : goal.is_child-returns-in_default
is_child-returns-in_default t c = no_child c.args.field.now c.args.node.now c.in_default.not-Child

pub is_list-returns-in-List : goal.is_list-returns-in-List
is_list-returns-in-List t c =
    rw c.in-List.is
    (told_inside (λ (ps : Parts). many ps done) c.args.nodes.now c.in-List.own c.same_list.result (many_inside c.args.nodes.now c.in-List.own) c.same_list.ensures)

pub is_list-returns-in_default : goal.is_list-returns-in_default
is_list-returns-in_default t c = no_list c.args.field.now c.args.nodes.now c.in_default.not-List

pub is_node-returns-in-Some : goal.is_node-returns-in-Some
is_node-returns-in-Some t c =
    rw c.in-Some.is
    (told_inside (λ (x : Tree). Some x) c.args.node.now c.in-Some.own c.same_node.result (some_same c.args.node.now c.in-Some.own) c.same_node.ensures)

pub is_node-returns-in-None : goal.is_node-returns-in-None
is_node-returns-in-None t c = rw c.in-None.is (told_apart (Some c.args.node.now) None (λ e. absurd (cc)))

pub same_item-returns-in-None : goal.same_item-returns-in-None
same_item-returns-in-None t c = rw c.in-None.is (no_tree c.args.b.now c.is_none.result c.is_none.ensures)

pub same_node-returns-then-not-same_heads : goal.same_node-returns-then-not-same_heads
same_node-returns-then-not-same_heads t c = other_heads c.args.a.now c.args.b.now (sym c.same_heads.ensures ∙ c.if-not-same_heads.true)

pub same_node-returns : goal.same_node-returns
same_node-returns t c =
    let a : Tree = record { kind = c.a.inside.kind; start = c.a.inside.start; stop = c.a.inside.end; fields = c.a.inside.fields } in
    let b : Tree = record { kind = c.b.inside.kind; start = c.b.inside.start; stop = c.b.inside.end; fields = c.b.inside.fields } in
    let heads : same_heads a b ≡ true = ap₂ same_heads c.a.view_is c.b.view_is ∙ sym c.same_heads.ensures ∙ c.if-not-same_heads.false in
    rw (← c.a.view_is, ← c.b.view_is) (told_by_fields a b c.same_fields.result heads c.same_fields.ensures)

pub same_fields-returns-then-len : goal.same_fields-returns-then-len
same_fields-returns-then-len t c =
    other_lengths c.args.a.now c.args.b.now (λ e. c.if-len.true (c.len.ensures ∙ e ∙ sym c.len-2.ensures))

pub same_fields-returns-then-not-same_field : goal.same_fields-returns-then-not-same_field
same_fields-returns-then-not-same_field t c =
    told_apart c.args.a.now c.args.b.now
    (parts_apart c.args.a.now c.args.b.now c.loop-i.i (part_of c.in-Some.x.now) (part_of c.in-Some-get.y.now) c.in-Some.ensures.part c.in-Some-get.ensures.part
    (λ e. true≢false (sym (c.same_field.ensures.1 e) ∙ c.if-not-same_field.true)))

pub same_fields-loop-i-init : goal.same_fields-loop-i-init
same_fields-loop-i-init t c = λ e. e

pub same_fields-loop-i-preserved : goal.same_fields-loop-i-preserved
same_fields-loop-i-preserved t c =
    parts_next c.args.a.now c.args.b.now c.loop-i.i c.loop-i.invariant (part_of c.in-Some.x.now) (part_of c.in-Some-get.y.now) c.in-Some.ensures.part c.in-Some-get.ensures.part
    (c.same_field.ensures.0 c.if-not-same_field.false)

pub same_fields-returns-after-loop-i : goal.same_fields-returns-after-loop-i
same_fields-returns-after-loop-i t c =
    let over : parts_len c.args.a.now ≤ c.loop-i.i = rw (← c.len-i-end.ensures) c.loop-i-test.false in
    one_length c.args.a.now c.args.b.now c.loop-i.i c.loop-i.invariant (sym c.len.ensures ∙ c.if-len.false ∙ c.len-2.ensures) over

pub same_fields-returns-in_default : goal.same_fields-returns-in_default
same_fields-returns-in_default t c =
    one_length c.args.a.now c.args.b.now c.loop-i.i c.loop-i.invariant (sym c.len.ensures ∙ c.if-len.false ∙ c.len-2.ensures) (no_part c.args.a.now c.loop-i.i c.in_default.ensures.part)

pub same_fields-returns-in_default-get : goal.same_fields-returns-in_default-get
same_fields-returns-in_default-get t c =
    let long : parts_len c.args.a.now ≡ parts_len c.args.b.now = sym c.len.ensures ∙ c.if-len.false ∙ c.len-2.ensures in
    one_length c.args.a.now c.args.b.now c.loop-i.i c.loop-i.invariant long (omega (arith, long, no_part c.args.b.now c.loop-i.i c.in_default-get.ensures.part))

pub same_list-returns-then-len : goal.same_list-returns-then-len
same_list-returns-then-len t c =
    other_lengths c.args.a.now c.args.b.now (λ e. c.if-len.true (c.len.ensures.len ∙ e ∙ sym c.len-2.ensures.len))

pub same_list-returns-then-not-same_item : goal.same_list-returns-then-not-same_item
same_list-returns-then-not-same_item t c =
    told_apart c.args.a.now c.args.b.now
    (items_apart c.args.a.now c.args.b.now c.loop-i.i c.in-Some.x.now c.in-Some-get.y.now c.in-Some.ensures.item c.in-Some-get.ensures.item
    (λ e. true≢false (sym (c.same_item.ensures.1 e) ∙ c.if-not-same_item.true)))

pub same_list-loop-i-init : goal.same_list-loop-i-init
same_list-loop-i-init t c = λ e. e

pub same_list-loop-i-preserved : goal.same_list-loop-i-preserved
same_list-loop-i-preserved t c =
    items_next c.args.a.now c.args.b.now c.loop-i.i c.loop-i.invariant c.in-Some.x.now c.in-Some-get.y.now c.len.ensures.shaped c.len-2.ensures.shaped c.in-Some.ensures.item c.in-Some-get.ensures.item
    (c.same_item.ensures.0 c.if-not-same_item.false)

pub same_list-returns-after-loop-i : goal.same_list-returns-after-loop-i
same_list-returns-after-loop-i t c =
    let over : parts_len c.args.a.now ≤ c.loop-i.i = rw (← c.len-i-end.ensures.len) c.loop-i-test.false in
    one_length c.args.a.now c.args.b.now c.loop-i.i c.loop-i.invariant (sym c.len.ensures.len ∙ c.if-len.false ∙ c.len-2.ensures.len) over

pub same_list-returns-in_default : goal.same_list-returns-in_default
same_list-returns-in_default t c =
    one_length c.args.a.now c.args.b.now c.loop-i.i c.loop-i.invariant (sym c.len.ensures.len ∙ c.if-len.false ∙ c.len-2.ensures.len) (no_item c.args.a.now c.loop-i.i c.in_default.ensures.item)

pub same_list-returns-in_default-get : goal.same_list-returns-in_default-get
same_list-returns-in_default-get t c =
    let long : parts_len c.args.a.now ≡ parts_len c.args.b.now = sym c.len.ensures.len ∙ c.if-len.false ∙ c.len-2.ensures.len in
    one_length c.args.a.now c.args.b.now c.loop-i.i c.loop-i.invariant long (omega (arith, long, no_item c.args.b.now c.loop-i.i c.in_default-get.ensures.item))
