use Rattle.std.proofs.Common.{◌≡◌, ◌++◌, ◌≤◌, Bor, List, [], ◌∷◌, drop, map, sym, ap, ◌∙◌, rules}
use Rattle.std.proofs.lemmas.List.{append-nil, map-append}
use Rattle.tree_nodes.specs.Along.{each, first_column}
use Rattle.tree_nodes.specs.Kinds.{is_kind}
use Rattle.tree_nodes.specs.Look.{parts_len}
use Rattle.tree_nodes.specs.Table.{row}
use Rattle.tree_nodes.specs.Tree.{Tree}
use Rattle.tree_nodes.specs.Views.{part_of}
use Rattle.tree_nodes.specs.declared.kind.Kind.TheVariants.{Identifier}
use Rattle.tree_nodes.proofs.Lists.{past_end, past_items, past_len}
use Rattle.tree_patterns.specs.BoundNames.{bound, bound_in, declares, declaring}
use Rattle.tree_patterns.proofs.BoundAlong.{if_so, next_field, next_item, no_field, no_item, of_identifier, of_list, of_other, on_ok}
use Rattle.tree_patterns.proofs.patterns.+bind.Goals as goal
use Rattle.tree_patterns.proofs.patterns.+bind.Goals.{bind_fields-then-field_declares+in_ok-bind_field, bind_fields-else-field_declares}

abbrev seen : List (Bor Tree) → List Tree
seen = map (λ n. n.now)

pub bind_field-returns-in-List : goal.bind_field-returns-in-List
bind_field-returns-in-List t c =
    rw c.in-List.is (on_ok c.bind_items.result (λ e. e ∙ ap (λ x. seen c.args.names.now.items ++ x) (sym (of_list c.in-List.nodes))) c.bind_items.ensures)

pub bind_field-returns-in_default : goal.bind_field-returns-in_default
unfolding bound
bind_field-returns-in_default t c = search rules

pub bind_fields-loop-i-preserved : goal.bind_fields-loop-i-preserved
bind_fields-loop-i-preserved t c =
    let fields = c.args.fields.now in
    let p = part_of c.in-Some.field.now in
    let old = seen c.loop-i.names.items in
    let here = if_so (declares declaring (first_column (each (drop c.loop-i.i (row c.args.kind).columns))) fields) (bound_in p) in
    let found : seen c.if-field_declares.names.items ≡ old ++ here = elim c.if-field_declares.branch [
      | bind_fields-then-field_declares+in_ok-bind_field w ↦ rw w.names-is (w.in_ok-bind_field.ensures ∙ ap (λ b. old ++ if_so b (bound_in p)) (sym w.if-field_declares.true ∙ c.field_declares.ensures))
      | bind_fields-else-field_declares w ↦ rw w.names-is (sym (append-nil old) ∙ ap (λ b. old ++ if_so b (bound_in p)) (sym w.if-field_declares.false ∙ c.field_declares.ensures))
    ] in
    next_field fields (row c.args.kind).columns c.loop-i.i _ _ c.loop-i.invariant _ p c.in-Some.ensures.part found

pub bind_fields-returns-after-loop-i : goal.bind_fields-returns-after-loop-i
bind_fields-returns-after-loop-i t c =
    let over : parts_len c.args.fields.now ≤ c.loop-i.i = rw (← c.len-i-end.ensures) c.loop-i-test.false in
    no_field c.args.fields.now (row c.args.kind).columns c.loop-i.i _ _ c.loop-i.invariant (past_len c.args.fields.now c.loop-i.i over)

pub bind_fields-returns-in_default : goal.bind_fields-returns-in_default
bind_fields-returns-in_default t c =
    no_field c.args.fields.now (row c.args.kind).columns c.loop-i.i _ _ c.loop-i.invariant (past_end c.args.fields.now c.loop-i.i (sym c.in_default.ensures.part))

pub bind_item-returns-in-None : goal.bind_item-returns-in-None
unfolding bound
bind_item-returns-in-None t c = search rules

pub bind_items-loop-i-preserved : goal.bind_items-loop-i-preserved
bind_items-loop-i-preserved t c =
    next_item c.args.nodes.now c.loop-i.i _ _ c.loop-i.invariant _ c.in-Some.item.now c.len-i-end.ensures.shaped c.in-Some.ensures.item c.in_ok-bind_item.ensures

pub bind_items-returns-after-loop-i : goal.bind_items-returns-after-loop-i
bind_items-returns-after-loop-i t c =
    let over : parts_len c.args.nodes.now ≤ c.loop-i.i = rw (← c.len-i-end.ensures.len) c.loop-i-test.false in
    no_item c.args.nodes.now c.loop-i.i _ _ c.loop-i.invariant (past_len c.args.nodes.now c.loop-i.i over)

pub bind_items-returns-in_default : goal.bind_items-returns-in_default
bind_items-returns-in_default t c =
    no_item c.args.nodes.now c.loop-i.i _ _ c.loop-i.invariant (past_items c.args.nodes.now c.loop-i.i (sym c.in_default.ensures.item))

pub bind_node-returns-then-not-is : goal.bind_node-returns-then-not-is
bind_node-returns-then-not-is t c =
    let node : Tree = record { kind = c.node.inside.kind; start = c.node.inside.start; stop = c.node.inside.end; fields = c.node.inside.fields } in
    rw (← c.node.view_is)
    (on_ok c.bind_fields.result (λ e. e ∙ ap (λ x. seen c.args.names.now.items ++ x) (sym (of_other node (sym c.if-not-is.ensures)))) c.bind_fields.ensures)

pub bind_node-returns : goal.bind_node-returns
bind_node-returns t c =
    let identifies = c.if-not-is.ensures ∙ ap (λ (n : Tree). is_kind n.kind Identifier) c.node.view_is in
    ap seen c.in_ok-push.ensures.items ∙ map-append _ c.args.names.now.items (c.args.node ∷ [])
    ∙ ap (λ x. seen c.args.names.now.items ++ x) (sym (of_identifier c.args.node.now (sym identifies)))
