use Rattle.std.proofs.Common.{◌∙◌}
use Rattle.scope_tables.proofs.NodeIndex.{nodes_rise}
use Rattle.tree_nodes.specs.Tree.{alone}
use Rattle.tree_semantic.proofs.Analysed.{analysed, bodies_counted, fault_told, list_of, parents_same, places_outwards}
use Rattle.tree_semantic.proofs.Listed.{still_bounded}
use Rattle.tree_semantic.proofs.builder.analyse.Goals as goal

pub from_list-requires-clause-bounded : goal.from_list-requires-clause-bounded
from_list-requires-clause-bounded c = still_bounded c.in_ok-list.list c.new.result c.in_ok-list.ensures.bounded

pub from_list-requires-clause-rising : goal.from_list-requires-clause-rising
from_list-requires-clause-rising c = nodes_rise c.in_ok-list.list _ c.in_ok-list.ensures.places

pub returns-then-has_fault-clause-faulty : goal.returns-then-has_fault-clause-faulty
returns-then-has_fault-clause-faulty c = λ e.
    let whole = c.in_ok-list.list in
    let listed = list_of (alone c.args.root.now) whole c.new.result c.in_ok-list.ensures.places c.in_ok-list.ensures.scopes c.in_ok-list.ensures.scope_nodes c.in_ok-list.ensures.withs c.in_ok-list.ensures.nested_nodes c.in_ok-list.ensures.class_bodies in
    fault_told (alone c.args.root.now) whole (record whole { node_entries = c.new.result }) listed c.in_ok-tables.tables c.in_ok-tables.ensures.list c.has_fault.result _ c.has_fault.ensures c.if-has_fault.true

pub returns-clause-semantic : goal.returns-clause-semantic
returns-clause-semantic c =
    let whole = c.in_ok-list.list in
    let listed = list_of (alone c.args.root.now) whole c.new.result c.in_ok-list.ensures.places c.in_ok-list.ensures.scopes c.in_ok-list.ensures.scope_nodes c.in_ok-list.ensures.withs c.in_ok-list.ensures.nested_nodes c.in_ok-list.ensures.class_bodies in
    analysed (alone c.args.root.now) whole (record whole { node_entries = c.new.result }) listed c.in_ok-tables.tables c.in_ok-tables.ensures.list _
    (c.in_ok-classes.ensures.parents ∙ parents_same c.args.root.now c.requires whole (record whole { node_entries = c.new.result }) listed c.in_ok-tables.tables c.in_ok-tables.ensures.list c.in_ok-nodes.nodes c.in_ok-nodes.ensures.nodes)
    c.in_ok-scoping.ensures.scoping c.in_ok-scoping.ensures.tables c.in_ok-classes.ensures.classes c.in_ok-nodes.ensures.nodes c.in_ok-nodes.ensures.few
    (fault_told (alone c.args.root.now) whole (record whole { node_entries = c.new.result }) listed c.in_ok-tables.tables c.in_ok-tables.ensures.list c.has_fault.result _ c.has_fault.ensures c.if-has_fault.false)

pub build-requires-2-clause-counted : goal.build-requires-2-clause-counted
build-requires-2-clause-counted c =
    let whole = c.in_ok-list.list in
    let listed = list_of (alone c.args.root.now) whole c.new.result c.in_ok-list.ensures.places c.in_ok-list.ensures.scopes c.in_ok-list.ensures.scope_nodes c.in_ok-list.ensures.withs c.in_ok-list.ensures.nested_nodes c.in_ok-list.ensures.class_bodies in
    bodies_counted c.args.root.now c.requires whole (record whole { node_entries = c.new.result }) listed c.in_ok-tables.tables c.in_ok-tables.ensures.list c.in_ok-nodes.nodes c.in_ok-nodes.ensures.nodes

pub build-requires-2-clause-outwards : goal.build-requires-2-clause-outwards
build-requires-2-clause-outwards c =
    let whole = c.in_ok-list.list in
    let listed = list_of (alone c.args.root.now) whole c.new.result c.in_ok-list.ensures.places c.in_ok-list.ensures.scopes c.in_ok-list.ensures.scope_nodes c.in_ok-list.ensures.withs c.in_ok-list.ensures.nested_nodes c.in_ok-list.ensures.class_bodies in
    places_outwards c.args.root.now c.requires whole (record whole { node_entries = c.new.result }) listed c.in_ok-tables.tables c.in_ok-tables.ensures.list c.in_ok-nodes.nodes c.in_ok-nodes.ensures.nodes
