use Rattle.std.specs.Prelude.{Bool, ◌&&◌, ◌||◌}
use Rattle.std.proofs.Common.{ap, sym, ◌∙◌}
use Rattle.place_list.specs.TableViews.{nested_nodes_in}
use Rattle.place_list.specs.Tables.{place_of}
use Rattle.scope_report.specs.Exports.{exports, names_default}
use Rattle.scope_tables.specs.Views.{bound_of, site_in}
use Rattle.scope_rules.specs.Bindings.{is_node}
use Rattle.scope_report.proofs.exported.exported_binding.Goals as goal

pub returns-then-not-declares : goal.returns-then-not-declares
unfolding exports bound_of place_of is_node
returns-then-not-declares c = λ l n.
    let q = c.args.place.now in
    let s = site_in l q.place in
    sym (ap (λ (t : Bool). t && (s.setting.exported || names_default (nested_nodes_in c.args.nodes.now) s) && is_node q.binding n) (sym (c.declares.ensures l) ∙ c.if-not-declares.true))

pub returns-then-lies_in_export : goal.returns-then-lies_in_export
unfolding exports bound_of place_of
returns-then-lies_in_export c = λ l n.
    let q = c.args.place.now in
    let s = site_in l q.place in
    sym (ap (λ (t : Bool). t && (s.setting.exported || names_default (nested_nodes_in c.args.nodes.now) s) && is_node q.binding n) (sym (c.declares.ensures l) ∙ c.if-not-declares.false)
    ∙ ap (λ (t : Bool). t && is_node q.binding n) (sym (c.lies_in_export.ensures l) ∙ c.if-lies_in_export.true))

pub returns-else-lies_in_export : goal.returns-else-lies_in_export
unfolding exports bound_of place_of is_node
returns-else-lies_in_export c = λ l n.
    let q = c.args.place.now in
    let s = site_in l q.place in
    sym (ap (λ (t : Bool). t && (s.setting.exported || names_default (nested_nodes_in c.args.nodes.now) s) && is_node q.binding n) (sym (c.declares.ensures l) ∙ c.if-not-declares.false)
    ∙ ap (λ (t : Bool). t && is_node q.binding n) (sym (c.lies_in_export.ensures l) ∙ c.if-lies_in_export.false))
