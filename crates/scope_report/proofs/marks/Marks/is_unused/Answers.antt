use Rattle.std.specs.Prelude.{Bool, ◌&&◌, not}
use Rattle.std.specs.List.{list_any}
use Rattle.std.proofs.Common.{ap, ◌∙◌}
use Rattle.place_list.specs.Tables.{place_of, site_of}
use Rattle.scope_report.specs.Rules.{is_unused, uses}
use Rattle.scope_tables.specs.Views.{bound_of}
use Rattle.scope_rules.specs.Bindings.{is_binding, node}
use Rattle.scope_report.proofs.marks.Marks.is_unused.Goals as goal

pub returns : goal.returns
unfolding is_unused bound_of place_of site_of node
returns c = λ ns bs are.
    let l = c.args.list.now in
    let n = c.args.place.now.place.node in
    c.is_left.ensures
    ∙ ap (λ (t : Bool). t && not c.has-used.result && not c.is_exported-exported.result) (c.is_binding-own.ensures l)
    ∙ ap (λ (t : Bool). is_binding (bound_of l c.args.place.now) && not t && not c.is_exported-exported.result) (c.has-used.ensures ∙ are.used n)
    ∙ ap (λ (t : Bool). is_binding (bound_of l c.args.place.now) && not (list_any (uses n) bs) && not t) (c.is_exported-exported.ensures ns bs are)
