use Rattle.std.specs.Prelude.{Bool, ◌&&◌}
use Rattle.std.specs.List.{list_any}
use Rattle.std.proofs.Common.{ap, subst, sym, ◌∙◌}
use Rattle.name_rules.specs.Kept.{is_root}
use Rattle.place_list.specs.Tables.{place_of, site_of}
use Rattle.scope_report.specs.Exports.{exports, is_exported}
use Rattle.scope_tables.specs.Views.{IsScope, bound_of}
use Rattle.scope_rules.specs.Bindings.{node}
use Rattle.scope_tables.proofs.Numbers.{home_is_known}
use Rattle.scope_report.proofs.marks.Marks.is_exported.Goals as goal

pub is_root-requires-clause-scope : goal.is_root-requires-clause-scope
is_root-requires-clause-scope c = subst (IsScope c.args.list.now) (sym c.home.ensures.number) (home_is_known c.args.list.now c.args.place.now.place c.requires)

pub returns-then-is_root : goal.returns-then-is_root
unfolding is_exported bound_of place_of site_of node
returns-then-is_root c = λ ns bs are.
    let n = c.args.place.now.place.node in
    c.has-declared.ensures ∙ are.exported n
    ∙ sym (ap (λ (t : Bool). t && list_any (exports ns n) bs) (ap is_root (sym (c.home.ensures.scope c.args.list.now)) ∙ sym c.is_root.ensures ∙ c.if-is_root.true))

pub returns-else-is_root : goal.returns-else-is_root
unfolding is_exported bound_of place_of site_of node
returns-else-is_root c = λ ns bs are.
    let n = c.args.place.now.place.node in
    c.if-is_root.false
    ∙ sym (ap (λ (t : Bool). t && list_any (exports ns n) bs) (ap is_root (sym (c.home.ensures.scope c.args.list.now)) ∙ sym c.is_root.ensures ∙ c.if-is_root.false))
