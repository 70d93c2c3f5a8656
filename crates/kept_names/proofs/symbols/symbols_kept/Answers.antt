use Rattle.std.specs.Prelude.{List, filter, map}
use Rattle.std.proofs.Common.{ap, subst, ◌∙◌}
use Rattle.std.proofs.lemmas.Result.{IfOk-weaker}
use Rattle.kept_names.proofs.SymbolsKept.{symbols_told}
use Rattle.kept_names.specs.Keeping.{keeping}
use Rattle.kept_names.specs.NamesKept.{KeepsNames}
use Rattle.kept_names.specs.Views.{bounds_of}
use Rattle.mangle_options.specs.declared.keep_names.MangleOptionsKeepNames.{MangleOptionsKeepNames}
use Rattle.name_rules.specs.Kept.{name_kept}
use Rattle.place_list.specs.TableViews.{places_in}
use Rattle.scope_rules.specs.Bindings.{Bound, bound, is_binding, same_name}
use Rattle.tree_nodes.specs.Tree.{Text}
use Rattle.kept_names.proofs.symbols.symbols_kept.Goals as goal

pub returns : goal.returns
returns c =
    let l = c.args.tables.now.list in
    let bs : List (Bound Text) = bound same_name (places_in l) in
    let names = c.in_ok-names.names in
    IfOk-weaker c.kept_by_symbol.result _ _
    (λ v h.
    h l bs (subst (λ (xs : List (Bound Text)). KeepsNames xs names) (ap (bounds_of l) c.as_slice.ensures.value ∙ c.in_ok-places.ensures.are) (c.in_ok-names.ensures.names l))
    ∙ ap (λ (xs : List (Bound Text)). map (name_kept (keeping names.keep) bs) (filter is_binding xs)) (ap (bounds_of l) c.as_slice-2.ensures.value ∙ c.in_ok-places.ensures.are)
    ∙ ap (λ (k : MangleOptionsKeepNames). map (name_kept (keeping k) bs) (filter is_binding bs)) c.in_ok-names.ensures.keep
    ∙ symbols_told (keeping c.args.keep) (places_in l))
    c.kept_by_symbol.ensures
