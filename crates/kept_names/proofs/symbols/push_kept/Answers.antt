use Rattle.std.specs.Prelude.{Bool, List, cond, [], ◌∷◌, ◌++◌, map}
use Rattle.std.proofs.Common.{ap, sym, ◌∙◌}
use Rattle.std.proofs.lemmas.List.{append-nil}
use Rattle.kept_names.specs.Keeping.{keeping}
use Rattle.kept_names.specs.Views.{bound_of}
use Rattle.name_rules.specs.Kept.{name_kept}
use Rattle.kept_names.proofs.symbols.push_kept.Goals as goal

pub returns-in_ok-push : goal.returns-in_ok-push
returns-in_ok-push c = λ l bs names.
    let old : List Bool = c.args.kept.now.items in
    let b = bound_of l c.args.place.now in
    c.in_ok-push.ensures.items
    ∙ ap (λ (k : Bool). old ++ k ∷ []) (c.name_kept.ensures l bs names)
    ∙ sym (ap (λ (t : Bool). old ++ map (name_kept (keeping c.args.names.now.keep) bs) (cond t (b ∷ []) [])) (sym (c.is_binding.ensures l) ∙ c.if-is_binding.true))

pub returns-else-is_binding : goal.returns-else-is_binding
returns-else-is_binding c = λ l bs names.
    let old : List Bool = c.args.kept.now.items in
    let b = bound_of l c.args.place.now in
    sym (append-nil old)
    ∙ sym (ap (λ (t : Bool). old ++ map (name_kept (keeping c.args.names.now.keep) bs) (cond t (b ∷ []) [])) (sym (c.is_binding.ensures l) ∙ c.if-is_binding.false))
