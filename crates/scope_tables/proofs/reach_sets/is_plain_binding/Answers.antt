use Rattle.std.specs.Prelude.{Bool, not, ◌&&◌}
use Rattle.std.proofs.Common.{sym, ap, ◌∙◌}
use Rattle.place_list.specs.Tables.{place_of}
use Rattle.scope_rules.specs.Homes.{names_function}
use Rattle.scope_tables.specs.Views.{bound_of, site_in}
use Rattle.scope_tables.proofs.reach_sets.is_plain_binding.Goals as goal

pub returns-then-is_own_binding : goal.returns-then-is_own_binding
unfolding bound_of place_of
returns-then-is_own_binding c = λ l.
    ap not (c.names_function.ensures l)
    ∙ sym (ap (λ (b : Bool). b && not (names_function (site_in l c.args.place.now.place))) (sym (c.is_own_binding.ensures l) ∙ c.if-is_own_binding.true))

pub returns-else-is_own_binding : goal.returns-else-is_own_binding
unfolding bound_of place_of
returns-else-is_own_binding c = λ l.
    c.if-is_own_binding.false
    ∙ sym (ap (λ (b : Bool). b && not (names_function (site_in l c.args.place.now.place))) (sym (c.is_own_binding.ensures l) ∙ c.if-is_own_binding.false))
