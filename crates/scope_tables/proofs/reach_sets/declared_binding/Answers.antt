use Rattle.std.specs.Prelude.{Bool, ◌&&◌}
use Rattle.std.proofs.Common.{sym, ap, ◌∙◌}
use Rattle.scope_rules.specs.Bindings.{is_node}
use Rattle.place_list.specs.Tables.{place_of}
use Rattle.scope_tables.specs.Views.{bound_of}
use Rattle.scope_tables.proofs.reach_sets.declared_binding.Goals as goal

pub returns-then-declares : goal.returns-then-declares
unfolding bound_of place_of
returns-then-declares c = λ ss n. sym (ap (λ (b : Bool). b && is_node c.args.place.now.binding n) (sym (c.declares.ensures ss) ∙ c.if-declares.true))

pub returns-else-declares : goal.returns-else-declares
unfolding bound_of place_of is_node
returns-else-declares c = λ ss n. sym (ap (λ (b : Bool). b && is_node c.args.place.now.binding n) (sym (c.declares.ensures ss) ∙ c.if-declares.false))
