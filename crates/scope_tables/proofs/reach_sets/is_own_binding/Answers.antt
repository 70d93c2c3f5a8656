use Rattle.std.proofs.Common.{sym, ap, ◌∙◌}
use Rattle.scope_rules.specs.Bindings.{is_binding, is_node, node}
use Rattle.place_list.specs.Tables.{place_of, site_of}
use Rattle.scope_tables.specs.Views.{bound_of}
use Rattle.scope_tables.proofs.reach_sets.is_own_binding.Goals as goal

pub returns-in-Some : goal.returns-in-Some
unfolding is_binding bound_of place_of site_of node is_node
returns-in-Some c = λ ss. sym (ap (λ o. is_node o c.args.place.now.place.node) c.in-Some.is) ∙ c.declared_binding.ensures ss c.args.place.now.place.node

pub returns-in-None : goal.returns-in-None
unfolding is_binding bound_of place_of site_of node is_node
returns-in-None c = λ ss. sym (ap (λ o. is_node o c.args.place.now.place.node) c.in-None.is) ∙ c.declared_binding.ensures ss c.args.place.now.place.node
