use Rattle.std.specs.Prelude.{Option, ◌&&◌, ℕ}
use Rattle.std.proofs.Common.{ap, sym, ◌∙◌}
use Rattle.kept_names.specs.Puts.{is_at_key}
use Rattle.scope_rules.specs.Bindings.{is_node}
use Rattle.kept_names.proofs.values.in_declarator.Goals as goal

pub returns-in-Some : goal.returns-in-Some
unfolding is_node
returns-in-Some c = λ d n. c.bound_in.ensures d n ∙ sym (ap (λ (o : Option ℕ). is_node o d && is_node c.args.binding n) c.in-Some.is)

pub returns-in-None : goal.returns-in-None
unfolding is_node is_at_key
returns-in-None c = λ d n. sym (ap (λ (o : Option ℕ). is_node o d && is_node c.args.binding n) c.in-None.is)
