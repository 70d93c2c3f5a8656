use Rattle.std.specs.Prelude.{Option, nat_eq, ◌&&◌, ℕ}
use Rattle.std.proofs.Common.{ap, sym, ◌∙◌}
use Rattle.kept_names.proofs.NameCauses.{and_false}
use Rattle.kept_names.specs.Puts.{is_at_key}
use Rattle.scope_rules.specs.Bindings.{is_node}
use Rattle.kept_names.proofs.values.bound_in.Goals as goal

pub returns-in-Some : goal.returns-in-Some
unfolding is_node is_at_key
returns-in-Some c = λ d n. sym (ap (λ (o : Option ℕ). nat_eq c.args.declarator d && is_node o n) c.in-Some.is)

pub returns-in-None : goal.returns-in-None
unfolding is_node is_at_key
returns-in-None c = λ d n. sym (ap (λ (o : Option ℕ). nat_eq c.args.declarator d && is_node o n) c.in-None.is ∙ and_false (nat_eq c.args.declarator d))
