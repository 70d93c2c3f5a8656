-- Opens the definitions of this crate, and of those below it, for proofs that compute: `unfolding all_open`.
use Rattle.name_rules.specs.Open.{all_open as name_rules_open}
use Rattle.scope_marks.specs.Marks.{eval_scopes, mark_each, mark_up}

unfoldable pub all_open : Unit {0}
unfolding name_rules_open eval_scopes mark_each mark_up
all_open = tt
