-- Opens the definitions of this crate, and of those below it, for proofs that compute: `unfolding all_open`.
use Rattle.name_rules.specs.Open.{all_open as name_rules_open}
use Rattle.worked_examples.specs.Judged.{faults, is_tree, is_valid, names_kept}
use Rattle.worked_examples.specs.RivalRows.{is_binding_of, meets, has_meeting, number_of_names}

unfoldable pub all_open : Unit {0}
unfolding name_rules_open is_tree is_valid faults names_kept is_binding_of meets has_meeting number_of_names
all_open = tt
