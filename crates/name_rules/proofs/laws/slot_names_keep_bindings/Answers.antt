use Rattle.scope_rules.proofs.SameNames.{same_name_tells}
use Rattle.name_rules.proofs.SlotNamesKeepApart as given
use Rattle.name_rules.specs.SlotNames.{named_by_slot}
use Rattle.name_rules.proofs.laws.slot_names_keep_bindings.Goals as goal
use Rattle.tree_places.specs.Places.{places}
use Rattle.scope_rules.proofs.BindingsStay.{bindings_stay}
use Rattle.scope_rules.specs.Bindings.{same_name}

pub returns-clause-apart : goal.returns-clause-apart
returns-clause-apart c = λ o t name root fit. given.keeps_apart o t name root fit

pub returns-clause-bindings : goal.returns-clause-bindings
returns-clause-bindings c = λ o t name root fit. bindings_stay same_name same_name same_name_tells same_name_tells (places t) (named_by_slot o t name) (given.keeps_apart o t name root fit)
