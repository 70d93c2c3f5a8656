use Rattle.name_rules.proofs.GroupsInOrder as order
use Rattle.name_rules.proofs.laws.slots_are_fewest.Goals as goal

pub returns-clause-fewest : goal.returns-clause-fewest
returns-clause-fewest c = order.slots_are_fewest

pub returns-clause-reached : goal.returns-clause-reached
returns-clause-reached c = order.width_is_reached
