use Rattle.name_rules.proofs.GroupsInOrder as order
use Rattle.name_rules.proofs.laws.slots_never_clash.Goals as goal

pub returns : goal.returns
returns c = order.slots_never_clash
