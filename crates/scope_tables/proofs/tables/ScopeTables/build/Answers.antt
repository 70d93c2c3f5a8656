use Rattle.scope_tables.proofs.NodeIndex.{nodes_rise}
use Rattle.scope_tables.proofs.tables.ScopeTables.build.Goals as goal

pub from_list-requires-clause-rising : goal.from_list-requires-clause-rising
from_list-requires-clause-rising c = nodes_rise c.in_ok-list.list _ c.in_ok-list.ensures.places
