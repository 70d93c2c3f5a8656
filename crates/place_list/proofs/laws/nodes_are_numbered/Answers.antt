use Rattle.place_list.proofs.TablesStand as stand
use Rattle.place_list.proofs.laws.nodes_are_numbered.Goals as goal

pub returns : goal.returns
returns c = stand.nodes_are_numbered
