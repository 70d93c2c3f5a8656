use Rattle.place_list.proofs.TablesStand as stand
use Rattle.place_list.proofs.laws.sites_are_nodes.Goals as goal

pub returns : goal.returns
returns c = stand.sites_are_nodes
