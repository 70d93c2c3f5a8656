use Rattle.place_list.proofs.TablesStand as stand
use Rattle.place_list.proofs.laws.openers_open_scopes.Goals as goal

pub returns : goal.returns
returns c = stand.openers_open_scopes
