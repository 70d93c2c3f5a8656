use Rattle.tree_places.proofs.Blind.{scopes_renamed, sites_renamed, withs_renamed}
use Rattle.tree_places.proofs.laws.renaming_moves_no_place.Goals as goal

pub returns : goal.returns
returns c = λ t u r. (sites_renamed t u r, scopes_renamed t u r, withs_renamed t u r)
