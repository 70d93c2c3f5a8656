use Rattle.name_rules.proofs.Shortest as shortest
use Rattle.name_rules.proofs.shortest_laws.no_choice_is_shorter.Goals as goal

pub returns : goal.returns
returns c = shortest.no_choice_is_shorter
