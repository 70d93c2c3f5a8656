use Rattle.name_map.proofs.WrittenMaps as written
use Rattle.name_map.proofs.laws.maps_read_back.Goals as goal

pub returns : goal.returns
returns c = written.maps_read_back
