use Rattle.name_map.proofs.WrittenMaps as written
use Rattle.name_map.proofs.laws.map_texts_read.Goals as goal

pub returns : goal.returns
returns c = written.map_texts_read
