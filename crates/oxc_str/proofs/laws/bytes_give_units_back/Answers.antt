use Rattle.oxc_str.proofs.Canonical.{bytes_give_units_back}
use Rattle.oxc_str.proofs.laws.bytes_give_units_back.Goals as goal

pub returns : goal.returns
returns c = bytes_give_units_back
