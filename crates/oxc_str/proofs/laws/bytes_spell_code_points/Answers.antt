use Rattle.std.proofs.Common.{sym}
use Rattle.oxc_str.proofs.Canonical.{code_points-chars}
use Rattle.oxc_str.proofs.laws.bytes_spell_code_points.Goals as goal

pub returns : goal.returns
returns c = λ bytes w. sym (code_points-chars bytes w)
