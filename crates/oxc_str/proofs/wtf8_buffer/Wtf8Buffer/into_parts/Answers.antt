use Rattle.oxc_str.proofs.Pushes.{flag_is}
use Rattle.oxc_str.proofs.wtf8_buffer.Wtf8Buffer.into_parts.Goals as goal

pub returns-clause-flag : goal.returns-clause-flag
returns-clause-flag g c = flag_is _ _ _ c.self.invariant c.self.view_is
