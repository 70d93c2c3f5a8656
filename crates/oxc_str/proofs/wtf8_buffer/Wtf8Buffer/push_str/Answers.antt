use Rattle.oxc_str.proofs.Canonical.{IsWtf8-IsUtf8}
use Rattle.oxc_str.proofs.Pushes.{utf8_count}
use Rattle.oxc_str.proofs.wtf8_buffer.Wtf8Buffer.push_str.Goals as goal

pub append-requires-clause-text : goal.append-requires-clause-text
append-requires-clause-text g c = IsWtf8-IsUtf8 _ c.as_bytes.ensures.utf8

pub append-requires-clause-counted : goal.append-requires-clause-counted
append-requires-clause-counted g c = utf8_count _ c.as_bytes.ensures.utf8
