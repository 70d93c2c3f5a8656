use Rattle.std.proofs.lemmas.Str.{IsUtf8-from_ascii}
use Rattle.oxc_data_structures.proofs.inline_string.InlineString.as_str.Goals as goal

pub from_utf8_unchecked-requires : goal.from_utf8_unchecked-requires
from_utf8_unchecked-requires g c = rw c.to_usize.ensures.number (IsUtf8-from_ascii _ c.self.invariant.0.ascii)
