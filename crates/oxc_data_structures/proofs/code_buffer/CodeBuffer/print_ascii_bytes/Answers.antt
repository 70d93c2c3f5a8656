use Rattle.std.proofs.lemmas.Str.{IsUtf8-from_ascii}
use Rattle.oxc_data_structures.proofs.code_buffer.CodeBuffer.print_ascii_bytes.Goals as goal

pub from_utf8_unchecked-text-requires : goal.from_utf8_unchecked-text-requires
from_utf8_unchecked-text-requires c = IsUtf8-from_ascii _ c.requires
