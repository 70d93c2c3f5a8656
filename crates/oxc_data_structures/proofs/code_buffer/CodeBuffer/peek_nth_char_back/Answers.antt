use Rattle.oxc_data_structures.proofs.TextLemmas.{nth_char_back}
use Rattle.oxc_data_structures.proofs.code_buffer.CodeBuffer.peek_nth_char_back.Goals as goal

pub returns : goal.returns
returns c =
    rw (← c.self.view_is, ← c.as_str.ensures.value, ← c.chars.ensures.rest)
    (nth_char_back _ _ _ _ (rw c.chars.ensures.rest c.as_str.utf8) c.nth_back.ensures.ran)
