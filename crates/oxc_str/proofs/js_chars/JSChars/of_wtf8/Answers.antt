use Rattle.oxc_str.proofs.Decoding.{IsWtf8-general}
use Rattle.oxc_str.proofs.js_chars.JSChars.of_wtf8.Goals as goal

pub invariant_of-result : goal.invariant_of-result
invariant_of-result c = IsWtf8-general _ c.requires
