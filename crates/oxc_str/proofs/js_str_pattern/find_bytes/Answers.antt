use Rattle.oxc_str.proofs.Patterns.{least}
use Rattle.oxc_str.proofs.js_str_pattern.find_bytes.Goals as goal

pub returns : goal.returns
returns c = least _ _ _ c.find.ensures
