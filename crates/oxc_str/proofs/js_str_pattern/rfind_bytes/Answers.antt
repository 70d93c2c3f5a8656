use Rattle.oxc_str.proofs.Patterns.{greatest}
use Rattle.oxc_str.proofs.js_str_pattern.rfind_bytes.Goals as goal

pub returns : goal.returns
returns c = greatest _ _ _ c.rfind.ensures
