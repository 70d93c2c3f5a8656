use Rattle.std.proofs.Common.{sym, ◌∙◌}
use Rattle.oxc_str.proofs.Canonical.{IsUtf8-no_lone}
use Rattle.oxc_str.proofs.js_str.JSStr.as_str.Goals as goal

pub from_utf8_unchecked-requires : goal.from_utf8_unchecked-requires
from_utf8_unchecked-requires c = IsUtf8-no_lone _ c.args.self.canonical (sym c.args.self.flag ∙ c.if-self.false)
