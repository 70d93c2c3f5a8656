use Rattle.std.proofs.Common.{subst, List, ℕ}
use Rattle.memchr.specs.Find.{OccursAt}
use Rattle.oxc_str.specs.JSStrPattern.{IsLeast}
use Rattle.oxc_str.proofs.js_str_pattern.TextJSStrPattern.find_in.Goals as goal

pub returns : goal.returns
returns c =
    subst (λ (hay : List ℕ). IsLeast (OccursAt hay c.args.self.0.now) c.find_bytes.result) c.as_bytes.ensures.bytes
    (subst (λ (text : List ℕ). IsLeast (OccursAt c.as_bytes.result.now text) c.find_bytes.result) c.as_bytes-2.ensures.value c.find_bytes.ensures)
