use Rattle.std.proofs.Common.{subst, ◌∙◌, encode_utf8, List, ℕ}
use Rattle.memchr.specs.Find.{OccursAt}
use Rattle.oxc_str.specs.JSStrPattern.{IsLeast}
use Rattle.oxc_str.proofs.js_str_pattern.CharJSStrPattern.find_in.Goals as goal

pub returns : goal.returns
returns c =
    subst (λ (hay : List ℕ). IsLeast (OccursAt hay (encode_utf8 c.args.self)) c.find_bytes.result) c.as_bytes.ensures.bytes
    (subst (λ (text : List ℕ). IsLeast (OccursAt c.as_bytes.result.now text) c.find_bytes.result) (c.as_bytes-2.ensures.value ∙ c.encode_utf8.ensures.value) c.find_bytes.ensures)
