use Rattle.oxc_str.proofs.Patterns.{at_end, end_at}
use Rattle.oxc_str.proofs.js_str_pattern.ends_with_bytes.Goals as goal

pub returns : goal.returns
returns c = (
  λ t. at_end c.args.haystack.now c.args.needle.now (c.is_suffix.ensures.0 t),
  λ o. c.is_suffix.ensures.1 (end_at c.args.haystack.now c.args.needle.now o),
)
