use Rattle.std.proofs.Common.{sym}
use Rattle.oxc_str.proofs.Canonical.{IsWtf8-IsUtf8, no_lone-IsUtf8}
use Rattle.oxc_str.proofs.js_str.JSStr.from_str.Goals as goal

pub invariant_of-result : goal.invariant_of-result
invariant_of-result c = record {
  canonical = IsWtf8-IsUtf8 _ c.as_bytes.ensures.utf8;
  flag = sym (no_lone-IsUtf8 _ c.as_bytes.ensures.utf8);
}
