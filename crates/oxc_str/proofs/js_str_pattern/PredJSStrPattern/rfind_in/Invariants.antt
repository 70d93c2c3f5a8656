use Rattle.std.proofs.Common.{length}
use Rattle.oxc_str.specs.JSStr.{js_bytes}
use Rattle.oxc_str.specs.contracts.js_str_pattern.PredJSStrPattern.F-Fn as F-Fn
use Rattle.oxc_str.proofs.Patterns.{FromBack}
use Rattle.oxc_str.proofs.js_str_pattern.PredJSStrPattern.rfind_in.Given as goal

abbrev pub invariant-loop-c : goal.invariant-loop-c
invariant-loop-c g l = FromBack ((F-Fn.words g.row.F g.F.Fn).post l.fn.self.0) (js_bytes l.fn.haystack) l.chars l.offset

abbrev pub decreases-loop-c : goal.decreases-loop-c
decreases-loop-c g l = length l.chars
