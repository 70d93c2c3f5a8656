use Rattle.oxc_str.specs.JSStr.{js_bytes}
use Rattle.oxc_str.specs.contracts.js_str_pattern.PredJSStrPattern.F-Fn as F-Fn
use Rattle.oxc_str.proofs.Patterns.{FromFront}
use Rattle.oxc_str.proofs.js_str_pattern.PredJSStrPattern.find_in.Given as goal

abbrev pub invariant-loop-c : goal.invariant-loop-c
invariant-loop-c g l = record {
  can : (goal.iterator-loop-c g).can_next l.chars;
  finite : (goal.iterator-loop-c g).is_finite l.chars;
  search : FromFront ((F-Fn.words g.row.F g.F.Fn).post l.fn.self.0) (js_bytes l.fn.haystack) l.chars l.offset;
}
