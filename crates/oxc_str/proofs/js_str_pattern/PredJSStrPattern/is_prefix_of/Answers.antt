use Rattle.std.proofs.Common.{sym, ◌∙◌}
use Rattle.oxc_str.specs.JSStr.{js_bytes}
use Rattle.oxc_str.specs.contracts.js_str_pattern.PredJSStrPattern.F-Fn as F-Fn
use Rattle.oxc_str.proofs.Patterns.{front_answer}
use Rattle.oxc_str.proofs.js_str_pattern.PredJSStrPattern.is_prefix_of.Goals as goal

pub returns-in-Some : goal.returns-in-Some
returns-in-Some g c =
    front_answer ((F-Fn.words g.row.F g.F.Fn).post c.args.self.0) c.requires.1 (js_bytes c.args.haystack) c.next.new.self c.in-Some.c c.passes.result (sym c.chars.ensures ∙ c.in-Some.ensures.steps) c.passes.ensures
