use Rattle.std.proofs.Common.{sym, subst, ◌∙◌, arith}
use Rattle.std.proofs.lemmas.Str.{length-encode}
use Rattle.oxc_str.specs.JSStr.{js_bytes}
use Rattle.oxc_str.specs.JSStrPattern.{Answers}
use Rattle.oxc_str.specs.contracts.js_str_pattern.PredJSStrPattern.F-Fn as F-Fn
use Rattle.oxc_str.proofs.Canonical.{points}
use Rattle.oxc_str.proofs.Patterns.{front_found, front_fits, front_step, front_none}
use Rattle.oxc_str.proofs.js_str_pattern.PredJSStrPattern.find_in.Goals as goal

pub returns-then-passes : goal.returns-then-passes
returns-then-passes g c =
    let a = subst (Answers ((F-Fn.words g.row.F g.F.Fn).post c.args.self.0) c.in-Some.c) c.if-passes.true c.passes.ensures in
    front_found ((F-Fn.words g.row.F g.F.Fn).post c.args.self.0) c.requires.1 (js_bytes c.args.haystack) c.loop-c.chars c.next.new.self c.in-Some.c c.loop-c.offset c.loop-c.invariant.search c.in-Some.ensures.steps a.0 a.1

pub overflow_add-offset : goal.overflow_add-offset
overflow_add-offset g c =
    let fits = front_fits ((F-Fn.words g.row.F g.F.Fn).post c.args.self.0) (js_bytes c.args.haystack) c.loop-c.chars c.next.new.self c.in-Some.c c.loop-c.offset c.len_bytes-offset.result c.loop-c.invariant.search c.in-Some.ensures.steps (c.len_bytes-offset.ensures ∙ sym (length-encode c.in-Some.c)) (points _ c.args.haystack.canonical).bytes_are in
    omega (arith, fits)

pub loop-c-preserved : goal.loop-c-preserved
loop-c-preserved g c =
    let a = subst (Answers ((F-Fn.words g.row.F g.F.Fn).post c.args.self.0) c.in-Some.c) c.if-passes.false c.passes.ensures in
    record {
      can = tt;
      finite = tt;
      search = front_step ((F-Fn.words g.row.F g.F.Fn).post c.args.self.0) (js_bytes c.args.haystack) c.loop-c.chars c.next.new.self c.in-Some.c c.loop-c.offset c.len_bytes-offset.result c.loop-c.invariant.search c.in-Some.ensures.steps (c.len_bytes-offset.ensures ∙ sym (length-encode c.in-Some.c)) a;
    }

pub returns : goal.returns
returns g c =
    front_none ((F-Fn.words g.row.F g.F.Fn).post c.args.self.0) c.requires.1 (js_bytes c.args.haystack) c.loop-c.chars c.loop-c.offset c.loop-c.invariant.search c.in_default.ensures.steps.0
