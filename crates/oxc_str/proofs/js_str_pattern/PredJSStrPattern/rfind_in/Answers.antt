use Rattle.std.proofs.Common.{sym, subst, ◌∙◌, arith}
use Rattle.std.proofs.lemmas.Str.{length-encode}
use Rattle.oxc_str.specs.JSStr.{js_bytes}
use Rattle.oxc_str.specs.JSStrPattern.{Answers}
use Rattle.oxc_str.specs.contracts.js_str_pattern.PredJSStrPattern.F-Fn as F-Fn
use Rattle.oxc_str.proofs.Canonical.{points}
use Rattle.oxc_str.proofs.Patterns.{back_start, back_size, back_found, back_step, back_none, shorter}
use Rattle.oxc_str.proofs.js_str_pattern.PredJSStrPattern.rfind_in.Goals as goal

pub loop-c-init : goal.loop-c-init
loop-c-init g c =
    back_start ((F-Fn.words g.row.F g.F.Fn).post c.args.self.0) (js_bytes c.args.haystack) c.chars-chars.result c.len-offset.result c.chars-chars.ensures (points _ c.args.haystack.canonical).bytes_are c.len-offset.ensures

pub overflow_sub-offset : goal.overflow_sub-offset
overflow_sub-offset g c =
    let size = back_size ((F-Fn.words g.row.F g.F.Fn).post c.args.self.0) (js_bytes c.args.haystack) c.loop-c.chars c.next_back.new.self c.in-Some.c c.loop-c.offset c.len_bytes-offset.result c.loop-c.invariant c.in-Some.ensures.steps (c.len_bytes-offset.ensures ∙ sym (length-encode c.in-Some.c)) in
    omega (arith, size)

pub returns-then-passes : goal.returns-then-passes
returns-then-passes g c =
    let a = subst (Answers ((F-Fn.words g.row.F g.F.Fn).post c.args.self.0) c.in-Some.c) c.if-passes.true c.passes.ensures in
    back_found ((F-Fn.words g.row.F g.F.Fn).post c.args.self.0) c.requires.1 (js_bytes c.args.haystack) c.loop-c.chars c.next_back.new.self c.in-Some.c c.loop-c.offset c.len_bytes-offset.result c.loop-c.invariant c.in-Some.ensures.steps (c.len_bytes-offset.ensures ∙ sym (length-encode c.in-Some.c)) a.0 a.1

pub loop-c-smaller : goal.loop-c-smaller
loop-c-smaller g c = shorter c.loop-c.chars c.next_back.new.self c.in-Some.c c.in-Some.ensures.steps

pub loop-c-preserved : goal.loop-c-preserved
loop-c-preserved g c =
    let a = subst (Answers ((F-Fn.words g.row.F g.F.Fn).post c.args.self.0) c.in-Some.c) c.if-passes.false c.passes.ensures in
    back_step ((F-Fn.words g.row.F g.F.Fn).post c.args.self.0) (js_bytes c.args.haystack) c.loop-c.chars c.next_back.new.self c.in-Some.c c.loop-c.offset c.len_bytes-offset.result c.loop-c.invariant c.in-Some.ensures.steps (c.len_bytes-offset.ensures ∙ sym (length-encode c.in-Some.c)) a

pub returns : goal.returns
returns g c =
    back_none ((F-Fn.words g.row.F g.F.Fn).post c.args.self.0) c.requires.1 (js_bytes c.args.haystack) c.loop-c.chars c.loop-c.offset c.loop-c.invariant c.in_default.ensures.steps.0
