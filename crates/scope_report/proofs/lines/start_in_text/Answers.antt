use Rattle.std.specs.Prelude.{List}
use Rattle.std.proofs.Common.{subst, refl, take_all}
use Rattle.std.proofs.lemmas.Bool.{both_ways}
use Rattle.scope_report.proofs.Starts.{bad_start, none_start, one_start_more}
use Rattle.scope_report.specs.Findings.{StartInText}
use Rattle.scope_report.specs.Views.{found_views}
use Rattle.scope_report.specs.declared.found.FoundAt.{FoundAt}
use Rattle.scope_report.proofs.lines.start_in_text.Goals as goal

pub loop-one-init : goal.loop-one-init
loop-one-init c = none_start c.args.source_text.now

pub loop-one-preserved : goal.loop-one-preserved
loop-one-preserved c =
    one_start_more c.args.found.now c.loop-one.one-index _ c.loop-one-test.true c.args.source_text.now c.loop-one.invariant (c.is_char_boundary.ensures.test.0 c.if-not-is_char_boundary.false)

pub returns-then-not-is_char_boundary : goal.returns-then-not-is_char_boundary
returns-then-not-is_char_boundary c = record {
  yes = λ e. absurd (both_ways _ refl e);
  no = λ e. bad_start c.args.found.now c.loop-one.one-index _ c.loop-one-test.true c.args.source_text.now (λ cut. both_ways _ c.if-not-is_char_boundary.true (c.is_char_boundary.ensures.test.1 cut));
}

pub returns : goal.returns
returns c = record {
  yes = λ e. subst (λ (fs : List FoundAt). StartInText c.args.source_text.now (found_views fs)) (take_all c.loop-one.one-index c.args.found.now c.loop-one-test.false) c.loop-one.invariant;
  no = λ e. absurd (both_ways _ e refl);
}
