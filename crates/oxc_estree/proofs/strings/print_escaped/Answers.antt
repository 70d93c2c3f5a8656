use Rattle.std.proofs.Common.{rules, arith}
use Rattle.std.proofs.lemmas.Str.{IsCharBoundary-start}
use Rattle.oxc_estree.proofs.Refusals.{at_err, refused_after, all_printed}
use Rattle.oxc_estree.proofs.TextRuns.{text_more, text_parts}
use Rattle.oxc_estree.proofs.strings.print_escaped.Goals as goal

pub returns-in_err-start-clause-refused : goal.returns-in_err-start-clause-refused
returns-in_err-start-clause-refused c =
    at_err _ (refused_after _ (text_parts c.args.text.now c.loop-start.start) c.loop-start.invariant.printed c.in_err-start.ensures.refused)

pub loop-start-preserved : goal.loop-start-preserved
loop-start-preserved c =
    let next = c.in_ok-start.ensures.next in
    record {
      printed = all_printed _ (text_more c.args.text.now c.loop-start.start c.in_ok-start.start (omega (arith, next.0))) c.loop-start.invariant.printed c.in_ok-start.ensures.ok;
      boundary = next.1;
    }

pub loop-start-init : goal.loop-start-init
loop-start-init c = record { printed = search rules; boundary = IsCharBoundary-start c.args.text.now c.utf8.text }
