use Rattle.std.proofs.Common.{rules, ℕ, ◌-◌, ◌<◌, ◌+◌, List, drop, take, flat_map, get_or, length, ap, arith}
use Rattle.oxc_data_structures.specs.CodeBuffer.{Appends}
use Rattle.oxc_estree.specs.Escapes.{byte_text}
use Rattle.oxc_estree.proofs.Refusals.{at_err, refused_within, all_printed}
use Rattle.oxc_estree.proofs.TextRuns.{plain_run, run_boundary, escape_boundary, run_end, run_text, run_escape_text, rest_text}
use Rattle.oxc_estree.proofs.strings.print_run.Goals as goal

pub range-requires-clause-end_boundary : goal.range-requires-clause-end_boundary
range-requires-clause-end_boundary c =
    let r = plain_run c.requires.boundary.0 c.as_bytes.ensures.value c.plain_end-end.ensures in
    let b = run_boundary r in
    search rules

pub returns-then-end-text-clause-ok : goal.returns-then-end-text-clause-ok
returns-then-end-text-clause-ok c =
    let r = plain_run c.requires.boundary.0 c.as_bytes.ensures.value c.plain_end-end.ensures in
    rw (run_text r) (rw c.range.ensures.value at c.in_ok-print_str.ensures.ok)

pub returns-in_err-print_text_char-clause-refused :
    goal.returns-in_err-print_text_char-clause-refused
returns-in_err-print_text_char-clause-refused c =
    let r = plain_run c.requires.boundary.0 c.as_bytes.ensures.value c.plain_end-end.ensures in
    let last : c.plain_end-end.result < length c.args.text.now = omega (arith, (run_end r).1, c.if-end-text.false) in
    let byte = ap (λ (bs : List ℕ). get_or bs c.plain_end-end.result 0) c.as_bytes-2.ensures.value in
    let run : Appends c.args.buffer.now c.print_str.new.self (take (c.plain_end-end.result - c.args.start) (drop c.args.start c.args.text.now)) = rw c.range.ensures.value at c.in_ok-print_str.ensures.ok in
    at_err _
    (refused_within _ (flat_map byte_text (drop (c.plain_end-end.result + 1) c.args.text.now)) (rest_text r last byte) run c.in_err-print_text_char.ensures.refused)

pub returns-clause-next : goal.returns-clause-next
returns-clause-next c =
    let r = plain_run c.requires.boundary.0 c.as_bytes.ensures.value c.plain_end-end.ensures in
    let last : c.plain_end-end.result < length c.args.text.now = omega (arith, (run_end r).1, c.if-end-text.false) in
    (omega (arith, (run_end r).0), escape_boundary r c.utf8.text last)

pub returns-clause-ok : goal.returns-clause-ok
returns-clause-ok c =
    let r = plain_run c.requires.boundary.0 c.as_bytes.ensures.value c.plain_end-end.ensures in
    let last : c.plain_end-end.result < length c.args.text.now = omega (arith, (run_end r).1, c.if-end-text.false) in
    let byte = ap (λ (bs : List ℕ). get_or bs c.plain_end-end.result 0) c.as_bytes-2.ensures.value in
    let run : Appends c.args.buffer.now c.print_str.new.self (take (c.plain_end-end.result - c.args.start) (drop c.args.start c.args.text.now)) = rw c.range.ensures.value at c.in_ok-print_str.ensures.ok in
    all_printed _ (run_escape_text r last byte) run c.in_ok-print_text_char.ensures.ok
