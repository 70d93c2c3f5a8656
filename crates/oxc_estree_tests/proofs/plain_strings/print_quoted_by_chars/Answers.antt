use Rattle.std.proofs.lemmas.Iterator.{YieldsList-from_chars}
use Rattle.std.proofs.lemmas.Iterator.Consumers.{YieldsList-so_far, YieldsList-turn, YieldsList-end}
use Rattle.std.proofs.lemmas.Str.{scalars-chars}
use Rattle.std.proofs.lemmas.Result.{on_ok_weaker, on_err_weaker}
use Rattle.std.specs.Str.{chars}
use Rattle.json_text.specs.Strings.{char_text}
use Rattle.json_text.specs.Units.{units_of}
use Rattle.oxc_estree.proofs.Refusals.{at_err, refused_after, refused_at_once, refused_within, all_printed}
use Rattle.oxc_estree.proofs.Units.{units_text-chars}
use Rattle.oxc_estree_tests.proofs.Quoted.{quoted_at, quoted_end}
use Rattle.oxc_estree_tests.proofs.plain_strings.print_quoted_by_chars.Goals as goal

pub returns-in_err-print_text_char-clause-refused : goal.returns-in_err-print_text_char-clause-refused
returns-in_err-print_text_char-clause-refused c =
    let cs = chars c.args.text.now in
    let all = YieldsList-from_chars c.args.text.now c.utf8.text cc in
    let so_far = YieldsList-so_far all c.loop-c.yielded _ c.loop-c.yielded_by in
    let turn = YieldsList-turn all c.loop-c.yielded _ c.loop-c.yielded_by _ _ c.in-Some.c c.in-Some.is c.next.ensures.steps in
    let text = units_text-chars cs (scalars-chars c.args.text.now c.utf8.text) in
    at_err _
    (refused_within _ _ (quoted_at cs c.loop-c.yielded (units_of c.args.text.now) c.in-Some.c text so_far turn)
    c.loop-c.invariant (refused_at_once (char_text c.in-Some.c) c.in_err-print_text_char.ensures.refused))

pub returns-clause-ok : goal.returns-clause-ok
returns-clause-ok c =
    let cs = chars c.args.text.now in
    let end = YieldsList-end (YieldsList-from_chars c.args.text.now c.utf8.text cc) c.loop-c.yielded _ c.loop-c.yielded_by _ _ c.in-None.is c.next.ensures.steps in
    let text = units_text-chars cs (scalars-chars c.args.text.now c.utf8.text) in
    on_ok_weaker c.print_ascii_byte-2.result
    (all_printed _ (quoted_end cs c.loop-c.yielded (units_of c.args.text.now) text end.0) c.loop-c.invariant)
    c.print_ascii_byte-2.ensures.ok

pub returns-clause-refused : goal.returns-clause-refused
returns-clause-refused c =
    let cs = chars c.args.text.now in
    let end = YieldsList-end (YieldsList-from_chars c.args.text.now c.utf8.text cc) c.loop-c.yielded _ c.loop-c.yielded_by _ _ c.in-None.is c.next.ensures.steps in
    let text = units_text-chars cs (scalars-chars c.args.text.now c.utf8.text) in
    on_err_weaker c.print_ascii_byte-2.result
    (λ u. refused_after _ (quoted_end cs c.loop-c.yielded (units_of c.args.text.now) text end.0) c.loop-c.invariant (refused_at_once _ u))
    c.print_ascii_byte-2.ensures.err
