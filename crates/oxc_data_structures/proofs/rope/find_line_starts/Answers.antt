use Rattle.std.proofs.Common.{true, false, sym, ap, ◌∙◌}
use Rattle.std.specs.Str.{chars}
use Rattle.oxc_data_structures.specs.Rope.{ends_line}
use Rattle.oxc_data_structures.proofs.RopeLemmas.{IsScanned-next, line_starts-scanned}
use Rattle.oxc_data_structures.proofs.rope.find_line_starts.Goals as goal

pub loop-ch-preserved-in-Continue-branch-2 : goal.loop-ch-preserved-in-Continue-branch-2
loop-ch-preserved-in-Continue-branch-2 c =
    rw c.in_ok-push.ensures.items
    (IsScanned-next _ _ _ _ _ _ _ true c.loop-ch.invariant c.in-Some.ensures.steps.0 c.len_utf8.ensures.value
    (sym c.if-is_end_of_line.true ∙ c.is_end_of_line.ensures ∙ ap (λ s. ends_line c.in-Some.ch (chars s)) c.as_str.ensures))

pub loop-ch-preserved : goal.loop-ch-preserved
loop-ch-preserved c =
    IsScanned-next _ _ _ _ _ _ _ false c.loop-ch.invariant c.in-Some.ensures.steps.0 c.len_utf8.ensures.value
    (sym c.if-is_end_of_line.false ∙ c.is_end_of_line.ensures ∙ ap (λ s. ends_line c.in-Some.ch (chars s)) c.as_str.ensures)

pub returns : goal.returns
returns c = line_starts-scanned _ _ _ _ c.loop-ch.invariant c.in_default.ensures.steps.0.0
