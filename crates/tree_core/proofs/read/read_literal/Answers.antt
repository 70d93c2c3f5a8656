use Rattle.std.proofs.Common.{true≢false, sym, ◌∙◌}
use Rattle.serde_json.proofs.Views.{view-Object}
use Rattle.tree_core.proofs.ObjectMembers.{value_part-members}
use Rattle.tree_core.proofs.read.read_literal.Goals as goal

pub returns-else-is_empty-clause-err : goal.returns-else-is_empty-clause-err
returns-else-is_empty-clause-err c =
    rw (c.in-Object.is, view-Object)
    (value_part-members c.in-Object.members.entries (λ none. true≢false (sym (c.is_empty.ensures.1 none) ∙ c.if-is_empty.false)))
