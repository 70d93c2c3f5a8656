use Rattle.std.proofs.Common.{length, nat_eq, ap, ◌∙◌}
use Rattle.serde_json.proofs.Views.{view-Array}
use Rattle.tree_core.proofs.ObjectMembers.{is_blank_items}
use Rattle.tree_core.proofs.read.is_blank.Goals as goal

pub returns-in-Array : goal.returns-in-Array
returns-in-Array c =
    rw (c.in-Array.is, view-Array) (c.is_empty.ensures ∙ ap (λ xs. nat_eq (length xs) 0) c.as_slice.ensures.value ∙ is_blank_items c.in-Array.items.items)
