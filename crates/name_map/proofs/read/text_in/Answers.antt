use Rattle.std.proofs.Common.{Some, sym, ap, ◌∙◌}
use Rattle.tree_core.proofs.ObjectMembers.{text_in-String}
use Rattle.name_map.proofs.read.text_in.Goals as goal

pub returns-in-String : goal.returns-in-String
returns-in-String c = rw c.in-String.is (ap Some c.as_str.ensures.value ∙ sym (text_in-String c.in-String.text))
