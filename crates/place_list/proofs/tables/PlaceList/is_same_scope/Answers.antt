use Rattle.std.proofs.Common.{◌∙◌, sym}
use Rattle.place_list.proofs.OutwardWalks.{same_scope_is_number}
use Rattle.place_list.proofs.tables.PlaceList.is_same_scope.Goals as goal

pub returns : goal.returns
returns c = c.same_number.ensures ∙ sym (same_scope_is_number c.args.self.now c.args.a c.args.b c.requires.a c.requires.b)
