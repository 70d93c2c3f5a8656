use Rattle.std.proofs.Common.{refl, length}
use Rattle.oxc_estree.proofs.Paths.{popped_path}
use Rattle.oxc_estree.proofs.pieces.front_of.Goals as goal

pub returns-else-count-eq0 : goal.returns-else-count-eq0
returns-else-count-eq0 c = popped_path c.args.path.now _ (length c.args.path.now) refl refl
