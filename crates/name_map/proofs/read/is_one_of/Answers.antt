use Rattle.std.proofs.Common.{rules}
use Rattle.tree_core.proofs.ObjectMembers.{either_key-units_of}
use Rattle.name_map.proofs.read.is_one_of.Goals as goal

pub returns-then-eq : goal.returns-then-eq
returns-then-eq c =
    rw (either_key-units_of c.args.key.now c.args.first.now c.args.second.now c.utf8.key c.requires.first c.requires.second) (search rules)

pub returns-else-eq : goal.returns-else-eq
returns-else-eq c =
    rw (either_key-units_of c.args.key.now c.args.first.now c.args.second.now c.utf8.key c.requires.first c.requires.second) (search rules)
