use Rattle.std.proofs.lemmas.Map.Text.{btree_map_updates_str}
use Rattle.scope_rules.specs.Bindings.{same_name}
use Rattle.tree_semantic.proofs.private_names.put.Goals as goal

pub returns-in-Ok-clause-put : goal.returns-in-Ok-clause-put
unfolding same_name
returns-in-Ok-clause-put c = λ x. btree_map_updates_str c.args.old.now c.args.names.now c.insert.new.self _ c.in-Ok.ensures.updates x
