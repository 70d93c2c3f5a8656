use Rattle.std.specs.Prelude.{◌-◌}
use Rattle.oxc_mangler.proofs.LookedUp.{none_named}
use Rattle.tree_semantic.specs.Renamed.{class_count, new_name}
use Rattle.oxc_mangler.proofs.class_names.push_name.Goals as goal

pub returns-in_default-clause-names : goal.returns-in_default-clause-names
returns-in_default-clause-names c = λ k x. none_named (new_name c.args.names.now) (class_count c.args.names.now - 1) k c.args.old.now x c.args.new c.in_default.is c.requires.none
