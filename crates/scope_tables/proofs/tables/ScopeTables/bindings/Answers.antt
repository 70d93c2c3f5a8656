use Rattle.std.specs.Prelude.{List}
use Rattle.std.proofs.Common.{ap, ◌∙◌}
use Rattle.scope_rules.specs.Bindings.{bindings, same_name}
use Rattle.scope_tables.proofs.Resolutions.{all_places}
use Rattle.scope_tables.proofs.tables.ScopeTables.bindings.Goals as goal
use Rattle.tree_places.specs.Places.{Place}

pub returns : goal.returns
returns c = c.as_slice.ensures.value ∙ c.requires.found.bindings_are ∙ ap (λ (ps : List Place). bindings same_name ps) (all_places c.args.self.now.list)
