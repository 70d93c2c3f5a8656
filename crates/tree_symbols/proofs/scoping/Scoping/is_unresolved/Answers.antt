use Rattle.std.proofs.Common.{◌∙◌}
use Rattle.tree_symbols.proofs.scoping.Scoping.is_unresolved.Goals as goal

pub returns : goal.returns
returns c = c.is_among.ensures ∙ c.requires.unresolved_are c.args.name.now
