use Rattle.tree_semantic.proofs.Renaming.{names_only, still_semantic}
use Rattle.tree_semantic.proofs.semantic.Semantic.set_symbol_names.Goals as goal

pub set_symbol_names-requires-clause-scoping : goal.set_symbol_names-requires-clause-scoping
set_symbol_names-requires-clause-scoping c = c.requires.semantic.of_tree.scoping

pub returns-clause-semantic : goal.returns-clause-semantic
returns-clause-semantic c = still_semantic c.args.self.now c.set_symbol_names.new.self c.set_symbol_names.ensures.scoping c.set_symbol_names.ensures.same c.requires.semantic

pub returns-clause-same : goal.returns-clause-same
returns-clause-same c = λ t a. names_only c.args.self.now c.set_symbol_names.new.self c.set_symbol_names.ensures.scoping c.set_symbol_names.ensures.same t a
