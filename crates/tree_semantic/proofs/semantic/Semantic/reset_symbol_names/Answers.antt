use Rattle.tree_semantic.proofs.Renaming.{names_only, still_semantic}
use Rattle.tree_semantic.proofs.semantic.Semantic.reset_symbol_names.Goals as goal

pub reset_symbol_names-requires : goal.reset_symbol_names-requires
reset_symbol_names-requires c = c.requires.of_tree.scoping

pub returns-clause-semantic : goal.returns-clause-semantic
returns-clause-semantic c = still_semantic c.args.self.now c.reset_symbol_names.new.self c.reset_symbol_names.ensures.scoping c.reset_symbol_names.ensures.same c.requires

pub returns-clause-same : goal.returns-clause-same
returns-clause-same c = λ t a. names_only c.args.self.now c.reset_symbol_names.new.self c.reset_symbol_names.ensures.scoping c.reset_symbol_names.ensures.same t a
