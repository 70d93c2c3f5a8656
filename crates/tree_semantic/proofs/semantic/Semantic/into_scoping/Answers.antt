use Rattle.tree_semantic.proofs.semantic.Semantic.into_scoping.Goals as goal

pub returns-clause-sound : goal.returns-clause-sound
returns-clause-sound c = c.requires.of_tree.scoping
