use Rattle.tree_apply_tests.proofs.renamed.mangled.Goals as goal

pub apply_names-requires-clause-names : goal.apply_names-requires-clause-names
apply_names-requires-clause-names c = λ k x e. (c.in_ok-names.ensures.mangled c.args.program.now c.in_ok-semantic.ensures.of_program).named.identifiers k x e

pub apply_names-requires-clause-private : goal.apply_names-requires-clause-private
apply_names-requires-clause-private c = λ k old x e. (c.in_ok-names.ensures.mangled c.args.program.now c.in_ok-semantic.ensures.of_program).private.identifiers k old x e
