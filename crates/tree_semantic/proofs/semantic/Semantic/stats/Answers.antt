use Rattle.std.specs.Prelude.{List, length}
use Rattle.std.proofs.Common.{ap, ◌∙◌}
use Rattle.std.proofs.lemmas.List.{length-map}
use Rattle.place_list.specs.Nodes.{nested_nodes}
use Rattle.scope_rules.specs.Bindings.{same_name}
use Rattle.scope_rules.specs.References.{references}
use Rattle.scope_rules.specs.Symbols.{symbols}
use Rattle.tree_places.specs.Places.{Place}
use Rattle.tree_semantic.specs.Nodes.{told}
use Rattle.tree_semantic.proofs.semantic.Semantic.stats.Goals as goal

pub scopes_len-requires : goal.scopes_len-requires
scopes_len-requires c = c.requires.of_tree.scoping

pub symbols_len-requires : goal.symbols_len-requires
symbols_len-requires c = c.requires.of_tree.scoping

pub references_len-requires : goal.references_len-requires
references_len-requires c = c.requires.of_tree.scoping

pub returns-clause-nodes : goal.returns-clause-nodes
returns-clause-nodes c = λ t a. c.len.ensures ∙ ap length a.nodes ∙ length-map (nested_nodes t) told

pub returns-clause-scopes : goal.returns-clause-scopes
returns-clause-scopes c = λ t a. c.scopes_len.ensures.scopes ∙ ap length a.scopes

pub returns-clause-symbols : goal.returns-clause-symbols
returns-clause-symbols c = λ t a. c.symbols_len.ensures.symbols ∙ ap (λ (ps : List Place). length (symbols same_name ps)) a.places

pub returns-clause-references : goal.returns-clause-references
returns-clause-references c = λ t a. c.references_len.ensures.references ∙ ap (λ (ps : List Place). length (references ps)) a.places
