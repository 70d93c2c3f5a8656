use Rattle.std.specs.Prelude.{◌≡◌, ℕ, length}
use Rattle.std.proofs.Common.{ap, arith, ◌∙◌}
use Rattle.scope_rules.specs.Bindings.{same_name}
use Rattle.scope_rules.specs.References.{symbol_references}
use Rattle.scope_rules.specs.Symbols.{symbols}
use Rattle.tree_symbols.specs.Scopings.{places_of}
use Rattle.number_tables.specs.GroupsOf.{group_count}
use Rattle.tree_symbols.proofs.scoping.Scoping.get_resolved_reference_ids.Goals as goal

pub symbol_references-requires : goal.symbol_references-requires
symbol_references-requires c =
    let many : group_count c.args.self.now.references.symbol_references ≡ length (symbols same_name (places_of c.args.self.now)) = c.requires.scoping.references_are.symbols_count in
    omega (arith, many, c.index.ensures.value, c.requires.id)

pub returns : goal.returns
returns c =
    let ps = places_of c.args.self.now in
    c.symbol_references.ensures ps c.requires.scoping.references_are ∙ ap (λ (k : ℕ). symbol_references same_name ps k) c.index.ensures.value
