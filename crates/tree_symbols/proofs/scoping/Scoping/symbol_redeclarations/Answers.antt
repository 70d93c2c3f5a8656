use Rattle.std.specs.Prelude.{◌≡◌, ℕ, length}
use Rattle.std.proofs.Common.{ap, arith, ◌∙◌}
use Rattle.scope_rules.specs.Bindings.{same_name}
use Rattle.scope_rules.specs.Symbols.{redeclarations, symbols}
use Rattle.tree_symbols.specs.Scopings.{places_of}
use Rattle.number_tables.specs.GroupsOf.{group_count}
use Rattle.tree_symbols.proofs.scoping.Scoping.symbol_redeclarations.Goals as goal

pub redeclarations-requires : goal.redeclarations-requires
redeclarations-requires c =
    let many : group_count c.args.self.now.symbols.declarations ≡ length (symbols same_name (places_of c.args.self.now)) = c.requires.scoping.symbols_are.declarations_count in
    omega (arith, many, c.index.ensures.value, c.requires.id)

pub returns : goal.returns
returns c =
    let ps = places_of c.args.self.now in
    c.redeclarations.ensures ps (length c.args.self.now.tables.list.scopes.items) c.requires.scoping.symbols_are ∙ ap (λ (k : ℕ). redeclarations same_name ps k) c.index.ensures.value
