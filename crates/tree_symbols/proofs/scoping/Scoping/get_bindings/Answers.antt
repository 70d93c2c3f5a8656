use Rattle.std.specs.Prelude.{◌≡◌, ℕ, length}
use Rattle.std.proofs.Common.{ap, arith, ◌∙◌}
use Rattle.scope_rules.specs.Bindings.{same_name}
use Rattle.scope_rules.specs.Symbols.{scope_symbols}
use Rattle.tree_symbols.specs.Scopings.{places_of, scopes_of}
use Rattle.number_tables.specs.GroupsOf.{group_count}
use Rattle.tree_symbols.proofs.Readings.{scopes_many}
use Rattle.tree_symbols.proofs.scoping.Scoping.get_bindings.Goals as goal

pub scope_symbols-requires : goal.scope_symbols-requires
scope_symbols-requires c =
    let l = c.args.self.now.tables.list in
    let many : length (scopes_of c.args.self.now) ≡ length l.scopes.items = scopes_many l in
    let groups : group_count c.args.self.now.symbols.scope_symbols ≡ length l.scopes.items = c.requires.scoping.symbols_are.scopes_count in
    omega (arith, many, groups, c.index.ensures.value, c.requires.id)

pub returns : goal.returns
returns c =
    let ps = places_of c.args.self.now in
    c.scope_symbols.ensures ps (length c.args.self.now.tables.list.scopes.items) c.requires.scoping.symbols_are ∙ ap (λ (k : ℕ). scope_symbols same_name ps k) c.index.ensures.value
