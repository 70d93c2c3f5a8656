use Rattle.std.specs.Prelude.{◌≡◌, ℕ, IfSome, length, slice_get}
use Rattle.std.proofs.Common.{arith, subst}
use Rattle.tree_symbols.specs.Scopings.{places_of, scopes_of}
use Rattle.syntax_sem.specs.ScopeFlags.{bits_of}
use Rattle.tree_symbols.specs.Flags as flags
use Rattle.tree_symbols.specs.Scopings.{scope_nodes_of}
use Rattle.scope_rules.specs.Evals.{holds_eval}
use Rattle.tree_symbols.proofs.Readings.{scope_told, scopes_many}
use Rattle.tree_symbols.proofs.scoping.Scoping.scope_flags.Goals as goal

pub scope-scope-requires : goal.scope-scope-requires
scope-scope-requires c =
    let many : length (scopes_of c.args.self.now) ≡ length c.args.self.now.tables.list.scopes.items = scopes_many c.args.self.now.tables.list in
    omega (arith, many, c.index-k.ensures.value, c.requires.id)

pub returns : goal.returns
returns c =
    let s = c.args.self.now in
    subst (λ (k : ℕ). IfSome (slice_get (scope_nodes_of s) k) (λ n. IfSome (slice_get (scopes_of s) k) (λ r. bits_of c.scope_flags.result ≡ flags.scope_flags n.kind n.strict (holds_eval (places_of s) r)))) c.index-k.ensures.value
    (scope_told s.tables.list (places_of s) s.evals c.index-k.result c.scope-scope.result c.has_bit.result _ c.requires.scoping.evals_are
    c.has_bit.ensures c.scope-scope.ensures c.scope_flags.ensures)
