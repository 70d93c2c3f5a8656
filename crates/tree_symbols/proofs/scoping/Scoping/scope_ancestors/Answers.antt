use Rattle.std.specs.Prelude.{◌≡◌, ℕ, List, Some, IfSome, length, slice_get}
use Rattle.std.proofs.Common.{ap, arith, subst, sym, ◌∙◌}
use Rattle.tree_places.specs.Scopes.{Scope}
use Rattle.tree_symbols.specs.Scopings.{scopes_of}
use Rattle.place_list.specs.declared.tables.ScopeEntry.{ScopeEntry}
use Rattle.tree_symbols.specs.Around.{LeadOutwards, scopes_from}
use Rattle.tree_symbols.proofs.Outwards.{of_scope}
use Rattle.tree_symbols.proofs.Readings.{scopes_many}
use Rattle.tree_symbols.proofs.scoping.Scoping.scope_ancestors.Goals as goal

pub new-requires : goal.new-requires
new-requires c =
    let l = c.args.self.now.tables.list in
    let many : length (scopes_of c.args.self.now) ≡ length l.scopes.items = scopes_many l in
    subst (λ (es : List ScopeEntry). LeadOutwards es (Some c.index.result)) (sym c.as_slice.ensures.value)
    (record { comes_before = c.requires.scoping.tables_are.bounded.scopes; few = c.requires.scoping.few_scopes; at = omega (arith, many, c.index.ensures.value, c.requires.id) })

pub returns : goal.returns
unfolding scopes_from
returns c =
    let l = c.args.self.now.tables.list in
    subst (λ (k : ℕ). IfSome (slice_get (scopes_of c.args.self.now) k) (λ s. c.new.result ≡ s)) c.index.ensures.value
    (of_scope l c.index.result (λ (s : Scope). c.new.result ≡ s) (c.new.ensures ∙ ap (λ (es : List ScopeEntry). scopes_from es (Some c.index.result)) c.as_slice.ensures.value))
