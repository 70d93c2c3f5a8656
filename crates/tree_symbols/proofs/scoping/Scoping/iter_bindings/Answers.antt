use Rattle.std.specs.Prelude.{◌≤◌, ℕ, length}
use Rattle.std.proofs.Common.{arith, subst, sym, ◌∙◌}
use Rattle.tree_symbols.specs.Scopings.{places_of, scopes_of}
use Rattle.tree_symbols.proofs.Readings.{listings_told, scopes_many}
use Rattle.tree_symbols.proofs.scoping.Scoping.iter_bindings.Goals as goal

pub new-requires : goal.new-requires
new-requires c = record {
  few = subst (λ (n : ℕ). n ≤ 4294967295) (sym c.requires.symbols_are.scopes_count) c.requires.few_scopes;
  at = omega arith;
}

pub returns : goal.returns
returns c =
    let s = c.args.self.now in
    c.new.ensures ∙ listings_told (places_of s) (length s.tables.list.scopes.items) (length (scopes_of s)) s.symbols c.requires.symbols_are (scopes_many s.tables.list)
