use Rattle.std.specs.Prelude.{◌≡◌, ◌<◌, ℕ, Some, IfSome, length, slice_get}
use Rattle.std.proofs.Common.{ap, arith, subst, sym, ◌∙◌}
use Rattle.scope_rules.specs.Bindings.{same_name}
use Rattle.scope_rules.specs.Symbols.{symbols}
use Rattle.syntax_sem.specs.SymbolId.{number_of}
use Rattle.tree_nodes.specs.Tree.{Text}
use Rattle.tree_places.specs.Places.{Place}
use Rattle.tree_symbols.specs.Scopings.{places_of}
use Rattle.tree_symbols.proofs.Readings.{own_name_told, set_name_told, symbols_many}
use Rattle.tree_symbols.proofs.scoping.Scoping.symbol_name.Goals as goal

pub index-requires : goal.index-requires
index-requires c =
    let many : length c.args.self.now.names.items ≡ length (symbols same_name (places_of c.args.self.now)) = c.requires.scoping.names_length in
    omega (arith, many, c.index-k.ensures.value, c.requires.id)

pub name-requires : goal.name-requires
name-requires c =
    let many : length c.args.self.now.symbols.symbols.items ≡ length (symbols same_name (places_of c.args.self.now)) = symbols_many _ _ _ c.requires.scoping.symbols_are in
    omega (arith, many, c.index-k.ensures.value, c.requires.id)

pub returns-in-Some : goal.returns-in-Some
returns-in-Some c =
    let s = c.args.self.now in
    let many : length c.args.self.now.names.items ≡ length (symbols same_name (places_of c.args.self.now)) = c.requires.scoping.names_length in
    let inside : c.index-k.result < length c.args.self.now.names.items = omega (arith, many, c.index-k.ensures.value, c.requires.id) in
    set_name_told (slice_get (symbols same_name (places_of s)) (number_of c.args.id)) s.names.items c.index-k.result (number_of c.args.id) c.index.result.now c.as_str.result.now c.index-k.ensures.value inside c.index.ensures
    (c.in-Some.is ∙ ap (λ (x : Text). Some x) (sym c.as_str.ensures.text))

pub returns-in-None : goal.returns-in-None
returns-in-None c =
    let s = c.args.self.now in
    let many : length c.args.self.now.names.items ≡ length (symbols same_name (places_of c.args.self.now)) = c.requires.scoping.names_length in
    let inside : c.index-k.result < length c.args.self.now.names.items = omega (arith, many, c.index-k.ensures.value, c.requires.id) in
    own_name_told (slice_get (symbols same_name (places_of s)) (number_of c.args.id)) s.names.items c.index-k.result (number_of c.args.id) c.index.result.now c.name.result.now c.index-k.ensures.value inside c.index.ensures
    c.in-None.is
    (subst (λ (k : ℕ). IfSome (slice_get (symbols same_name (places_of s)) k) (λ (b : Place). c.name.result.now ≡ b.name)) c.index-k.ensures.value
    (c.name.ensures (places_of s) (length s.tables.list.scopes.items) c.requires.scoping.symbols_are))
