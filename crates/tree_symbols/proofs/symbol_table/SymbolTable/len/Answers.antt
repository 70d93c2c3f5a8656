use Rattle.std.proofs.Common.{ap, arith, sym, ◌∙◌}
use Rattle.std.specs.Prelude.{◌≡◌, length}
use Rattle.scope_rules.specs.Bindings.{node, same_name}
use Rattle.scope_rules.specs.Symbols.{symbols}
use Rattle.tree_places.specs.Places.{Place}
use Rattle.tree_symbols.specs.declared.known.KnownPlace.{KnownPlace}
use Rattle.tree_symbols.proofs.Numbered.{same_length}
use Rattle.tree_symbols.proofs.symbol_table.SymbolTable.len.Goals as goal

pub returns : goal.returns
returns c = λ ps scopes a.
    let many : c.len.result ≡ length c.args.self.now.symbols.items = omega (arith, c.len.ensures, c.args.self.now.symbols.ok.0) in
    many ∙ (sym (same_length (λ (s : KnownPlace). s.place.node) c.args.self.now.symbols.items) ∙ ap length a.nodes_are ∙ same_length (λ (b : Place). node b) (symbols same_name ps))
