use Rattle.scope_rules.specs.Bindings.{same_name}
use Rattle.scope_rules.specs.Symbols.{symbols}
use Rattle.tree_places.specs.Places.{Place}
use Rattle.tree_symbols.specs.declared.known.KnownPlace.{KnownPlace}
use Rattle.tree_symbols.proofs.Beside.{read_beside}
use Rattle.tree_symbols.proofs.symbol_table.SymbolTable.name.Goals as goal

pub returns : goal.returns
returns c = λ ps scopes a.
    read_beside (λ (s : KnownPlace). s.place.name.now) (λ (b : Place). b.name) c.args.self.now.symbols.items (symbols same_name ps) c.args.k _ a.names_are c.requires c.index.ensures
