use Rattle.scope_rules.specs.Bindings.{node, same_name}
use Rattle.scope_rules.specs.Symbols.{symbols}
use Rattle.tree_places.specs.Places.{Place}
use Rattle.tree_symbols.specs.declared.known.KnownPlace.{KnownPlace}
use Rattle.place_list.proofs.PlacesStand.{mapped_at, read_at}
use Rattle.tree_symbols.proofs.Beside.{read_beside}
use Rattle.tree_symbols.proofs.symbol_table.SymbolTable.declaration.Goals as goal

pub returns-clause-node : goal.returns-clause-node
returns-clause-node c = λ ps scopes a.
    read_beside (λ (s : KnownPlace). s.place.node) (λ (b : Place). node b) c.args.self.now.symbols.items (symbols same_name ps) c.args.k _ a.nodes_are c.requires c.index.ensures

pub returns-clause-stored : goal.returns-clause-stored
returns-clause-stored c =
    mapped_at (λ (s : KnownPlace). s.place.node) c.args.self.now.symbols.items c.args.k _ (read_at c.args.self.now.symbols.items c.args.k _ c.requires c.index.ensures)
