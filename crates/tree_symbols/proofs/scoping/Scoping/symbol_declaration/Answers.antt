use Rattle.std.specs.Prelude.{◌≡◌, length}
use Rattle.std.proofs.Common.{arith, ◌∙◌}
use Rattle.scope_rules.specs.Bindings.{node, same_name}
use Rattle.scope_rules.specs.Symbols.{symbols}
use Rattle.tree_places.specs.Places.{Place}
use Rattle.tree_symbols.specs.Scopings.{Fits, places_of}
use Rattle.place_list.proofs.PlacesStand.{all_at}
use Rattle.syntax_sem.specs.NodeId as node_id
use Rattle.syntax_sem.specs.SymbolId.{number_of}
use Rattle.tree_symbols.specs.Known.{nodes_of}
use Rattle.tree_symbols.proofs.Readings.{symbols_many, told_of}
use Rattle.tree_symbols.proofs.scoping.Scoping.symbol_declaration.Goals as goal

pub declaration-requires : goal.declaration-requires
declaration-requires c =
    let many : length c.args.self.now.symbols.symbols.items ≡ length (symbols same_name (places_of c.args.self.now)) = symbols_many _ _ _ c.requires.scoping.symbols_are in
    omega (arith, many, c.index.ensures.value, c.requires.id)

pub from_usize-requires : goal.from_usize-requires
from_usize-requires c = all_at Fits (nodes_of c.args.self.now.symbols.symbols.items) c.index.result c.declaration.result c.requires.scoping.nodes_fit c.declaration.ensures.stored

pub returns : goal.returns
returns c =
    let ps = places_of c.args.self.now in
    told_of (symbols same_name ps) (λ (b : Place). c.declaration.result ≡ node b) (λ (b : Place). node_id.number_of c.from_usize.result ≡ node b) c.index.result (number_of c.args.id) c.index.ensures.value
    (λ b e. c.from_usize.ensures ∙ e) (c.declaration.ensures.node ps (length c.args.self.now.tables.list.scopes.items) c.requires.scoping.symbols_are)
