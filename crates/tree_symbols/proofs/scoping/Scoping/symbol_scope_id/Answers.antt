use Rattle.std.specs.Prelude.{◌≡◌, ℕ, Option, IfSome, length, map}
use Rattle.std.proofs.Common.{ap, arith, ◌∙◌}
use Rattle.scope_rules.specs.Bindings.{same_name}
use Rattle.scope_rules.specs.Homes.{home}
use Rattle.scope_rules.specs.Symbols.{own_number, symbols}
use Rattle.tree_places.specs.Places.{Place}
use Rattle.tree_symbols.specs.Scopings.{Fits, places_of}
use Rattle.place_list.proofs.PlacesStand.{all_at}
use Rattle.syntax_sem.specs.ScopeId as scope_id
use Rattle.syntax_sem.specs.SymbolId.{number_of}
use Rattle.tree_symbols.specs.Known.{home_number}
use Rattle.tree_symbols.specs.ReferenceTables.{or_root}
use Rattle.tree_symbols.proofs.Readings.{symbols_many, told_of}
use Rattle.tree_symbols.proofs.scoping.Scoping.symbol_scope_id.Goals as goal

pub home-requires : goal.home-requires
home-requires c =
    let many : length c.args.self.now.symbols.symbols.items ≡ length (symbols same_name (places_of c.args.self.now)) = symbols_many _ _ _ c.requires.scoping.symbols_are in
    omega (arith, many, c.index.ensures.value, c.requires.id)

pub scope_or_root-requires : goal.scope_or_root-requires
scope_or_root-requires c = all_at (λ (o : Option ℕ). IfSome o Fits) (map home_number c.args.self.now.symbols.symbols.items) c.index.result c.home.result c.requires.scoping.homes_fit c.home.ensures.stored

pub returns : goal.returns
returns c =
    let ps = places_of c.args.self.now in
    told_of (symbols same_name ps) (λ (b : Place). c.home.result ≡ own_number (home b.site)) (λ (b : Place). scope_id.number_of c.scope_or_root.result ≡ or_root (own_number (home b.site))) c.index.result (number_of c.args.id) c.index.ensures.value
    (λ b e. c.scope_or_root.ensures ∙ ap or_root e) (c.home.ensures.home ps (length c.args.self.now.tables.list.scopes.items) c.requires.scoping.symbols_are)
