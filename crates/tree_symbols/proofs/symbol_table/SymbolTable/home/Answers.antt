use Rattle.scope_rules.specs.Bindings.{same_name}
use Rattle.scope_rules.specs.Homes.{home}
use Rattle.scope_rules.specs.Symbols.{own_number, symbols}
use Rattle.tree_places.specs.Places.{Place}
use Rattle.tree_symbols.specs.Known.{home_number}
use Rattle.std.proofs.Common.{ap, sym, ◌∙◌}
use Rattle.std.specs.Prelude.{Some}
use Rattle.place_list.proofs.PlacesStand.{mapped_at, read_at}
use Rattle.tree_symbols.proofs.Beside.{told_beside}
use Rattle.tree_symbols.proofs.symbol_table.SymbolTable.home.Goals as goal

pub returns-clause-home : goal.returns-clause-home
returns-clause-home c = λ ps scopes a.
    told_beside home_number (λ (b : Place). own_number (home b.site)) c.args.self.now.symbols.items (symbols same_name ps) c.args.k _ c.home.result a.homes_are c.requires c.index.ensures c.home.ensures

pub returns-clause-stored : goal.returns-clause-stored
returns-clause-stored c =
    mapped_at home_number c.args.self.now.symbols.items c.args.k _ (read_at c.args.self.now.symbols.items c.args.k _ c.requires c.index.ensures) ∙ ap Some (sym c.home.ensures)
