use Rattle.std.specs.Prelude.{◌≡◌, ◌≤◌, ℕ, List, Option, length}
use Rattle.std.proofs.Common.{arith, subst, sym}
use Rattle.number_tables.specs.PlacedNumbers.{RiseFrom}
use Rattle.tree_symbols.specs.Known.{AreKnown, AreListed, IsRowBelow, nodes_of}
use Rattle.tree_symbols.specs.SymbolTables.{AreSymbols, IsRowOf}
use Rattle.tree_symbols.specs.declared.known.KnownPlace.{KnownPlace}
use Rattle.tree_symbols.proofs.Built.{counted, is_scoping}
use Rattle.tree_symbols.proofs.Fitting.{known_listed, known_rise, known_tellable, places_fit, symbols_below, symbols_fit, symbols_rise}
use Rattle.tree_symbols.proofs.Numbered.{row_below}
use Rattle.tree_symbols.proofs.scoping.Scoping.build.Goals as goal

pub above_nodes-nodes-requires : goal.above_nodes-nodes-requires
above_nodes-nodes-requires c =
    let known : AreKnown c.args.tables.list c.as_slice-places.result.now = subst (λ (ks : List KnownPlace). AreKnown c.args.tables.list ks) (sym c.as_slice-places.ensures.value) c.in_ok-known.ensures in
    known_rise c.args.tables.list c.as_slice-places.result.now known c.requires.rising

pub new-requires-clause-rising : goal.new-requires-clause-rising
new-requires-clause-rising c =
    let known : AreKnown c.args.tables.list c.as_slice-places.result.now = subst (λ (ks : List KnownPlace). AreKnown c.args.tables.list ks) (sym c.as_slice-places.ensures.value) c.in_ok-known.ensures in
    known_rise c.args.tables.list c.as_slice-places.result.now known c.requires.rising

pub new-requires-clause-listed : goal.new-requires-clause-listed
new-requires-clause-listed c =
    let known : AreKnown c.args.tables.list c.as_slice-places.result.now = subst (λ (ks : List KnownPlace). AreKnown c.args.tables.list ks) (sym c.as_slice-places.ensures.value) c.in_ok-known.ensures in
    let same : c.len-scopes.result ≡ length c.args.tables.list.scopes.items = omega (arith, c.len-scopes.ensures) in
    subst (λ (n : ℕ). AreListed n c.as_slice-places.result.now) (sym same) (known_listed c.args.tables.list c.as_slice-places.result.now known)

pub row-requires-clause-few : goal.row-requires-clause-few
row-requires-clause-few c =
    let known : AreKnown c.args.tables.list c.as_slice-places.result.now = subst (λ (ks : List KnownPlace). AreKnown c.args.tables.list ks) (sym c.as_slice-places.ensures.value) c.in_ok-known.ensures in
    let rising : RiseFrom 0 (nodes_of c.as_slice-places.result.now) = known_rise c.args.tables.list c.as_slice-places.result.now known c.requires.rising in
    let few : c.above_nodes-nodes.result ≤ 4294967295 = omega arith in
    let fit : length c.in_ok-symbols.symbols.symbols.items ≤ c.above_nodes-nodes.result = symbols_fit c.above_nodes-nodes.result c.as_slice-places.result.now rising c.above_nodes-nodes.ensures c.in_ok-symbols.symbols.symbols.items c.in_ok-symbols.ensures.symbols_are in
    omega (arith, fit, few)

pub row-requires-clause-below : goal.row-requires-clause-below
row-requires-clause-below c =
    let known : AreKnown c.args.tables.list c.as_slice-places.result.now = subst (λ (ks : List KnownPlace). AreKnown c.args.tables.list ks) (sym c.as_slice-places.ensures.value) c.in_ok-known.ensures in
    let rising : RiseFrom 0 (nodes_of c.as_slice-places.result.now) = known_rise c.args.tables.list c.as_slice-places.result.now known c.requires.rising in
    symbols_below c.above_nodes-nodes.result c.as_slice-places.result.now rising c.above_nodes-nodes.ensures c.in_ok-symbols.symbols.symbols.items c.in_ok-symbols.ensures.symbols_are

pub row-requires-clause-rising : goal.row-requires-clause-rising
row-requires-clause-rising c =
    let known : AreKnown c.args.tables.list c.as_slice-places.result.now = subst (λ (ks : List KnownPlace). AreKnown c.args.tables.list ks) (sym c.as_slice-places.ensures.value) c.in_ok-known.ensures in
    let rising : RiseFrom 0 (nodes_of c.as_slice-places.result.now) = known_rise c.args.tables.list c.as_slice-places.result.now known c.requires.rising in
    symbols_rise c.above_nodes-nodes.result c.as_slice-places.result.now rising c.above_nodes-nodes.ensures c.in_ok-symbols.symbols.symbols.items c.in_ok-symbols.ensures.symbols_are

pub symbol_flags-requires : goal.symbol_flags-requires
symbol_flags-requires c =
    let known : AreKnown c.args.tables.list c.as_slice-places.result.now = subst (λ (ks : List KnownPlace). AreKnown c.args.tables.list ks) (sym c.as_slice-places.ensures.value) c.in_ok-known.ensures in
    let rising : RiseFrom 0 (nodes_of c.as_slice-places.result.now) = known_rise c.args.tables.list c.as_slice-places.result.now known c.requires.rising in
    let few : c.above_nodes-nodes.result ≤ 4294967295 = omega arith in
    let scopes : length c.args.tables.list.scopes.items ≤ 4294967295 = omega (arith, c.len-scopes.ensures) in
    let is_row : IsRowOf c.in_ok-symbols.symbols.symbols.items c.as_slice-row.result.now = subst (λ (row : List (Option ℕ)). IsRowOf c.in_ok-symbols.symbols.symbols.items row) (sym c.as_slice-row.ensures.value) c.in_ok-numbers.ensures in
    let are : AreSymbols c.as_slice-places.result.now (length c.args.tables.list.scopes.items) c.in_ok-symbols.symbols = (let same : c.len-scopes.result ≡ length c.args.tables.list.scopes.items = omega (arith, c.len-scopes.ensures) in subst (λ (n : ℕ). AreSymbols c.as_slice-places.result.now n c.in_ok-symbols.symbols) same c.in_ok-symbols.ensures) in
    let many : c.len-count.result ≡ length c.in_ok-symbols.symbols.symbols.items = counted c.args.tables c.requires c.as_slice-places.result.now known c.above_nodes-nodes.result rising c.above_nodes-nodes.ensures few scopes c.in_ok-symbols.symbols c.len-count.result are c.len-count.ensures in
    subst (λ (n : ℕ). IsRowBelow n c.as_slice-row.result.now) (sym many) (row_below c.in_ok-symbols.symbols.symbols.items c.as_slice-row.result.now is_row)

pub new-requires-2-clause-row : goal.new-requires-2-clause-row
new-requires-2-clause-row c =
    let known : AreKnown c.args.tables.list c.as_slice-places.result.now = subst (λ (ks : List KnownPlace). AreKnown c.args.tables.list ks) (sym c.as_slice-places.ensures.value) c.in_ok-known.ensures in
    let rising : RiseFrom 0 (nodes_of c.as_slice-places.result.now) = known_rise c.args.tables.list c.as_slice-places.result.now known c.requires.rising in
    let few : c.above_nodes-nodes.result ≤ 4294967295 = omega arith in
    let scopes : length c.args.tables.list.scopes.items ≤ 4294967295 = omega (arith, c.len-scopes.ensures) in
    let is_row : IsRowOf c.in_ok-symbols.symbols.symbols.items c.as_slice-row.result.now = subst (λ (row : List (Option ℕ)). IsRowOf c.in_ok-symbols.symbols.symbols.items row) (sym c.as_slice-row.ensures.value) c.in_ok-numbers.ensures in
    let are : AreSymbols c.as_slice-places.result.now (length c.args.tables.list.scopes.items) c.in_ok-symbols.symbols = (let same : c.len-scopes.result ≡ length c.args.tables.list.scopes.items = omega (arith, c.len-scopes.ensures) in subst (λ (n : ℕ). AreSymbols c.as_slice-places.result.now n c.in_ok-symbols.symbols) same c.in_ok-symbols.ensures) in
    let many : c.len-count.result ≡ length c.in_ok-symbols.symbols.symbols.items = counted c.args.tables c.requires c.as_slice-places.result.now known c.above_nodes-nodes.result rising c.above_nodes-nodes.ensures few scopes c.in_ok-symbols.symbols c.len-count.result are c.len-count.ensures in
    subst (λ (n : ℕ). IsRowBelow n c.as_slice-row.result.now) (sym many) (row_below c.in_ok-symbols.symbols.symbols.items c.as_slice-row.result.now is_row)

pub new-requires-2-clause-symbols : goal.new-requires-2-clause-symbols
new-requires-2-clause-symbols c =
    let known : AreKnown c.args.tables.list c.as_slice-places.result.now = subst (λ (ks : List KnownPlace). AreKnown c.args.tables.list ks) (sym c.as_slice-places.ensures.value) c.in_ok-known.ensures in
    let rising : RiseFrom 0 (nodes_of c.as_slice-places.result.now) = known_rise c.args.tables.list c.as_slice-places.result.now known c.requires.rising in
    let few : c.above_nodes-nodes.result ≤ 4294967295 = omega arith in
    let scopes : length c.args.tables.list.scopes.items ≤ 4294967295 = omega (arith, c.len-scopes.ensures) in
    let are : AreSymbols c.as_slice-places.result.now (length c.args.tables.list.scopes.items) c.in_ok-symbols.symbols = (let same : c.len-scopes.result ≡ length c.args.tables.list.scopes.items = omega (arith, c.len-scopes.ensures) in subst (λ (n : ℕ). AreSymbols c.as_slice-places.result.now n c.in_ok-symbols.symbols) same c.in_ok-symbols.ensures) in
    let many : c.len-count.result ≡ length c.in_ok-symbols.symbols.symbols.items = counted c.args.tables c.requires c.as_slice-places.result.now known c.above_nodes-nodes.result rising c.above_nodes-nodes.ensures few scopes c.in_ok-symbols.symbols c.len-count.result are c.len-count.ensures in
    let fit : length c.in_ok-symbols.symbols.symbols.items ≤ c.above_nodes-nodes.result = symbols_fit c.above_nodes-nodes.result c.as_slice-places.result.now rising c.above_nodes-nodes.ensures c.in_ok-symbols.symbols.symbols.items c.in_ok-symbols.ensures.symbols_are in
    omega (arith, many, fit, few)

pub new-requires-2-clause-places : goal.new-requires-2-clause-places
new-requires-2-clause-places c =
    let known : AreKnown c.args.tables.list c.as_slice-places.result.now = subst (λ (ks : List KnownPlace). AreKnown c.args.tables.list ks) (sym c.as_slice-places.ensures.value) c.in_ok-known.ensures in
    let rising : RiseFrom 0 (nodes_of c.as_slice-places.result.now) = known_rise c.args.tables.list c.as_slice-places.result.now known c.requires.rising in
    let few : c.above_nodes-nodes.result ≤ 4294967295 = omega arith in
    let fit : length c.as_slice-places.result.now ≤ c.above_nodes-nodes.result = places_fit c.above_nodes-nodes.result c.as_slice-places.result.now rising c.above_nodes-nodes.ensures in
    omega (arith, fit, few)

pub new-requires-2-clause-tellable : goal.new-requires-2-clause-tellable
new-requires-2-clause-tellable c =
    let known : AreKnown c.args.tables.list c.as_slice-places.result.now = subst (λ (ks : List KnownPlace). AreKnown c.args.tables.list ks) (sym c.as_slice-places.ensures.value) c.in_ok-known.ensures in
    let few : c.above_nodes-nodes.result ≤ 4294967295 = omega arith in
    let scopes : length c.args.tables.list.scopes.items ≤ 4294967295 = omega (arith, c.len-scopes.ensures) in
    known_tellable c.args.tables.list c.as_slice-places.result.now c.above_nodes-nodes.result known few scopes c.above_nodes-nodes.ensures

pub returns-clause-scoping : goal.returns-clause-scoping
returns-clause-scoping c =
    let known : AreKnown c.args.tables.list c.as_slice-places.result.now = subst (λ (ks : List KnownPlace). AreKnown c.args.tables.list ks) (sym c.as_slice-places.ensures.value) c.in_ok-known.ensures in
    let rising : RiseFrom 0 (nodes_of c.as_slice-places.result.now) = known_rise c.args.tables.list c.as_slice-places.result.now known c.requires.rising in
    let few : c.above_nodes-nodes.result ≤ 4294967295 = omega arith in
    let scopes : length c.args.tables.list.scopes.items ≤ 4294967295 = omega (arith, c.len-scopes.ensures) in
    let is_row : IsRowOf c.in_ok-symbols.symbols.symbols.items c.as_slice-row.result.now = subst (λ (row : List (Option ℕ)). IsRowOf c.in_ok-symbols.symbols.symbols.items row) (sym c.as_slice-row.ensures.value) c.in_ok-numbers.ensures in
    let are : AreSymbols c.as_slice-places.result.now (length c.args.tables.list.scopes.items) c.in_ok-symbols.symbols = (let same : c.len-scopes.result ≡ length c.args.tables.list.scopes.items = omega (arith, c.len-scopes.ensures) in subst (λ (n : ℕ). AreSymbols c.as_slice-places.result.now n c.in_ok-symbols.symbols) same c.in_ok-symbols.ensures) in
    let many : c.len-count.result ≡ length c.in_ok-symbols.symbols.symbols.items = counted c.args.tables c.requires c.as_slice-places.result.now known c.above_nodes-nodes.result rising c.above_nodes-nodes.ensures few scopes c.in_ok-symbols.symbols c.len-count.result are c.len-count.ensures in
    is_scoping c.args.tables c.requires c.as_slice-places.result.now known c.above_nodes-nodes.result rising c.above_nodes-nodes.ensures few scopes c.in_ok-symbols.symbols c.in_ok-symbol_flags.symbol_flags c.in_ok-references.references c.in_ok-unresolved.unresolved c.in_ok-evals.evals c.in_ok-names.names
    c.as_slice-row.result.now c.len-count.result are is_row many c.in_ok-symbol_flags.ensures c.in_ok-references.ensures c.in_ok-unresolved.ensures c.in_ok-evals.ensures c.in_ok-names.ensures.len
