use Rattle.std.specs.Prelude.{◌≡◌, ◌+◌, ◌<◌, ◌≤◌, ℕ, List, Option, IfSome, length, map}
use Rattle.std.specs.List.{AllByRecursion, range_with_len}
use Rattle.std.proofs.Common.{ap, arith, subst, sym, ◌∙◌}
use Rattle.number_tables.specs.GroupsOf.{items_of}
use Rattle.number_tables.specs.PlacedNumbers.{RiseFrom, number_at}
use Rattle.tree_symbols.specs.Known.{AreListed, is_symbol, listing_scope, nodes_of}
use Rattle.tree_symbols.specs.SymbolTables.{IsRowOf, symbols_in}
use Rattle.tree_symbols.specs.declared.known.KnownPlace.{KnownPlace}
use Rattle.tree_symbols.proofs.Numbered.{bound_are, declared_are, row_below, same_length}
use Rattle.tree_symbols.proofs.Rising.{all_filter, all_weaken, rise_filter, rising_fit}
use Rattle.tree_symbols.proofs.symbol_table.SymbolTable.new.Goals as goal

fits : (nodes : ℕ) (ks : List KnownPlace) → RiseFrom 0 (nodes_of ks) → AllByRecursion (λ n. n < nodes) (nodes_of ks) → length (symbols_in ks) ≤ nodes
fits nodes ks r a =
    let h : 0 + length (nodes_of (symbols_in ks)) ≤ nodes = rising_fit 0 nodes (nodes_of (symbols_in ks)) (omega arith) (rise_filter (λ (k : KnownPlace). k.place.node) is_symbol 0 ks r) (all_filter (λ n. n < nodes) (λ (k : KnownPlace). k.place.node) is_symbol ks a) in
    let e : length (nodes_of (symbols_in ks)) ≡ length (symbols_in ks) = same_length (λ (k : KnownPlace). k.place.node) (symbols_in ks) in
    omega (arith, h, e)

pub number_symbols-requires-clause-few : goal.number_symbols-requires-clause-few
number_symbols-requires-clause-few c =
    let e : c.as_slice-found.result.now ≡ symbols_in c.args.places.now = c.as_slice-found.ensures.value ∙ c.in_ok-symbols.ensures in
    let h : length c.as_slice-found.result.now ≤ c.args.nodes = subst (λ (ss : List KnownPlace). length ss ≤ c.args.nodes) (sym e) (fits c.args.nodes c.args.places.now c.requires.rising c.requires.below) in
    omega (arith, h, c.requires.few)

pub number_symbols-requires-clause-below : goal.number_symbols-requires-clause-below
number_symbols-requires-clause-below c =
    subst (λ (ss : List KnownPlace). AllByRecursion (λ n. n < c.args.nodes) (nodes_of ss)) (sym (c.as_slice-found.ensures.value ∙ c.in_ok-symbols.ensures))
    (all_filter (λ n. n < c.args.nodes) (λ (k : KnownPlace). k.place.node) is_symbol c.args.places.now c.requires.below)

pub number_symbols-requires-clause-rising : goal.number_symbols-requires-clause-rising
number_symbols-requires-clause-rising c =
    subst (λ (ss : List KnownPlace). RiseFrom 0 (nodes_of ss)) (sym (c.as_slice-found.ensures.value ∙ c.in_ok-symbols.ensures))
    (rise_filter (λ (k : KnownPlace). k.place.node) is_symbol 0 c.args.places.now c.requires.rising)

pub declarations-requires-clause-nodes : goal.declarations-requires-clause-nodes
declarations-requires-clause-nodes c =
    all_weaken (λ n. n < c.args.nodes) (λ n. n < 4294967295) (λ n h. let f : c.args.nodes ≤ 4294967295 = c.requires.few in omega (arith, h, f)) (nodes_of c.args.places.now) c.requires.below

pub declarations-requires-clause-row : goal.declarations-requires-clause-row
declarations-requires-clause-row c =
    row_below c.as_slice-found.result.now c.as_slice-numbers.result.now
    (subst (λ (row : List (Option ℕ)). IsRowOf c.as_slice-found.result.now row) (sym c.as_slice-numbers.ensures.value) c.in_ok-row.ensures)

pub symbols_by_scope-requires-clause-few : goal.symbols_by_scope-requires-clause-few
symbols_by_scope-requires-clause-few c =
    let e : c.as_slice-found.result.now ≡ symbols_in c.args.places.now = c.as_slice-found.ensures.value ∙ c.in_ok-symbols.ensures in
    let h : length c.as_slice-found.result.now ≤ c.args.nodes = subst (λ (ss : List KnownPlace). length ss ≤ c.args.nodes) (sym e) (fits c.args.nodes c.args.places.now c.requires.rising c.requires.below) in
    omega (arith, h, c.requires.few)

pub symbols_by_scope-requires-clause-listed : goal.symbols_by_scope-requires-clause-listed
symbols_by_scope-requires-clause-listed c =
    subst (λ (ss : List KnownPlace). AreListed c.args.scopes ss) (sym (c.as_slice-found.ensures.value ∙ c.in_ok-symbols.ensures))
    (all_filter (λ o. IfSome o (λ s. s < c.args.scopes)) listing_scope is_symbol c.args.places.now c.requires.listed)

pub returns : goal.returns
returns c =
    let ks = c.args.places.now in
    let row = c.as_slice-numbers.result.now in
    let e : c.as_slice-found.result.now ≡ symbols_in c.args.places.now = c.as_slice-found.ensures.value ∙ c.in_ok-symbols.ensures in
    let r : IsRowOf (symbols_in c.args.places.now) c.as_slice-numbers.result.now =
    subst (λ (ss : List KnownPlace). IsRowOf ss c.as_slice-numbers.result.now) e
    (subst (λ (os : List (Option ℕ)). IsRowOf c.as_slice-found.result.now os) (sym c.as_slice-numbers.ensures.value) c.in_ok-row.ensures) in
    record {
      symbols_are = c.in_ok-symbols.ensures;
      by_node = λ n. c.in_ok-node_symbols.ensures n ∙ ap (number_at n (nodes_of ks)) (bound_are (symbols_in ks) row r ks);
      declarations = λ k. c.in_ok-declarations.ensures.nodes k ∙ ap (λ os. items_of k os (nodes_of ks)) (declared_are (symbols_in ks) row r ks);
      declarations_count = c.in_ok-declarations.ensures.count ∙ ap length e;
      listed = λ s. c.in_ok-scope_symbols.ensures.ids s ∙ ap (λ (ss : List KnownPlace). items_of s (map listing_scope ss) (range_with_len 0 (length ss))) e;
      scopes_count = c.in_ok-scope_symbols.ensures.count;
    }
