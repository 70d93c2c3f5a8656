use Rattle.std.specs.Prelude.{◌<◌, ℕ, List, Option, length}
use Rattle.std.specs.List.{AllByRecursion}
use Rattle.std.proofs.Common.{ap, subst, sym, ◌∙◌}
use Rattle.number_tables.specs.PlacedNumbers.{RiseFrom, number_at}
use Rattle.tree_symbols.specs.Known.{entry_at, nodes_of}
use Rattle.tree_symbols.specs.declared.known.KnownPlace.{KnownPlace}
use Rattle.tree_symbols.proofs.Numbered.{same_length}
use Rattle.tree_symbols.proofs.symbol_table.symbols_by_node.Goals as goal

pub place_numbers-requires-clause-below : goal.place_numbers-requires-clause-below
place_numbers-requires-clause-below c =
    subst (λ (ns : List ℕ). AllByRecursion (λ n. n < c.args.nodes) ns) (sym (c.as_slice.ensures.value ∙ c.in_ok-at.ensures)) c.requires.below

pub place_numbers-requires-clause-rising : goal.place_numbers-requires-clause-rising
place_numbers-requires-clause-rising c = subst (λ (ns : List ℕ). RiseFrom 0 ns) (sym (c.as_slice.ensures.value ∙ c.in_ok-at.ensures)) c.requires.rising

pub place_numbers-requires-clause-same : goal.place_numbers-requires-clause-same
place_numbers-requires-clause-same c =
    ap length (c.as_slice-2.ensures.value ∙ c.in_ok-numbers.ensures) ∙ same_length (λ (k : KnownPlace). entry_at c.args.row.now k.binding) c.args.places.now
    ∙ sym (ap length (c.as_slice.ensures.value ∙ c.in_ok-at.ensures) ∙ same_length (λ (k : KnownPlace). k.place.node) c.args.places.now)

pub returns : goal.returns
returns c = λ n.
    c.in_ok-row.ensures.numbers n
    ∙ ap (λ (ms : List ℕ). number_at n ms c.as_slice-2.result.now) (c.as_slice.ensures.value ∙ c.in_ok-at.ensures)
    ∙ ap (λ (os : List (Option ℕ)). number_at n (nodes_of c.args.places.now) os) (c.as_slice-2.ensures.value ∙ c.in_ok-numbers.ensures)
