use Rattle.std.specs.Prelude.{◌<◌, ℕ, List, Option, length}
use Rattle.std.specs.List.{AllByRecursion}
use Rattle.std.proofs.Common.{ap, subst, sym, ◌∙◌}
use Rattle.number_tables.specs.PlacedNumbers.{RiseFrom, number_at}
use Rattle.tree_symbols.specs.Known.{nodes_of}
use Rattle.tree_symbols.specs.SymbolTables.{number_among}
use Rattle.tree_symbols.proofs.Numbered.{numbers_fit}
use Rattle.tree_symbols.proofs.rows.number_symbols.Goals as goal

pub place_numbers-requires-clause-below : goal.place_numbers-requires-clause-below
place_numbers-requires-clause-below c =
    subst (λ (ns : List ℕ). AllByRecursion (λ n. n < c.args.nodes) ns) (sym (c.as_slice.ensures.value ∙ c.in_ok-at.ensures)) c.requires.below

pub place_numbers-requires-clause-rising : goal.place_numbers-requires-clause-rising
place_numbers-requires-clause-rising c = subst (λ (ns : List ℕ). RiseFrom 0 ns) (sym (c.as_slice.ensures.value ∙ c.in_ok-at.ensures)) c.requires.rising

pub place_numbers-requires-clause-same : goal.place_numbers-requires-clause-same
place_numbers-requires-clause-same c =
    ap length (c.as_slice-2.ensures.value ∙ c.in_ok-numbers.ensures) ∙ numbers_fit c.args.symbols.now ∙ sym (ap length (c.as_slice.ensures.value ∙ c.in_ok-at.ensures))

pub returns : goal.returns
unfolding number_among
returns c = λ n.
    c.in_ok-row.ensures.numbers n
    ∙ ap (λ (ms : List ℕ). number_at n ms c.as_slice-2.result.now) (c.as_slice.ensures.value ∙ c.in_ok-at.ensures)
    ∙ ap (λ (os : List (Option ℕ)). number_at n (nodes_of c.args.symbols.now) os) (c.as_slice-2.ensures.value ∙ c.in_ok-numbers.ensures)
