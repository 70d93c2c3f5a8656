use Rattle.std.specs.Prelude.{◌<◌, ℕ, List, Option, IfSome, length, map}
use Rattle.std.specs.List.{AllByRecursion}
use Rattle.std.proofs.Common.{ap, subst, sym, ◌∙◌}
use Rattle.number_tables.specs.GroupsOf.{items_of}
use Rattle.syntax_sem.specs.SymbolId.{number_of}
use Rattle.std.proofs.lemmas.List.FromFn.{length-range_with_len}
use Rattle.tree_symbols.specs.Known.{listing_scope}
use Rattle.tree_symbols.proofs.Numbered.{items_map, same_length}
use Rattle.tree_symbols.proofs.symbol_table.symbols_by_scope.Goals as goal

pub new-requires-clause-below : goal.new-requires-clause-below
new-requires-clause-below c =
    subst (λ (os : List (Option ℕ)). AllByRecursion (λ o. IfSome o (λ k. k < c.args.scopes)) os) (sym (c.as_slice.ensures.value ∙ c.in_ok-numbers.ensures)) c.requires.listed

pub new-requires-clause-same : goal.new-requires-clause-same
new-requires-clause-same c =
    ap length c.as_slice-2.ensures.value ∙ sym (same_length number_of c.in_ok-ids.ids.items) ∙ ap length c.in_ok-ids.ensures ∙ length-range_with_len 0 (length c.args.symbols.now)
    ∙ sym (ap length (c.as_slice.ensures.value ∙ c.in_ok-numbers.ensures) ∙ same_length listing_scope c.args.symbols.now)

pub returns-clause-ids : goal.returns-clause-ids
returns-clause-ids c = λ s.
    ap (map number_of) (c.in_ok-listed.ensures.groups s) ∙ items_map number_of s c.as_slice.result.now c.as_slice-2.result.now
    ∙ ap (λ (os : List (Option ℕ)). items_of s os (map number_of c.as_slice-2.result.now)) (c.as_slice.ensures.value ∙ c.in_ok-numbers.ensures)
    ∙ ap (λ (ns : List ℕ). items_of s (map listing_scope c.args.symbols.now) ns) (ap (map number_of) c.as_slice-2.ensures.value ∙ c.in_ok-ids.ensures)
