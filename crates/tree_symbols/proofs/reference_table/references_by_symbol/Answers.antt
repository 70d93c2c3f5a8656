use Rattle.std.specs.Prelude.{◌<◌, ℕ, List, Option, IfSome, length, map}
use Rattle.std.specs.List.{AllByRecursion}
use Rattle.std.proofs.Common.{ap, subst, sym, ◌∙◌}
use Rattle.std.proofs.lemmas.List.FromFn.{length-range_with_len}
use Rattle.number_tables.specs.GroupsOf.{items_of}
use Rattle.syntax_sem.specs.ReferenceId.{number_of}
use Rattle.tree_symbols.specs.Known.{entry_at}
use Rattle.tree_symbols.specs.declared.known.KnownPlace.{KnownPlace}
use Rattle.tree_symbols.proofs.Numbered.{entries_below, items_map, same_length}
use Rattle.tree_symbols.proofs.reference_table.references_by_symbol.Goals as goal

pub new-requires-clause-below : goal.new-requires-clause-below
new-requires-clause-below c =
    subst (λ (os : List (Option ℕ)). AllByRecursion (λ o. IfSome o (λ k. k < c.args.symbols)) os) (sym (c.as_slice.ensures.value ∙ c.in_ok-numbers.ensures)) (entries_below c.args.symbols c.args.row.now c.requires.row c.args.references.now)

pub new-requires-clause-same : goal.new-requires-clause-same
new-requires-clause-same c =
    ap length c.as_slice-2.ensures.value ∙ sym (same_length number_of c.in_ok-ids.ids.items) ∙ ap length c.in_ok-ids.ensures ∙ length-range_with_len 0 (length c.args.references.now)
    ∙ sym (ap length (c.as_slice.ensures.value ∙ c.in_ok-numbers.ensures) ∙ same_length (λ (k : KnownPlace). entry_at c.args.row.now k.binding) c.args.references.now)

pub returns-clause-ids : goal.returns-clause-ids
returns-clause-ids c = λ k.
    ap (map number_of) (c.in_ok-groups.ensures.groups k) ∙ items_map number_of k c.as_slice.result.now c.as_slice-2.result.now
    ∙ ap (λ (os : List (Option ℕ)). items_of k os (map number_of c.as_slice-2.result.now)) (c.as_slice.ensures.value ∙ c.in_ok-numbers.ensures)
    ∙ ap (λ (ns : List ℕ). items_of k (map (λ (p : KnownPlace). entry_at c.args.row.now p.binding) c.args.references.now) ns) (ap (map number_of) c.as_slice-2.ensures.value ∙ c.in_ok-ids.ensures)
