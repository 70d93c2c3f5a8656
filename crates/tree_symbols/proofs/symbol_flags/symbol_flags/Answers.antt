use Rattle.std.specs.Prelude.{◌<◌, ℕ, IfSome, List, Option, map}
use Rattle.std.specs.List.{AllByRecursion, range_with_len}
use Rattle.std.proofs.Common.{ap, subst, sym, ◌∙◌}
use Rattle.list_laws.proofs.Mapped.{map_same}
use Rattle.number_tables.specs.GroupsOf.{group_at, group_count, items_of}
use Rattle.syntax_sem.specs.Bits.{union_of}
use Rattle.syntax_sem.specs.SymbolFlags.{bits_of}
use Rattle.tree_symbols.specs.Flags.{flags_of}
use Rattle.tree_symbols.specs.Known.{declared_by}
use Rattle.tree_symbols.proofs.Numbered.{declared_below, items_map}
use Rattle.tree_symbols.proofs.symbol_flags.symbol_flags.Goals as goal

pub new-requires-clause-below : goal.new-requires-clause-below
new-requires-clause-below c =
    subst (λ (os : List (Option ℕ)). AllByRecursion (λ o. IfSome o (λ k. k < c.args.count)) os) (sym (c.as_slice.ensures.value ∙ c.in_ok-declared.ensures)) (declared_below c.args.count c.args.row.now c.requires c.args.places.now)

pub returns : goal.returns
returns c =
    let told : ℕ → ℕ = λ k. union_of (items_of k (map (declared_by c.args.row.now) c.args.places.now) (flags_of c.args.places.now)) in
    c.in_ok-flags.ensures
    ∙ map_same (λ k. union_of (map bits_of (group_at c.in_ok-groups.groups k))) told (range_with_len 0 (group_count c.in_ok-groups.groups))
    (λ k i. ap union_of
    (ap (map bits_of) (c.in_ok-groups.ensures.groups k)
    ∙ items_map bits_of k c.as_slice.result.now c.as_slice-2.result.now
    ∙ ap (λ (os : List (Option ℕ)). items_of k os (map bits_of c.as_slice-2.result.now)) (c.as_slice.ensures.value ∙ c.in_ok-declared.ensures)
    ∙ ap (λ (ns : List ℕ). items_of k (map (declared_by c.args.row.now) c.args.places.now) ns) (ap (map bits_of) c.as_slice-2.ensures.value ∙ c.in_ok-by_place.ensures)))
    ∙ ap (λ (n : ℕ). map told (range_with_len 0 n)) c.in_ok-groups.ensures.count
