use Rattle.std.specs.Prelude.{◌≡◌, ◌<◌, ◌≤◌, List, length, map}
use Rattle.std.specs.List.{range_with_len}
use Rattle.std.proofs.Common.{ap, arith, subst, sym, ◌∙◌}
use Rattle.list_laws.proofs.Filtered.{filter_most}
use Rattle.number_tables.specs.GroupsOf.{items_of}
use Rattle.tree_symbols.specs.Known.{entry_at, refers}
use Rattle.tree_symbols.specs.ReferenceTables.{AreTellable, IsTellable, references_in, told_by}
use Rattle.tree_symbols.specs.declared.known.KnownPlace.{KnownPlace}
use Rattle.tree_symbols.proofs.Rising.{all_kept}
use Rattle.tree_symbols.proofs.reference_table.ReferenceTable.new.Goals as goal

pub references_by_symbol-requires-clause-references : goal.references_by_symbol-requires-clause-references
references_by_symbol-requires-clause-references c =
    let same : length c.as_slice.result.now ≡ length (references_in c.args.places.now) = ap length (c.as_slice.ensures.value ∙ c.in_ok-found.ensures) in
    let most : length (references_in c.args.places.now) ≤ length c.args.places.now = filter_most refers c.args.places.now in
    omega (arith, same, most, c.requires.places)

pub all_references-requires-clause-row : goal.all_references-requires-clause-row
all_references-requires-clause-row c = λ n k e. let h : k < c.args.symbols = c.requires.row n k e in omega (arith, h, c.requires.symbols)

pub all_references-requires-clause-tellable : goal.all_references-requires-clause-tellable
all_references-requires-clause-tellable c =
    subst AreTellable (sym (c.as_slice-2.ensures.value ∙ c.in_ok-found.ensures)) (all_kept IsTellable refers c.args.places.now c.requires.tellable)

pub returns : goal.returns
returns c =
    let e : c.as_slice.result.now ≡ references_in c.args.places.now = c.as_slice.ensures.value ∙ c.in_ok-found.ensures in
    record {
      references_are = c.in_ok-references.ensures ∙ ap (map (told_by c.args.row.now)) (c.as_slice-2.ensures.value ∙ c.in_ok-found.ensures);
      by_symbol = λ k. c.in_ok-symbol_references.ensures.ids k ∙ ap (λ (ps : List KnownPlace). items_of k (map (λ p. entry_at c.args.row.now p.binding) ps) (range_with_len 0 (length ps))) e;
      symbols_count = c.in_ok-symbol_references.ensures.count;
    }
