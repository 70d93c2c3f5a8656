use Rattle.std.specs.Prelude.{ℕ, None, Some}
use Rattle.std.proofs.Common.{ap, sym, ◌∙◌}
use Rattle.tree_symbols.proofs.Numbered.{entry_below}
use Rattle.tree_symbols.proofs.ReferencesHold.{reference_told}
use Rattle.tree_symbols.proofs.reference_table.reference_of.Goals as goal

pub from_usize-requires : goal.from_usize-requires
from_usize-requires c = entry_below 4294967295 c.args.row.now c.requires.row c.args.known.now.binding c.in-Some.symbol (sym c.in-Some.ensures)

pub returns-in-Some : goal.returns-in-Some
returns-in-Some c =
    reference_told c.args.row.now c.args.known.now c.new_with_symbol_id.result c.from_usize-node.result (Some c.from_usize.result) c.scope_or_root-scope.result c.reference_flags-flags.result c.new_with_symbol_id.ensures
    c.from_usize-node.ensures (ap (λ (n : ℕ). Some n) c.from_usize.ensures ∙ c.in-Some.ensures) c.scope_or_root-scope.ensures c.reference_flags-flags.ensures

pub returns-in-None : goal.returns-in-None
returns-in-None c =
    reference_told c.args.row.now c.args.known.now c.new.result c.from_usize-node.result None c.scope_or_root-scope.result c.reference_flags-flags.result c.new.ensures c.from_usize-node.ensures c.in-None.ensures
    c.scope_or_root-scope.ensures c.reference_flags-flags.ensures
