use Rattle.std.specs.Prelude.{◌≡◌, ℕ}
use Rattle.symbol_names.proofs.NamesSet.{up_to}
use Rattle.tree_nodes.specs.Tree.{Parts}
use Rattle.tree_semantic.specs.Semantics.{IsSemantic, IsSemanticOf, scoping_of}
use Rattle.tree_symbols.specs.Scopings.{name_set}
use Rattle.oxc_mangler.proofs.set.set_names.Given as goal

abbrev pub invariant-loop-k : goal.invariant-loop-k
invariant-loop-k l = record {
  semantic : IsSemantic l.semantic;
  same : (t : Parts) → IsSemanticOf t l.fn.semantic → IsSemanticOf t l.semantic;
  names : (j : ℕ) → name_set (scoping_of l.semantic) j ≡ up_to l.names l.k j;
}
