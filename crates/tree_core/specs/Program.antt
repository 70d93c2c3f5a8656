-- The trees that are programs, and what their source is.
use Rattle.std.specs.Prelude.{◌≡◌, ℕ, zero, suc, ◌<◌, ◌^◌, Some}
use Rattle.tree_core.specs.declared.program.SourceType.{SourceType}
use Rattle.tree_core.specs.declared.program.SourceType.TheVariants.{Script, Module, CommonJs}
use Rattle.tree_core.specs.LongestText.{longest_text}
use Rattle.tree_core.specs.NodeCount.{node_count}
use Rattle.tree_core.specs.Reading.{tree_of}
use Rattle.tree_nodes.specs.Tree.{Tree, part, word_of}
use Rattle.tree_core.specs.Values.{value_of}
use Rattle.tree_core.specs.Widest.{widest_list}

-- a tree that its own value is, and so one that some value is, of fewer than 2^30 nodes, with fewer than 2^30 items in each list and
-- at most 4,294,967,295 bytes in each text
abbrev pub IsProgram : Tree → Type 0
IsProgram t = (tree_of (value_of t) ≡ Some t) × (node_count t < 2 ^ 30) × (widest_list t.fields < 2 ^ 30) × (longest_text t.fields < 2 ^ 32)

-- the source type that is the n-th word
abbrev pub source_type_at : ℕ → SourceType
source_type_at zero = Script
source_type_at (suc zero) = Module
source_type_at (suc (suc n)) = CommonJs

-- the second field of a Program
abbrev pub source_type_of : Tree → SourceType
source_type_of t = source_type_at (word_of (part t.fields 1))
