-- Why a value was not read.
use Rattle.tree_core.specs.declared.read.ReadError.{ReadError}
use Rattle.tree_core.specs.declared.read.ReadError.TheVariants.{TooLarge, BadTree, Memory}

-- what the error says of a value within the limits: that it is no tree, as this fact has it, or that memory ran out
abbrev pub Says : ReadError → Type 0 → Type 0
Says TooLarge no_tree = ⊥
Says BadTree no_tree = no_tree
Says Memory no_tree = Unit {0}
