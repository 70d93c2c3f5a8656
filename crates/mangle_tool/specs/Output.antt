-- What the text of an answer reads as.
use Rattle.std.specs.Prelude.{◌≡◌, ℕ, List, Some}
use Rattle.json_text.specs.Grammar.{Reads}
use Rattle.name_rules.specs.Mangled.{IsMangled}
use Rattle.name_rules.specs.Options.{Options}
use Rattle.tree_core.specs.Reading.{tree_of}
use Rattle.tree_core.specs.Values.{value_of, wrapped_value}
use Rattle.tree_nodes.specs.Tree.{Tree, alone}

-- the text reads as the answer to t. A text reads as at most one value, and a value as at most one tree, so the text alone tells which
pub record IsOutput (t : Tree) (o : Options) (text : List ℕ) : Type 0 where
  -- the tree that was written
  pub output : Tree
  -- by the grammar of JSON the text is the object of exactly `node`, the value of that tree, and `fixes`, the paths to its BigInt and RegExp literals
  pub reads : Reads text (wrapped_value output)
  -- the value is read as that tree
  pub is_tree : tree_of (value_of output) ≡ Some output
  -- which is t mangled
  pub mangled : IsMangled (alone t) o (alone output)
