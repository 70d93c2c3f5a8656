-- What is read from texts that are printed.
use Rattle.std.specs.Prelude.{◌≡◌, ◌≤◌, ℕ, List, Some}
use Rattle.std.specs.Str.{IsUtf8}
use Rattle.json_reading.specs.Parsed.{parsed_as}
use Rattle.json_reading.specs.Readable.{HasNoLone, IsReadable, nesting}
use Rattle.json_text.specs.Json.{Json}
use Rattle.json_text.specs.Layout.{Layout}
use Rattle.json_text.specs.Text.{text_of}
use Rattle.serde_json.specs.Data.{Data}
use Rattle.serde_json.specs.Read.{max_depth, read}
use Rattle.tree_core.specs.JsonOf.{json_of}
use Rattle.tree_core.specs.Reading.{tree_of}
use Rattle.tree_core.specs.Values.{value_of}
use Rattle.tree_nodes.specs.Tree.{Tree}

-- in each layout the text of a value is UTF-8, and is read as the value
abbrev pub PrintedValuesAreRead : Type 0
PrintedValuesAreRead = (l : Layout) (v : Json) → IsReadable v → nesting v ≤ max_depth → IsUtf8 (text_of l v) × (read (text_of l v) ≡ Some (parsed_as v))

-- `serde_json` reads a value from the text, and that is a value of the tree
pub record IsReadAs (t : Tree) (text : List ℕ) : Type 0 where
  pub value : Data
  pub utf8 : IsUtf8 text
  pub parses : read text ≡ Some value
  pub is_tree : tree_of (json_of value) ≡ Some t

-- in each layout the text of a tree's value is read as the tree
abbrev pub PrintedTreesAreRead : Type 0
PrintedTreesAreRead = (l : Layout) (v : Json) (t : Tree) → tree_of v ≡ Some t → HasNoLone (value_of t) → nesting (value_of t) ≤ max_depth → IsReadAs t (text_of l (value_of t))
