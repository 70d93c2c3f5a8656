-- What `restore` makes of what `map` wrote.
use Rattle.std.specs.Prelude.{◌≡◌, ◌≤◌, ℕ, List, Some, length}
use Rattle.std.specs.Io.KnownBytes.{Appends}
use Rattle.std.specs.declared.option.Option.{Option}
use Rattle.json_reading.specs.Readable.{HasNoLone, nesting}
use Rattle.json_text.specs.Grammar.{Reads}
use Rattle.json_text.specs.Json.{Json}
use Rattle.json_text.specs.Layout.{compact}
use Rattle.oxc_estree.specs.Envelope.{envelope}
use Rattle.serde_json.specs.Read.{max_depth}
use Rattle.tool_commands.specs.Command.{mapping, restoring}
use Rattle.tool_commands.specs.Map.{IsMapBy}
use Rattle.tool_commands.specs.Mapped.{mapped_value}
use Rattle.tool_commands.specs.Restore.{IsRestorable, IsRestored}
use Rattle.tool_commands.specs.Tool.{HasDone, IsAnswerable}
use Rattle.tool_outside.specs.declared.carry_out.TheConstants.{INPUT_LIMIT}
use Rattle.tool_words.specs.Words.{Settings}
use Rattle.tree_core.specs.Values.{meaning_of}
use Rattle.tree_nodes.specs.Tree.{Tree}

-- a text that can be read again: no longer than an input may be, and in its value no surrogate stands alone, and it nests at most 127 deep
pub record CanBeReadAgain (text : List ℕ) : Type 0 where
  pub value : Json
  pub reads : Reads text value
  pub whole : HasNoLone value
  pub shallow : nesting value ≤ max_depth
  pub short : length text ≤ INPUT_LIMIT

-- `restore` can answer the text, and its answer is the one that holds the tree t
pub record IsUndoneTo (t : Tree) (text : List ℕ) : Type 0 where
  pub restorable : IsRestorable text
  pub restored : IsRestored text (envelope compact (meaning_of t))
  pub alone : (answer : List ℕ) → IsRestored text answer → answer ≡ envelope compact (meaning_of t)

-- what `map` writes is undone to the tree that it read
abbrev pub MapsAreUndone : Type 0
MapsAreUndone = (s : Settings) (input text : List ℕ) (map : IsMapBy s input text) → CanBeReadAgain text → IsUndoneTo map.answer.tree text

-- `restore` can answer the text where that is its input, and once it is done it has written the answer that holds the tree t
pub record IsPipedBackTo (t : Tree) (text : List ℕ) : Type 0 where
  pub answerable : IsAnswerable (Some restoring) (Some text)
  pub written : (left_new : Option (List ℕ)) (given_old given_new : ℕ) (held_old held_new : Option (List ℕ))
      → HasDone (Some restoring) (Some text) left_new given_old given_new held_old held_new → Appends held_old held_new (envelope compact (meaning_of t))

-- such is what `map` has written once it is done, and t the tree that it read
abbrev pub PipedMapsAreUndone : Type 0
PipedMapsAreUndone = (s : Settings) (left_old left_new : Option (List ℕ)) (given_old given_new : ℕ) (held_old held_new : Option (List ℕ))
    (map : HasDone (Some (mapping s)) left_old left_new given_old given_new held_old held_new) → CanBeReadAgain map.answer.text
    → IsPipedBackTo map.answer.is_text.answer.tree map.answer.text

-- what `map` writes is, by the grammar of JSON, the object of exactly the mangled tree and the map, and no other value
abbrev pub MapTextsAreJson : Type 0
MapTextsAreJson = (s : Settings) (input text : List ℕ) (map : IsMapBy s input text)
    → Reads text (mapped_value map.answer.answer.output map.answer.answer.undoing)
    × ((v : Json) → Reads text v → v ≡ mapped_value map.answer.answer.output map.answer.answer.undoing)
