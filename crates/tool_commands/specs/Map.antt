-- What the command `map` answers.
use Rattle.std.specs.Prelude.{◌≡◌, ℕ, List}
use Rattle.mangle_tool.specs.Answer.{IsReadFrom}
use Rattle.mangle_tool.specs.Asked.{Asked, asked_for}
use Rattle.mangle_tool.specs.Mangling.{IsMangling}
use Rattle.name_map.specs.Filled.{apply_map}
use Rattle.name_map.specs.Fits.{Fits}
use Rattle.name_map.specs.Made.{IsMapOf}
use Rattle.name_map.specs.Undoing.{Undoing}
use Rattle.name_map.specs.Written.{IsMap}
use Rattle.name_rules.specs.Options.{Options}
use Rattle.tool_commands.specs.Mapped.{mapped_text}
use Rattle.tool_words.specs.Words.{AreListed, Settings}
use Rattle.tree_nodes.specs.Tree.{Text, Tree}

-- the text is that of what the program t becomes under these options, beside the map of this renaming
pub record IsMapText (o : Options) (t : Tree) (text : List ℕ) : Type 0 where
  pub output : Tree
  pub mangles : IsMangling o t output
  pub undoing : Undoing
  pub is_map : IsMapOf t output undoing
  -- its numbers have 32 bits, and its names are in UTF-8
  pub sized : IsMap undoing
  -- it fits, and gives t back
  pub fits : Fits output undoing
  pub restores : apply_map output undoing ≡ t
  pub text_is : text ≡ mapped_text output undoing

-- the input is JSON within the limits, and the text that of its program, as it is asked for
pub record IsMapAnswer (a : Asked) (input text : List ℕ) : Type 0 where
  pub tree : Tree
  pub read : IsReadFrom a.reserved input tree
  pub answer : IsMapText (a.options tree) tree text

-- the same under settings of words. The reserved names are a set, so they are told in some order
pub record IsMapBy (s : Settings) (input text : List ℕ) : Type 0 where
  pub names : List Text
  pub listed : AreListed names s.reserved
  pub answer : IsMapAnswer (asked_for s.flags names) input text
