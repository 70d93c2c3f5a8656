-- What a mangling is asked to do (after the options of oxc_mangler).
use Rattle.std.specs.Prelude.{Bool, true, not, nat_eq, List, Option, Some, None}
use Rattle.tree_nodes.specs.Tree.{Parts, Text, child, part, word_of}

pub record Options : Type 0 where
  -- bindings of the root may be renamed
  pub top_level : Bool
  -- functions keep their names, and classes theirs
  pub keep_functions : Bool
  pub keep_classes : Bool
  -- names that bindings keep and that are never given
  pub reserved : List Text
  -- names are given as `slot_0`, `slot_1` and so on
  pub readable : Bool

-- whether bindings of the root may be renamed: as asked, else in all but scripts, since those share their root with others. The second field of a Program is its source type
unfoldable pub renames_root : Option Bool → Parts → Bool
renames_root (Some asked) t = asked
renames_root None (child k s e fields more) = not (nat_eq (word_of (part fields 1)) 0)
renames_root None _ = true
