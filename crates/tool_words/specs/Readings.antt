-- What the code has read of words so far.
use Rattle.std.specs.Prelude.{◌≡◌, true, List, ◌∷◌, length, bytes_eq, Option, Some, if◌then◌else◌}
use Rattle.scope_rules.specs.PrivateNames.{is_among}
use Rattle.tree_nodes.specs.Tree.{Text}
use Rattle.tool_words.specs.Words as spec
use Rattle.tool_words.specs.Words.{HasSettings}
use Rattle.tool_words.specs.declared.options.Reading.{Reading}

pub record IsRead (r : spec.Reading) (code : Reading) : Type 0 where
  pub has : HasSettings r.settings code.options code.layout
  pub reserves : code.reserves ≡ r.reserves

-- the reading after a word, if it is understood, is this one
pub record IsReadNext (next : Option spec.Reading) (code : Reading) : Type 0 where
  pub reading : spec.Reading
  pub is : next ≡ Some reading
  pub read : IsRead reading code

-- names with x among them
pub record HasPut (x : Text) (old new : List Text) : Type 0 where
  pub same : (y : Text) → is_among new y ≡ (if bytes_eq x y then true else is_among old y)
  pub many : length new ≡ length (if is_among old x then old else x ∷ old)
