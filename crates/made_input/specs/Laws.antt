-- That a made text is the text of a program: what it reads as is within the limits, and is the made tree, which has no fault.
use Rattle.std.specs.Prelude.{◌≡◌, ℕ, ◌≤◌, List, Some, false, IsFalse}
use Rattle.std.specs.Str.{IsUtf8}
use Rattle.scope_rules.specs.Bindings.{same_name}
use Rattle.scope_rules.specs.Faults.{has_fault}
use Rattle.serde_json.specs.Data.{Members, object}
use Rattle.serde_json.specs.Events.{members_len}
use Rattle.serde_json.specs.Read.{read}
use Rattle.tree_core.specs.JsonOf.{json_of}
use Rattle.tree_core.specs.Limits.{is_too_large}
use Rattle.tree_core.specs.Reading.{tree_of}
use Rattle.tree_nodes.specs.Tree.{Tree, alone}
use Rattle.tree_places.specs.Places.{places}
use Rattle.made_input.specs.Made.{made_text, made_tree}

-- `serde_json` reads the text as an object of six members, within the limits, which is this tree, one without fault
pub record IsTextOf (t : Tree) (input : List ℕ) : Type 0 where
  pub members : Members
  pub six : members_len members ≡ 6
  pub utf8 : IsUtf8 input
  pub parses : read input ≡ Some (object members)
  pub within : is_too_large (object members) 0 ≡ false
  pub is_tree : tree_of (json_of (object members)) ≡ Some t
  pub sound : IsFalse (has_fault same_name (places (alone t)))

abbrev pub MadeTextsAreRead : Type 0
MadeTextsAreRead = (n : ℕ) → n ≤ 2000 → IsTextOf (made_tree n) (made_text n)
