-- A made text is a valid input.
use Rattle.std.proofs.Common.{◌≡◌, ◌&&◌, ℕ, List, None, nat_eq, codes, is_some, option_and_then, unwrap_or, if◌then◌else◌, ap, ◌∙◌}
use Rattle.made_input.specs.Laws.{IsTextOf}
use Rattle.mangle_tool.specs.Answer.{IsValidInput}
use Rattle.mangle_tool.specs.Input.{program_in}
use Rattle.serde_json.specs.Data.{Data, Members, object}
use Rattle.serde_json.specs.Events.{members_len}
use Rattle.serde_json.specs.Find.{as_array, get_member}
use Rattle.tree_core.specs.JsonOf.{json_of}
use Rattle.tree_core.specs.Reading.{tree_of}
use Rattle.tree_nodes.specs.Tree.{Tree}

-- six members are no envelope
not_wrapped : (ms : Members) → members_len ms ≡ 6 → program_in (object ms) ≡ object ms
not_wrapped ms six = ap (λ (n : ℕ). unwrap_or (if nat_eq n 2 && is_some (option_and_then as_array (get_member (codes "fixes") ms)) then get_member (codes "node") ms else None) (object ms)) six

pub text_is_valid : (t : Tree) (input : List ℕ) → IsTextOf t input → IsValidInput 0 input
text_is_valid t input is = record {
  value = object is.members;
  parses = (is.utf8, is.parses);
  valid = record {
    tree = t;
    within = is.within;
    is_tree = ap (λ (d : Data). tree_of (json_of d)) (not_wrapped is.members is.six) ∙ is.is_tree;
    sound = is.sound;
  };
}
