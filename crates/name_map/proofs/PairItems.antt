-- A list that is not of two items is no pair.
use Rattle.std.proofs.Common.{◌≡◌, List, [], ◌∷◌, None, length, refl}
use Rattle.json_text.specs.Json.{list}
use Rattle.name_map.specs.Reading as spec
use Rattle.serde_json.specs.View.{items_view}
use Rattle.serde_json.specs.declared.value.Value.{Value}
use Rattle.tree_core.specs.JsonOf as json

pub other_length : (vs : List Value) → (length vs ≡ 2 → ⊥) → spec.old_name_in (list (json.items_of (items_view vs))) ≡ None
other_length [] h = refl
other_length (a ∷ []) h = refl
other_length (a ∷ b ∷ []) h = absurd (h refl)
other_length (a ∷ b ∷ d ∷ vs) h = refl
