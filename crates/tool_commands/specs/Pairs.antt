-- The two members of an object that has exactly these.
use Rattle.std.specs.Prelude.{ℕ, List, nat_eq, Option, None, option_and_then, option_map, if◌then◌else◌}
use Rattle.serde_json.specs.Data.{Data, Members}
use Rattle.serde_json.specs.Events.{members_len}
use Rattle.serde_json.specs.Find.{as_object, get_member}

pub record Pair : Type 0 where
  pub first : Data
  pub second : Data

abbrev pub pair : Data → Data → Pair
pair first second = record { first = first; second = second }

-- both of two options
abbrev pub both : {A B C : Type 0} → (A → B → C) → Option A → Option B → Option C
both f a b = option_and_then (λ x. option_map (f x) b) a

-- what stands under these two keys, if the members are exactly those
abbrev pub pair_among : (one other : List ℕ) → Members → Option Pair
pair_among one other ms = if nat_eq (members_len ms) 2 then both pair (get_member one ms) (get_member other ms) else None

abbrev pub pair_in : (one other : List ℕ) → Data → Option Pair
pair_in one other d = option_and_then (pair_among one other) (as_object d)
