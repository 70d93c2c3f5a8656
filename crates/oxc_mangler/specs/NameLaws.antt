-- What the laws on names say of the names that are given.
use Rattle.std.specs.Prelude.{◌≡◌, ◌≤◌, ◌<◌, ℕ, ◌^◌, List, [], get_or, length}
use Rattle.std.specs.List.{AllPairs, Contains}
use Rattle.name_rules.specs.Bounds.{candidate_limit}
use Rattle.name_rules.specs.GivenNames.{names_of_slots}
use Rattle.name_rules.specs.Groups.{members}
use Rattle.name_rules.specs.Laws.{Apart}
use Rattle.name_rules.specs.Mangled.{IsRival}
use Rattle.name_rules.specs.Options.{Options}
use Rattle.name_rules.specs.PrivateLaws.{IsClosedAround}
use Rattle.name_rules.specs.PrivateNumbers.{number_in}
use Rattle.name_rules.specs.ShortNames.{candidate}
use Rattle.name_rules.specs.Shortest.{changed_names}
use Rattle.name_rules.specs.SlotNames.{FitSlots}
use Rattle.name_rules.specs.Slots.{slots_of}
use Rattle.scope_rules.specs.PrivateNames.{distinct, private_names}
use Rattle.tree_nodes.specs.Tree.{Parts, Text}
use Rattle.tree_places.specs.Places.{Place, places}

-- so many names, those of the slots of a tree, are as few as can be, different, apart and bounded, and private numbers differ
pub record MeetNameLaws (o : Options) (t : Parts) (count : ℕ) : Type 0 where
  -- no rival has fewer different names for the bindings that aren't kept
  pub fewest : (w : Parts) → IsRival t o w → count ≤ length (distinct (changed_names o t w))
  -- slots have different names, none of which is taken
  pub fit : FitSlots o t (λ k. get_or (names_of_slots o t) k [])
  -- groups that share a slot, and so a name, are never live in one scope
  pub apart : AllPairs (Apart (members o t)) (slots_of o t)
  -- each name is a candidate below the limit
  pub bounded : (x : Text) → Contains (names_of_slots o t) x → (n : ℕ) × (x ≡ candidate o.readable n) × (n < candidate_limit o t)
  pub limited : candidate_limit o t < 2 ^ 31
  -- along the class bodies around a place one number is one class and one private name
  pub private : (p : Place) → Contains (places t) p → (c d : ℕ) (outside_c outside_d : List ℕ) → IsClosedAround t p c outside_c → IsClosedAround t p d outside_d
      → (i j : ℕ) → i < length (private_names (places t) c) → j < length (private_names (places t) d) → number_in (places t) outside_c i ≡ number_in (places t) outside_d j
      → (c ≡ d) × (i ≡ j)
