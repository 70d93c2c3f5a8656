-- The law on names that are given by slot.
use Rattle.std.specs.Prelude.{◌≡◌, ◌<◌, ℕ, [], get_or, Option, Some, None, IsFalse}
use Rattle.name_rules.specs.FreeNames.{is_taken}
use Rattle.name_rules.specs.GivenNames.{given_names, names_of_slots}
use Rattle.name_rules.specs.Groups.{group_at, members}
use Rattle.name_rules.specs.Kept.{kept_alone}
use Rattle.name_rules.specs.Options.{Options}
use Rattle.name_rules.specs.Slots.{number_of_slots, slot_of, slots_of}
use Rattle.tree_nodes.specs.Tree.{Parts, Text}
use Rattle.tree_places.specs.Laws.{IsRooted}
use Rattle.tree_places.specs.Places.{Place, named_by, places, sites, withs}
use Rattle.scope_rules.specs.Bindings.{binding, bindings, bound, same_name}
use Rattle.scope_rules.specs.Renamings.{KeepsApart, all_under}

-- the group of a place of a tree, and the slot of that
unfoldable pub group_in : Options → Parts → Place → Option ℕ
group_in o t p = group_at (kept_alone o (withs t) (places t) (bound same_name (places t))) (places t) (bound same_name (places t)) (binding same_name (places t) p)

unfoldable pub slot_in : Options → Parts → Place → Option ℕ
slot_in o t p = slot_of (slots_of o t) (group_in o t p)

-- a place is called as its slot, where it has one
unfoldable pub named_by_slot : Options → Parts → (ℕ → Text) → Place → Text
named_by_slot o t name p = elim (slot_in o t p) [ None ↦ p.name | Some k ↦ name k ]

-- names for a tree's slots: different ones, none of which is taken
pub record FitSlots (o : Options) (t : Parts) (name : ℕ → Text) : Type 0 where
  pub different : (j k : ℕ) → j < number_of_slots (slots_of o t) → k < number_of_slots (slots_of o t) → name j ≡ name k → j ≡ k
  pub untaken : (k : ℕ) → k < number_of_slots (slots_of o t) → IsFalse (is_taken o (members o t) (name k))

-- such names keep apart what the old ones did
abbrev pub SlotNamesKeepApart : Type 0
SlotNamesKeepApart = (o : Options) (t : Parts) (name : ℕ → Text) → IsRooted t → FitSlots o t name → KeepsApart same_name (places t) (named_by_slot o t name)

-- and leave each place its binding
abbrev pub SlotNamesKeepBindings : Type 0
SlotNamesKeepBindings = (o : Options) (t : Parts) (name : ℕ → Text) → IsRooted t → FitSlots o t name
    → bindings same_name (all_under (named_by_slot o t name) (places t)) ≡ bindings same_name (places t)

-- the names that a tree's slots get are such
abbrev pub GivenNamesFit : Type 0
GivenNamesFit = (o : Options) (t : Parts) → FitSlots o t (λ k. get_or (names_of_slots o t) k [])

-- so under the given names each place has the binding that it had
abbrev pub GivenNamesKeepBindings : Type 0
GivenNamesKeepBindings = (o : Options) (t : Parts) → IsRooted t → bindings same_name (named_by (sites t) (given_names o t)) ≡ bindings same_name (places t)
