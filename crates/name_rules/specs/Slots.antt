-- Slots: groups that are never live in one scope may share one (after oxc_mangler).
use Rattle.std.specs.Prelude.{ℕ, zero, suc, ◌&&◌, nat_eq, List, [], ◌∷◌, ◌++◌, map, length, Option, Some, None, filter, find, if◌then◌else◌}
use Rattle.std.specs.List.{list_any}
use Rattle.name_rules.specs.Groups.{Group, Member, greatest, groups_of, is_live, members}
use Rattle.name_rules.specs.Options.{Options}
use Rattle.tree_nodes.specs.Tree.{Parts}
use Rattle.tree_places.specs.Scopes.{Scope}
use Rattle.scope_rules.specs.Bindings.{is_node}
use Rattle.scope_rules.specs.Homes.{refers}

pub record Slotted : Type 0 where
  pub group : Group
  pub slot : ℕ

-- the least number from k on that isn't listed. Fuel past the greatest that is listed is enough
unfoldable pub least_missing : (fuel : ℕ) → List ℕ → ℕ → ℕ
least_missing zero ns k = k
least_missing (suc fuel) ns k = let further : ℕ = least_missing fuel ns (suc k) in if list_any (nat_eq k) ns then further else k

-- the slots of the earlier groups that are live in a scope
unfoldable pub slots_live : List Member → List Slotted → Scope → List ℕ
slots_live ms before s = map (λ b. b.slot) (filter (λ b. is_live ms s b.group) before)

-- the least slot that no earlier group has which is live in the group's home
unfoldable pub slot_after : List Member → List Slotted → Group → ℕ
slot_after ms before g = let live : List ℕ = slots_live ms before g.home in least_missing (suc (greatest live)) live 0

unfoldable pub slots_after : List Member → List Slotted → List Group → List Slotted
slots_after ms before [] = before
slots_after ms before (g ∷ gs) = slots_after ms (before ++ record { group = g; slot = slot_after ms before g } ∷ []) gs

-- each group with its slot, in the order of the groups
unfoldable pub slots : List Member → List Group → List Slotted
slots ms gs = slots_after ms [] gs

unfoldable pub slots_of : Options → Parts → List Slotted
slots_of o t = slots (members o t) (groups_of o t)

unfoldable pub number_of_slots : List Slotted → ℕ
number_of_slots bs = greatest (map (λ b. suc b.slot) bs)

-- the slot of a group, by its leader
unfoldable pub slot_of : List Slotted → Option ℕ → Option ℕ
slot_of bs None = None
slot_of bs (Some n) = elim (find (λ b. nat_eq b.group.leader n) bs) [ None ↦ None | Some b ↦ Some b.slot ]

-- how many references a slot has
unfoldable pub weight : List Member → List Slotted → ℕ → ℕ
weight ms bs k = length (filter (λ m. refers m.place.site && is_node (slot_of bs m.group) k) ms)
