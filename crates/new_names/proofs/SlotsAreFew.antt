-- A tree has no more slots than places.
use Rattle.std.specs.List.{list_any}
use Rattle.std.specs.Prelude.{◌≡◌, ◌≤◌, ◌<◌, ℕ, true, eqb, [], map, length, Option, Some, None}
use Rattle.std.proofs.Common.{sym, ap, ◌∙◌, subst}
use Rattle.std.proofs.lemmas.Bool.{eq-eqb}
use Rattle.std.proofs.lemmas.List.{length-map}
use Rattle.list_laws.proofs.AnyOf.{any_from}
use Rattle.list_laws.proofs.Members.{In, in_from_Contains, in_map}
use Rattle.name_rules.proofs.CountFrom.{all_below_listed}
use Rattle.name_rules.proofs.Rivals.{Led, led}
use Rattle.name_rules.proofs.SlotsAreFewest.{slotted_groups}
use Rattle.name_rules.proofs.SlotsAreUsed.{slot_found, slot_used}
use Rattle.name_rules.specs.Groups.{groups_of, members}
use Rattle.name_rules.specs.Options.{Options}
use Rattle.name_rules.specs.Slots.{Slotted, number_of_slots, slot_of, slots, slots_of}
use Rattle.scope_rules.specs.Bindings.{node}
use Rattle.tree_nodes.specs.Tree.{Parts}
use Rattle.tree_places.specs.Places.{Place, places}

number_or_none : Option ℕ → ℕ
number_or_none None = 0
number_or_none (Some k) = k

module _ (o : Options) (t : Parts) where
  -- the slot of the group that a place leads, if it leads one
  slot_led : Place → ℕ
  slot_led p = number_or_none (slot_of (slots_of o t) (Some (node p)))

  led_by_place : (j : ℕ) → j < number_of_slots (slots_of o t) → list_any (eqb j) (map slot_led (places t)) ≡ true
  unfolding slots slots_of slot_led number_or_none
  led_by_place j h =
      let d : (d : Slotted) × In d (slots_of o t) × (d.slot ≡ j) = slot_used o t j h in
      let g : In d.0.group (groups_of o t) = subst (In d.0.group) (slotted_groups (members o t) [] (groups_of o t)) (in_map (λ (b : Slotted). b.group) (slots_of o t) d.0 d.1) in
      let l : Led o t d.0.group = led o t d.0.group g in
      let slot : slot_led l.leader ≡ j = ap (λ (n : ℕ). number_or_none (slot_of (slots_of o t) (Some n))) (sym l.number) ∙ ap number_or_none (slot_found o t d.0 d.1) ∙ d.2 in
      any_from (eqb j) (map slot_led (places t)) (slot_led l.leader) (in_map slot_led (places t) l.leader (in_from_Contains (places t) l.leader l.is.among)) (eq-eqb j (slot_led l.leader) (sym slot))

  pub slots_are_few : number_of_slots (slots_of o t) ≤ length (places t)
  slots_are_few =
      subst (λ (n : ℕ). number_of_slots (slots_of o t) ≤ n) (length-map (places t) slot_led)
      (all_below_listed (number_of_slots (slots_of o t)) (map slot_led (places t)) led_by_place)
