-- A tree under its given names.
use Rattle.std.specs.Prelude.{◌≡◌, ℕ, List, [], ◌∷◌, map, get_or}
use Rattle.std.proofs.Common.{refl, ap, ◌∙◌}
use Rattle.std.proofs.lemmas.Simd.{map-map}
use Rattle.tree_nodes.specs.Tree.{Parts, Text}
use Rattle.tree_places.specs.Places.{Place, Site, named_by, names, places, sites, withs}
use Rattle.scope_rules.proofs.BindingsStay.{bindings_stay}
use Rattle.scope_rules.proofs.SameNames.{same_name_tells}
use Rattle.scope_rules.specs.Bindings.{Bound, binding, bindings, bound, same_name}
use Rattle.scope_rules.specs.Renamings.{under}
use Rattle.name_rules.proofs.GivenNamesFit.{given_names_fit}
use Rattle.name_rules.proofs.SlotNamesKeepApart.{keeps_apart}
use Rattle.name_rules.specs.GivenNames.{given_names, names_of_slots, new_name}
use Rattle.name_rules.specs.Groups.{group_at}
use Rattle.name_rules.specs.Kept.{kept_alone}
use Rattle.name_rules.specs.Open.{all_open}
use Rattle.name_rules.specs.Options.{Options}
use Rattle.name_rules.specs.SlotNames.{GivenNamesKeepBindings, group_in, named_by_slot}
use Rattle.name_rules.specs.Slots.{slots_of}

-- sites under the names that their places get are the places under these names
pub named_under : (f : Place → Text) (ss : List Site) (xs : List Text) → named_by ss (map f (named_by ss xs)) ≡ map (under f) (named_by ss xs)
unfolding all_open
named_under f [] [] = refl
named_under f [] (x ∷ xs) = refl
named_under f (s ∷ ss) [] = refl
named_under f (s ∷ ss) (x ∷ xs) = ap (λ ps. record { site = s; name = f (record { site = s; name = x }) } ∷ ps) (named_under f ss xs)

-- the given names are those by slot
pub given_by_slot : (o : Options) (t : Parts) → given_names o t ≡ map (named_by_slot o t (λ k. get_or (names_of_slots o t) k [])) (places t)
unfolding all_open
given_by_slot o t =
    ap (map (new_name (slots_of o t) (names_of_slots o t)))
    (map-map (λ (b : Bound Text). record { place = b.place; binding = b.binding; group = group_at (kept_alone o (withs t) (places t) (bound same_name (places t))) (places t) (bound same_name (places t)) b.binding })
    (λ (p : Place). record { place = p; binding = binding same_name (places t) p }) (places t))
    ∙ map-map (new_name (slots_of o t) (names_of_slots o t)) (λ (p : Place). record { place = p; binding = binding same_name (places t) p; group = group_in o t p }) (places t)

pub given_names_keep_bindings : GivenNamesKeepBindings
unfolding all_open
given_names_keep_bindings o t root =
    let name : ℕ → Text = λ k. get_or (names_of_slots o t) k [] in
    ap (λ xs. bindings same_name (named_by (sites t) xs)) (given_by_slot o t)
    ∙ ap (bindings same_name) (named_under (named_by_slot o t name) (sites t) (names t))
    ∙ bindings_stay same_name same_name same_name_tells same_name_tells (places t) (named_by_slot o t name) (keeps_apart o t name root (given_names_fit o t))
