-- The groups that a map has are those of the definitions.
use Rattle.std.specs.Prelude.{◌≡◌, ◌&&◌, ℕ, nat_eq, List, Option, None, Some, find, map, option_map}
use Rattle.std.specs.BTreeMap.{BTreeMap}
use Rattle.std.specs.Option.{option_flatten}
use Rattle.std.proofs.Common.{refl, sym, ap, ◌∙◌}
use Rattle.std.proofs.lemmas.Simd.{map-map}
use Rattle.kept_names.specs.GroupsAt.{HasGroups, group_in}
use Rattle.kept_names.specs.Views.{bound_of, bounds_of}
use Rattle.kept_names.specs.declared.bound.BoundPlace.{BoundPlace}
use Rattle.list_laws.proofs.Mapped.{map_same}
use Rattle.name_rules.specs.Groups.{Member, group_at, group_of, members_of}
use Rattle.name_rules.specs.Kept.{kept_alone}
use Rattle.name_rules.specs.Options.{Options}
use Rattle.place_list.specs.declared.tables.PlaceList.{PlaceList}
use Rattle.scope_rules.specs.Bindings.{Bound, bound, is_binding, node, same_name, shadower}
use Rattle.tree_nodes.specs.Tree.{Text}
use Rattle.tree_places.specs.Places.{Place}
use Rattle.tree_places.specs.Scopes.{Scope}

module _ (ks : List ℕ) (ps : List Place) (bs : List (Bound Text)) (m : BTreeMap ℕ (Option ℕ)) (has : HasGroups ks ps bs m) where
  there : {Y : Type 0} (f : Y → Option ℕ) (r : Option Y) → option_flatten (option_map f r) ≡ elim r as (λ _. Option ℕ) [ None ↦ None | Some b ↦ f b ]
  there f None = refl
  there f (Some b) = refl

  pub group_is : (o : Option ℕ) → group_in m o ≡ group_at ks ps bs o
  unfolding group_in group_at
  group_is None = refl
  group_is (Some n) =
      ap option_flatten (has n)
      ∙ there (λ (b : Bound Text). group_of ks n (shadower same_name ps b.place)) (find (λ b. is_binding b && nat_eq (node b.place) n) bs)

module _ (l : PlaceList) (o : Options) (withs : List Scope) (ps : List Place) (places : List BoundPlace) (are : bounds_of l places ≡ bound same_name ps) where
  of_members : map (λ (m : Member). m.group) (members_of o withs ps) ≡ map (λ (b : Bound Text). group_at (kept_alone o withs ps (bound same_name ps)) ps (bound same_name ps) b.binding) (bound same_name ps)
  unfolding members_of
  of_members = map-map (λ (m : Member). m.group) (λ (b : Bound Text). record { place = b.place; binding = b.binding; group = group_at (kept_alone o withs ps (bound same_name ps)) ps (bound same_name ps) b.binding }) (bound same_name ps)

  pub members_groups : (m : BTreeMap ℕ (Option ℕ)) → HasGroups (kept_alone o withs ps (bound same_name ps)) ps (bound same_name ps) m → map (λ (b : BoundPlace). group_in m b.binding) places ≡ map (λ (m : Member). m.group) (members_of o withs ps)
  unfolding bound_of
  members_groups m has =
      map_same _ _ places (λ b i. group_is (kept_alone o withs ps (bound same_name ps)) ps (bound same_name ps) m has b.binding)
      ∙ sym (map-map (λ (b : Bound Text). group_at (kept_alone o withs ps (bound same_name ps)) ps (bound same_name ps) b.binding) (bound_of l) places)
      ∙ ap (map (λ (b : Bound Text). group_at (kept_alone o withs ps (bound same_name ps)) ps (bound same_name ps) b.binding)) are
      ∙ sym of_members
