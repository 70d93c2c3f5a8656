-- What is found of all places is what the tree's slots are.
use Rattle.std.specs.Prelude.{◌≡◌, ◌⊎◌, ◌<◌, ◌≤◌, ℕ, suc, Bool, true, false, cond, nat_eq, List, [], ◌∷◌, length, get_or, map, max, filter, find, Option, Some, None}
use Rattle.std.proofs.Common.{refl, sym, ap, ◌∙◌, subst, arith, inl, inr}
use Rattle.std.proofs.lemmas.Bool.{both_ways, cases_lt, eq-eqb, eqb-true}
use Rattle.std.proofs.lemmas.List.{length-map}
use Rattle.std.proofs.lemmas.Simd.{map-map}
use Rattle.list_laws.proofs.AllOf.{AllOf}
use Rattle.live_slots.proofs.GroupsOfPlaces.{beside, extents_led, group_of, groups_led}
use Rattle.live_slots.proofs.ReferencesCounted.{weights_are}
use Rattle.live_slots.proofs.SlotsByNode.{slots_are}
use Rattle.live_slots.specs.Buckets.{values_at}
use Rattle.live_slots.specs.Extents.{AreSlotsOf, extents}
use Rattle.live_slots.specs.Leaders.{homes_led, leaders_by, rows_of}
use Rattle.live_slots.specs.Slots.{AreGroupsOf, busiest_home, first_slot, slot_count, slot_in, weight_by}
use Rattle.live_slots.specs.declared.leaders.Leader.{Leader}
use Rattle.name_rules.proofs.GroupsInOrder.{groups_in_order}
use Rattle.name_rules.proofs.SlotsAreFewest.{last_width, slotted_groups}
use Rattle.name_rules.specs.GivenNames.{count_from}
use Rattle.name_rules.specs.Groups.{Group, Member, greatest, groups_of, is_live, members, width}
use Rattle.name_rules.specs.Options.{Options}
use Rattle.name_rules.specs.Slots.{Slotted, number_of_slots, slot_of, slots, slots_of, weight}
use Rattle.place_list.specs.Bounds.{IsBelow, IsBounded}
use Rattle.place_list.specs.TableViews.{list_view, scope_at, scopes_in}
use Rattle.place_list.specs.declared.tables.PlaceList.{PlaceList}
use Rattle.tree_nodes.specs.Tree.{Parts}
use Rattle.tree_places.specs.Scopes.{Scope}

count_of_slots : (bs : List Slotted) → number_of_slots bs ≡ slot_count (map (λ b. b.slot) bs)
unfolding number_of_slots slot_count
count_of_slots bs = ap greatest (sym (map-map (λ (k : ℕ). suc k) (λ (b : Slotted). b.slot) bs))

-- the last of the slots is some group's
none_last : (bs : List Slotted) (n : ℕ) → number_of_slots bs ≡ n → AllOf (λ (b : Slotted). suc b.slot ≡ n → ⊥) bs → n ≡ 0
unfolding number_of_slots greatest
none_last [] n e a = sym e
none_last (b ∷ bs) n e a = go (cases_lt (suc b.slot) (greatest (map (λ (c : Slotted). suc c.slot) bs))) (λ q. none_last bs n q a.1)
  where
    go : (suc b.slot < greatest (map (λ (c : Slotted). suc c.slot) bs)) ⊎ (greatest (map (λ (c : Slotted). suc c.slot) bs) ≤ suc b.slot) → (greatest (map (λ (c : Slotted). suc c.slot) bs) ≡ n → n ≡ 0) → n ≡ 0
    go (inl l) ih = ih (omega (arith, e, l))
    go (inr l) ih = absurd (a.0 (omega (arith, e, l)))

slot_below : (bs : List Slotted) (o : Option ℕ) → IsBelow (number_of_slots bs) (slot_of bs o)
unfolding number_of_slots greatest slot_of
slot_below bs None = tt
slot_below [] (Some n) = tt
slot_below (b ∷ bs) (Some n) = go (nat_eq b.group.leader n) (slot_below bs (Some n))
  where
    raise : (o : Option ℕ) → IsBelow (greatest (map (λ (c : Slotted). suc c.slot) bs)) o → IsBelow (max (suc b.slot) (greatest (map (λ (c : Slotted). suc c.slot) bs))) o
    raise None h = tt
    raise (Some k) h = omega (arith, h)

    go : (v : Bool) → IsBelow (greatest (map (λ (c : Slotted). suc c.slot) bs)) (elim (find (λ (c : Slotted). nat_eq c.group.leader n) bs) as (λ o. Option ℕ) [ None ↦ None | Some c ↦ Some c.slot ])
        → IsBelow (max (suc b.slot) (greatest (map (λ (c : Slotted). suc c.slot) bs))) (elim (cond v (Some b) (find (λ (c : Slotted). nat_eq c.group.leader n) bs)) as (λ o. Option ℕ) [ None ↦ None | Some c ↦ Some c.slot ])
    go true ih = omega arith
    go false ih = raise (elim (find (λ (c : Slotted). nat_eq c.group.leader n) bs) as (λ o. Option ℕ) [ None ↦ None | Some c ↦ Some c.slot ]) ih

-- where there are no slots, there are no groups
no_groups : (bs : List Slotted) (gs : List Group) (p : Group → Bool) → map (λ b. b.group) bs ≡ gs → number_of_slots bs ≡ 0 → length (filter p gs) ≡ 0
unfolding number_of_slots greatest
no_groups [] gs p e z = ap (λ (hs : List Group). length (filter p hs)) (sym e)
no_groups (b ∷ bs) gs p e z = absurd (omega (arith, z))

module _ (l : PlaceList) (W : Scope → ℕ) (n : ℕ) where
  -- the home that is found is as wide, or no slot is the last
  home_or_none : (rs : List Leader) (bs : List Slotted) → map (group_of l) rs ≡ map (λ b. b.group) bs → AllOf (λ b. suc b.slot ≡ n → W b.group.home ≡ n) bs
      → (W (scope_at l (Some (busiest_home rs (map (λ b. b.slot) bs) n))) ≡ n) ⊎ AllOf (λ b. suc b.slot ≡ n → ⊥) bs
  unfolding busiest_home
  home_or_none [] [] e a = inr tt
  home_or_none [] (b ∷ bs) e a = absurd (cc)
  home_or_none (r ∷ rs) [] e a = absurd (cc)
  home_or_none (r ∷ rs) (b ∷ bs) e a =
      let head : group_of l r ≡ b.group = cc in
      let tail : map (group_of l) rs ≡ map (λ (c : Slotted). c.group) bs = cc in
      go (nat_eq (suc b.slot) n) refl (ap (λ (g : Group). g.home) head) (home_or_none rs bs tail a.1)
    where
      go : (v : Bool) → nat_eq (suc b.slot) n ≡ v → scope_at l (Some r.home) ≡ b.group.home
          → (W (scope_at l (Some (busiest_home rs (map (λ (c : Slotted). c.slot) bs) n))) ≡ n) ⊎ AllOf (λ (c : Slotted). suc c.slot ≡ n → ⊥) bs
          → (W (scope_at l (Some (cond v r.home (busiest_home rs (map (λ (c : Slotted). c.slot) bs) n)))) ≡ n) ⊎ AllOf (λ (c : Slotted). suc c.slot ≡ n → ⊥) (b ∷ bs)
      go true t h ih = inl (ap W h ∙ a.0 (eqb-true (suc b.slot) n t))
      go false t h (inl w) = inl w
      go false t h (inr none) = inr ((λ q. both_ways (nat_eq (suc b.slot) n) t (eq-eqb (suc b.slot) n q)), none)

module _ (l : PlaceList) (bounded : IsBounded (list_view l)) (os : List (Option ℕ)) (o : Options) (t : Parts) (are : AreGroupsOf l os o t) (b : ℕ) (below : AllOf (IsBelow b) os)
    (by_node : List (List (Option ℕ))) (held : (k : ℕ) → k < b → get_or by_node k [] ≡ values_at os (map (λ e. e.setting.scope) l.places.items) k)
    (rs : List Leader) (led : rs ≡ leaders_by (homes_led l.places.items os) os (length l.scopes.items))
    (ks : List ℕ) (given : AreSlotsOf (extents (scopes_in l) (rows_of by_node rs)) ks) where
  of_groups : map (λ c. c.group) (slots_of o t) ≡ groups_of o t
  unfolding slots_of slots
  of_groups = slotted_groups (members o t) [] (groups_of o t)

  slots_given : ks ≡ map (λ c. c.slot) (slots_of o t)
  unfolding slots_of
  slots_given = given (members o t) (groups_of o t) (extents_led l bounded os o t are by_node b held rs led below)

  groups_same : map (group_of l) rs ≡ map (λ c. c.group) (slots_of o t)
  groups_same = ap (map (group_of l)) led ∙ groups_led l bounded os o t are ∙ sym of_groups

  nodes_same : map (λ r. r.node) rs ≡ map (λ c. c.group.leader) (slots_of o t)
  nodes_same =
      sym (map-map (λ (g : Group). g.leader) (group_of l) rs) ∙ ap (map (λ (g : Group). g.leader)) groups_same
      ∙ map-map (λ (g : Group). g.leader) (λ (c : Slotted). c.group) (slots_of o t)

  -- there is a slot for each leader
  pub slots_long : length ks ≡ length rs
  slots_long =
      ap (length {A = ℕ}) slots_given ∙ length-map (slots_of o t) (λ (c : Slotted). c.slot) ∙ sym (length-map (slots_of o t) (λ (c : Slotted). c.group))
      ∙ ap (length {A = Group}) (sym groups_same) ∙ length-map rs (group_of l)

  pub places_are : (table ps : List (Option ℕ)) → ((k : ℕ) → k < b → get_or table k None ≡ first_slot rs ks k) → ps ≡ map (slot_in table) os → ps ≡ map (λ m. slot_of (slots_of o t) m.group) (members o t)
  places_are table ps told e =
      e ∙ slots_are rs (slots_of o t) table os b nodes_same (λ k h. told k h ∙ ap (λ (xs : List ℕ). first_slot rs xs k) slots_given) below
      ∙ ap (map (slot_of (slots_of o t))) are.groups ∙ map-map (slot_of (slots_of o t)) (λ (m : Member). m.group) (members o t)

  many_are : slot_count ks ≡ number_of_slots (slots_of o t)
  many_are = ap slot_count slots_given ∙ sym (count_of_slots (slots_of o t))

  -- no place has a slot past the last
  pub slots_below : (n : ℕ) (ps : List (Option ℕ)) → n ≡ slot_count ks → ps ≡ map (λ m. slot_of (slots_of o t) m.group) (members o t) → AllOf (IsBelow n) ps
  slots_below n ps e f =
      let P : ℕ → List (Option ℕ) → Type 0 = λ k os. AllOf (IsBelow k) os in
      subst (λ (k : ℕ). P k ps) (sym (e ∙ many_are)) (subst (P (number_of_slots (slots_of o t))) (sym f) (each (members o t)))
    where
      each : (ms : List Member) → AllOf (IsBelow (number_of_slots (slots_of o t))) (map (λ (m : Member). slot_of (slots_of o t) m.group) ms)
      each [] = tt
      each (m ∷ ms) = (slot_below (slots_of o t) m.group, each ms)

  pub all_weights_are : (n : ℕ) (ps : List (Option ℕ)) (ws : List ℕ) → n ≡ slot_count ks → ps ≡ map (λ m. slot_of (slots_of o t) m.group) (members o t) → length ws ≡ n → ((k : ℕ) → k < n → get_or ws k 0 ≡ weight_by l.places.items ps k)
      → ws ≡ map (weight (members o t) (slots_of o t)) (count_from (number_of_slots (slots_of o t)) 0)
  all_weights_are n ps ws e p many told =
      weights_are l (slots_of o t) l.places.items (members o t) ws ps n (beside l bounded os o t are) many p told
      ∙ ap (λ (k : ℕ). map (weight (members o t) (slots_of o t)) (count_from k 0)) (e ∙ many_are)

  pub busiest_is : (n x : ℕ) → n ≡ slot_count ks → x ≡ busiest_home rs ks n → width (members o t) (groups_of o t) (scope_at l (Some x)) ≡ number_of_slots (slots_of o t)
  unfolding slots_of width
  busiest_is n x e f = go (home_or_none l (width (members o t) (groups_of o t)) (number_of_slots (slots_of o t)) rs (slots_of o t) groups_same (last_width (members o t) (groups_of o t) (groups_in_order o t)))
    where
      found : x ≡ busiest_home rs (map (λ (c : Slotted). c.slot) (slots_of o t)) (number_of_slots (slots_of o t))
      found = f ∙ ap (λ (xs : List ℕ). busiest_home rs xs n) slots_given ∙ ap (busiest_home rs (map (λ (c : Slotted). c.slot) (slots_of o t))) (e ∙ many_are)

      go : (width (members o t) (groups_of o t) (scope_at l (Some (busiest_home rs (map (λ (c : Slotted). c.slot) (slots_of o t)) (number_of_slots (slots_of o t))))) ≡ number_of_slots (slots_of o t))
          ⊎ AllOf (λ (c : Slotted). suc c.slot ≡ number_of_slots (slots_of o t) → ⊥) (slots_of o t) → width (members o t) (groups_of o t) (scope_at l (Some x)) ≡ number_of_slots (slots_of o t)
      go (inl w) = ap (λ (k : ℕ). width (members o t) (groups_of o t) (scope_at l (Some k))) found ∙ w
      go (inr none) =
          let z : number_of_slots (slots_of o t) ≡ 0 = none_last (slots_of o t) (number_of_slots (slots_of o t)) refl none in
          no_groups (slots_of o t) (groups_of o t) (is_live (members o t) (scope_at l (Some x))) of_groups z ∙ sym z
