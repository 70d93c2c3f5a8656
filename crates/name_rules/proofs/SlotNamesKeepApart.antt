-- Names that are given by slot keep apart what the old names did.
use Rattle.std.specs.List.{Contains, list_any}
use Rattle.std.specs.Prelude.{◌≡◌, ◌⊎◌, ◌<◌, ℕ, suc, max, Bool, true, false, cond, not, ◌||◌, ◌&&◌, List, [], ◌∷◌, ◌++◌, map, filter, find, nat_eq, Option, Some, None, is_some}
use Rattle.std.proofs.Common.{refl, sym, ap, ◌∙◌, subst, arith, inl, inr}
use Rattle.std.proofs.lemmas.Bool.{or_cases, or_left, or_right, and_parts, and_from, both_ways, eq-eqb, eqb-true}
use Rattle.std.proofs.lemmas.Simd.{map-map}
use Rattle.list_laws.proofs.AllOf.{of_each}
use Rattle.list_laws.proofs.AnyOf.{any_from, any_some}
use Rattle.list_laws.proofs.FirstOf.{First, find_first, find_none}
use Rattle.list_laws.proofs.Members.{In, in_from_Contains, from_append, from_filter, from_map, in_filter, in_left, in_map, in_right}
use Rattle.list_laws.proofs.PairsOf.{one_or_paired}
use Rattle.list_laws.proofs.Tests.{none_some, some_one, told}
use Rattle.tree_nodes.specs.Tree.{Parts, Text}
use Rattle.tree_places.proofs.Homed.{var_scopes_lie_outside}
use Rattle.tree_places.proofs.Outwards.{inside_refl, same_scope_eq, same_scope_refl}
use Rattle.tree_places.proofs.Rooted.{scopes_around}
use Rattle.tree_places.specs.Laws.{IsRooted}
use Rattle.tree_places.specs.Places.{Place, names, places, scopes, sites, withs}
use Rattle.tree_places.specs.Scopes.{Scope, is_inside, same_scope}
use Rattle.scope_rules.proofs.BindingsStay.{At, binding_source, first_own, plainly, unbound_nothing}
use Rattle.scope_rules.proofs.PlacesRise.{named_site, one_of_number, places_rise}
use Rattle.scope_rules.proofs.SameNames.{same_name_tells}
use Rattle.scope_rules.specs.Bindings.{Bound, binding, bound, declares_at, is_binding, is_node, node, node_of, plain_binder, same_name, shadower}
use Rattle.scope_rules.specs.Homes.{declares, declares_plainly, home, is_var, names_function, refers}
use Rattle.scope_rules.specs.Renamings.{IsBindingOf, KeepsApart, is_bound_inside, is_live_in}
use Rattle.name_rules.proofs.GroupsInOrder.{groups_in_order}
use Rattle.name_rules.proofs.GroupsStandApart.{never_together}
use Rattle.name_rules.proofs.SlotsAreFewest.{Ordered_apart, pairs_apart, slotted_groups}
use Rattle.name_rules.specs.FreeNames.{is_taken, is_unchanged}
use Rattle.name_rules.specs.Groups.{Group, Member, group_at, group_led_by, group_of, groups, groups_of, is_live, leads, members, reaches}
use Rattle.name_rules.specs.Kept.{has_number, is_kept, kept_alone}
use Rattle.name_rules.specs.Open.{all_open}
use Rattle.name_rules.specs.Options.{Options}
use Rattle.name_rules.specs.SlotNames.{FitSlots, group_in, named_by_slot, slot_in}
use Rattle.name_rules.specs.Slots.{Slotted, number_of_slots, slot_of, slots_of}

-- ---- lists

pub greatest_in : (bs : List Slotted) (d : Slotted) → In d bs → d.slot < number_of_slots bs
unfolding all_open
greatest_in [] d i = absurd i
greatest_in (b ∷ bs) d i = go i (greatest_in bs d)
  where
    go : (b ≡ d) ⊎ In d bs → (In d bs → d.slot < number_of_slots bs) → d.slot < max (suc b.slot) (number_of_slots bs)
    go (inl e) ih = let q : b.slot ≡ d.slot = ap (λ (x : Slotted). x.slot) e in omega (arith, q)
    go (inr j) ih = let q : d.slot < number_of_slots bs = ih j in omega (arith, q)

-- ---- places of a tree

home_rooted : (t : Parts) → IsRooted t → (p : Place) → In p (places t) → home p.site ≡ [] → ⊥
unfolding all_open
home_rooted t root p i e =
    let v : same_scope p.site.setting.var_scope [] ≡ false = of_each (λ s. same_scope s.setting.var_scope [] ≡ false) (sites t) p.site root (named_site (sites t) (names t) p i) in
    let w : is_inside p.site.setting.scope p.site.setting.var_scope ≡ true = of_each (λ s. is_inside s.setting.scope s.setting.var_scope ≡ true) (sites t) p.site (var_scopes_lie_outside t) (named_site (sites t) (names t) p i) in
    go (is_var p.site.setting.role) e v w
  where
    go : (b : Bool) → cond b p.site.setting.var_scope p.site.setting.scope ≡ [] → same_scope p.site.setting.var_scope [] ≡ false → is_inside p.site.setting.scope p.site.setting.var_scope ≡ true → ⊥
    go true q v w = both_ways _ v (subst (λ (s : Scope). same_scope s [] ≡ true) (sym q) refl)
    go false q v w = both_ways _ v (subst (λ (s : Scope). same_scope s [] ≡ true) (same_scope_eq [] p.site.setting.var_scope (subst (λ (s : Scope). is_inside s p.site.setting.var_scope ≡ true) q w)) refl)

pub home_inside : (t : Parts) (p : Place) → In p (places t) → is_inside p.site.setting.scope (home p.site) ≡ true
unfolding all_open
home_inside t p i = go (is_var p.site.setting.role) (of_each (λ s. is_inside s.setting.scope s.setting.var_scope ≡ true) (sites t) p.site (var_scopes_lie_outside t) (named_site (sites t) (names t) p i))
  where
    go : (b : Bool) → is_inside p.site.setting.scope p.site.setting.var_scope ≡ true → is_inside p.site.setting.scope (cond b p.site.setting.var_scope p.site.setting.scope) ≡ true
    go true w = w
    go false w = inside_refl p.site.setting.scope

home_among : (t : Parts) → IsRooted t → (p : Place) → In p (places t) → list_any (same_scope (home p.site)) (scopes t) ≡ true
unfolding all_open
home_among t root p i =
    of_each (λ s. (y : Scope) → is_inside s.setting.scope y ≡ true → (y ≡ [] → ⊥) → list_any (same_scope y) (scopes t) ≡ true) (sites t) p.site (scopes_around t) (named_site (sites t) (names t) p i)
    (home p.site) (home_inside t p i) (home_rooted t root p i)

-- ---- the groups of bindings

module _ (o : Options) (t : Parts) where
  abbrev ps : List Place
  ps = places t

  abbrev bs : List (Bound Text)
  bs = bound same_name (places t)

  abbrev kept : List ℕ
  kept = kept_alone o (withs t) (places t) (bound same_name (places t))

  abbrev Binding : Place → Type 0
  Binding b = IsBindingOf same_name (places t) b

  -- a place as a member
  unfoldable pub member_at : Place → Member
  member_at p = record { place = p; binding = binding same_name (places t) p; group = group_in o t p }

  pub members_at : members o t ≡ map member_at (places t)
  unfolding all_open member_at
  members_at = map-map (λ (b : Bound Text). record { place = b.place; binding = b.binding; group = group_at kept ps bs b.binding }) (λ (p : Place). record { place = p; binding = binding same_name (places t) p }) (places t)

  pub in_members : (p : Place) → In p (places t) → In (member_at p) (members o t)
  in_members p i = subst (In (member_at p)) (sym members_at) (in_map member_at (places t) p i)

  -- a binding's own record is what is found by its number
  found_own : (b : Place) → Binding b → find (λ c. is_binding c && nat_eq (node c.place) (node b)) bs ≡ Some (record { place = b; binding = binding same_name (places t) b })
  unfolding all_open
  found_own b ib = told (find (λ c. is_binding c && nat_eq (node c.place) (node b)) bs)
      (λ none. absurd (find_none (λ c. is_binding c && nat_eq (node c.place) (node b)) bs (record { place = b; binding = binding same_name (places t) b }) none
      (in_map (λ (p : Place). record { place = p; binding = binding same_name (places t) p }) (places t) b (in_from_Contains (places t) b ib.among))
      (and_from _ _ (and_from _ _ ib.declares (ap (λ q. is_node q (node b)) ib.own ∙ eq-eqb (node b) (node b) refl)) (eq-eqb (node b) (node b) refl))))
      (λ c f.
      let g : First (λ c. is_binding c && nat_eq (node c.place) (node b)) bs c = find_first (λ c. is_binding c && nat_eq (node c.place) (node b)) bs c f in
      let w : (p : Place) × In p (places t) × (record { place = p; binding = binding same_name (places t) p } ≡ c) = from_map (λ (p : Place). record { place = p; binding = binding same_name (places t) p }) (places t) c g.among in
      let n : node w.0 ≡ node b = ap (λ (x : Bound Text). node x.place) w.2 ∙ eqb-true (node c.place) (node b) (and_parts _ _ g.passes).1 in
      let e : w.0 ≡ b = one_of_number t w.0 b w.1 (in_from_Contains (places t) b ib.among) n in
      f ∙ ap Some (sym w.2 ∙ ap (λ (p : Place). record { place = p; binding = binding same_name (places t) p }) e))

  pub group_own : (b : Place) → Binding b → group_in o t b ≡ group_of kept (node b) (shadower same_name (places t) b)
  unfolding all_open
  group_own b ib =
      ap (group_at kept ps bs) ib.own
      ∙ ap (λ q. elim q as (λ r. Option ℕ) [ None ↦ None | Some c ↦ group_of kept (node b) (shadower same_name (places t) c.place) ]) (found_own b ib)

  -- the binding that leads the group of b
  pub record Leader (b c : Place) (g : ℕ) : Type 0 where
    pub is : Binding c
    pub number : node c ≡ g
    pub homed : home c.site ≡ home b.site
    pub named : c.name ≡ b.name
    pub leading : group_in o t c ≡ Some g

  pub not_kept : (n : ℕ) (s : Option ℕ) (g : ℕ) → group_of kept n s ≡ Some g → (is_kept kept n s ≡ false) × ((elim s as (λ r. ℕ) [ None ↦ n | Some l ↦ l ]) ≡ g)
  unfolding all_open
  not_kept n s g e = go (is_kept kept n s) refl s e
    where
      go : (k : Bool) → is_kept kept n s ≡ k → (r : Option ℕ) → cond k None (elim r as (λ q. Option ℕ) [ None ↦ Some n | Some l ↦ Some l ]) ≡ Some g → (is_kept kept n s ≡ false) × ((elim r as (λ q. ℕ) [ None ↦ n | Some l ↦ l ]) ≡ g)
      go true h r q = absurd (none_some g q)
      go false h None q = (h, some_one n g q)
      go false h (Some l) q = (h, some_one l g q)

  unkept_alone : (n : ℕ) → has_number kept (Some n) ≡ false → group_of kept n None ≡ Some n
  unfolding all_open
  unkept_alone n h = ap (λ b. cond (b || false) None (Some n)) h

  or_false : (a b : Bool) → (a || b) ≡ false → b ≡ false
  or_false true b h = absurd (both_ways true h refl)
  or_false false b h = h

  pub leader_of : (b : Place) (g : ℕ) → Binding b → group_in o t b ≡ Some g → (c : Place) × Leader b c g
  unfolding all_open
  leader_of b g ib e = told (shadower same_name (places t) b)
      (λ none. let k : (is_kept kept (node b) None ≡ false) × (node b ≡ g) = not_kept (node b) None g (sym (ap (group_of kept (node b)) none) ∙ sym (group_own b ib) ∙ e) in
      (b, record { is = ib; number = k.1; homed = refl; named = refl; leading = e }))
      (λ l s.
      let k : (is_kept kept (node b) (Some l) ≡ false) × (l ≡ g) = not_kept (node b) (Some l) g (sym (ap (group_of kept (node b)) s) ∙ sym (group_own b ib) ∙ e) in
      let f : plain_binder same_name (places t) b.name (home b.site) ≡ Some l = shadows (names_function b.site) s in
      told (find (declares_at same_name b.name (home b.site)) (places t))
      (λ none. absurd (none_some l (sym (ap node_of none) ∙ f)))
      (λ c fc.
      let own : IsBindingOf same_name (places t) c × (declares_plainly c.site ≡ true) × At same_name same_name_tells (places t) b.name (home b.site) c = first_own same_name same_name_tells (places t) b.name (home b.site) c fc in
      let n : node c ≡ l = some_one (node c) l (sym (ap node_of fc) ∙ f) in
      let alone : shadower same_name (places t) c ≡ None = ap (λ x. cond x (plain_binder same_name (places t) c.name (home c.site)) None) (plainly c.site own.1).1 in
      let unkept : has_number kept (Some (node c)) ≡ false = subst (λ (m : ℕ). has_number kept (Some m) ≡ false) (sym n) (or_false (has_number kept (Some (node b))) (has_number kept (Some l)) k.0) in (
        c,
        record {
          is = own.0;
          number = n ∙ k.1;
          homed = own.2.homed;
          named = own.2.named;
          leading = group_own c own.0 ∙ ap (group_of kept (node c)) alone ∙ unkept_alone (node c) unkept ∙ ap Some (n ∙ k.1);
        },
      )))
    where
      shadows : (f : Bool) → {l : ℕ} → cond f (plain_binder same_name (places t) b.name (home b.site)) None ≡ Some l → plain_binder same_name (places t) b.name (home b.site) ≡ Some l
      shadows true s = s
      shadows false {l} s = absurd (none_some l s)

  -- ---- each group has a slot

  group_here : Place → Group
  group_here c = record { leader = node c; home = home c.site }

  in_groups : (ss : List Scope) (ms : List Member) (m : Member) → In m ms → leads m ≡ true → list_any (same_scope (home m.place.site)) ss ≡ true → In (group_led_by m) (groups ss ms)
  unfolding all_open
  in_groups [] ms m i l a = absurd (both_ways false refl a)
  in_groups (s ∷ ss) ms m i l a = go (or_cases _ _ a) (in_groups ss ms m i l)
    where
      here : List Group
      here = map group_led_by (filter (λ n. same_scope (home n.place.site) s) (filter leads ms))

      go : (same_scope (home m.place.site) s ≡ true) ⊎ (list_any (same_scope (home m.place.site)) ss ≡ true)
          → (list_any (same_scope (home m.place.site)) ss ≡ true → In (group_led_by m) (groups ss ms)) → In (group_led_by m) (map group_led_by (filter (λ n. same_scope (home n.place.site) s) (filter leads ms)) ++ groups ss ms)
      go (inl e) ih = in_left (map group_led_by (filter (λ n. same_scope (home n.place.site) s) (filter leads ms))) (groups ss ms) (group_led_by m)
          (in_map group_led_by (filter (λ n. same_scope (home n.place.site) s) (filter leads ms)) m (in_filter (λ n. same_scope (home n.place.site) s) (filter leads ms) m (in_filter leads ms m i l) e))
      go (inr e) ih = in_right (map group_led_by (filter (λ n. same_scope (home n.place.site) s) (filter leads ms))) (groups ss ms) (group_led_by m) (ih e)

  pub from_groups : (ss : List Scope) (ms : List Member) (g : Group) → In g (groups ss ms) → (m : Member) × In m ms × (group_led_by m ≡ g)
  unfolding all_open
  from_groups [] ms g i = absurd i
  from_groups (s ∷ ss) ms g i = go (from_append (map group_led_by (filter (λ n. same_scope (home n.place.site) s) (filter leads ms))) (groups ss ms) g i) (from_groups ss ms g)
    where
      go : In g (map group_led_by (filter (λ n. same_scope (home n.place.site) s) (filter leads ms))) ⊎ In g (groups ss ms) → (In g (groups ss ms) → (m : Member) × In m ms × (group_led_by m ≡ g)) → (m : Member) × In m ms × (group_led_by m ≡ g)
      go (inl j) ih =
          let w : (m : Member) × In m (filter (λ n. same_scope (home n.place.site) s) (filter leads ms)) × (group_led_by m ≡ g) = from_map group_led_by (filter (λ n. same_scope (home n.place.site) s) (filter leads ms)) g j in
          (w.0, (from_filter leads ms w.0 (from_filter (λ n. same_scope (home n.place.site) s) (filter leads ms) w.0 w.1).0).0, w.2)
      go (inr j) ih = ih j

  -- the slot of a group, with the binding that leads it
  record Slot (b : Place) (g : ℕ) (d : Slotted) : Type 0 where
    among : In d (slots_of o t)
    found : slot_of (slots_of o t) (Some g) ≡ Some d.slot
    leader : d.group.leader ≡ g
    homed : d.group.home ≡ home b.site

  slot_for : IsRooted t → (b : Place) (g : ℕ) → Binding b → group_in o t b ≡ Some g → (d : Slotted) × Slot b g d
  unfolding all_open member_at group_here
  slot_for root b g ib e =
      let c : (c : Place) × Leader b c g = leader_of b g ib e in
      let ic : In c.0 (places t) = in_from_Contains (places t) c.0 c.1.is.among in
      let lead : leads (member_at c.0) ≡ true = and_from _ _ (and_from _ _ c.1.is.declares (ap (λ q. is_node q (node c.0)) c.1.is.own ∙ eq-eqb (node c.0) (node c.0) refl))
      (ap (λ q. is_node q (node c.0)) c.1.leading ∙ eq-eqb g (node c.0) (sym c.1.number)) in
      let i : In (group_here c.0) (groups_of o t) = in_groups (scopes t) (members o t) (member_at c.0) (in_members c.0 ic) lead (home_among t root c.0 ic) in
      let same : map (λ d. d.group) (slots_of o t) ≡ groups_of o t = slotted_groups (members o t) [] (groups_of o t) in
      let w : (d : Slotted) × In d (slots_of o t) × (d.group ≡ group_here c.0) = from_map (λ d. d.group) (slots_of o t) (group_here c.0) (subst (In (group_here c.0)) (sym same) i) in
      told (find (λ d. nat_eq d.group.leader g) (slots_of o t))
      (λ none. absurd (find_none (λ d. nat_eq d.group.leader g) (slots_of o t) w.0 none w.1 (eq-eqb w.0.group.leader g (ap (λ (x : Group). x.leader) w.2 ∙ c.1.number))))
      (λ d f.
      let h : First (λ d. nat_eq d.group.leader g) (slots_of o t) d = find_first (λ d. nat_eq d.group.leader g) (slots_of o t) d f in
      let at : d.group.leader ≡ g = eqb-true d.group.leader g h.passes in
      let m : (m : Member) × In m (members o t) × (group_led_by m ≡ d.group) = from_groups (scopes t) (members o t) d.group (subst (In d.group) same (in_map (λ d. d.group) (slots_of o t) d h.among)) in
      let p : (p : Place) × In p (places t) × (member_at p ≡ m.0) = from_map member_at (places t) m.0 (subst (In m.0) members_at m.1) in
      let placed : m.0.place ≡ p.0 = sym (ap (λ (x : Member). x.place) p.2) in
      let n : node p.0 ≡ node c.0 = sym (ap node placed) ∙ ap (λ (x : Group). x.leader) m.2 ∙ at ∙ sym c.1.number in
      let q : p.0 ≡ c.0 = one_of_number t p.0 c.0 p.1 ic n in (
        d,
        record {
          among = h.among;
          found = ap (λ r. elim r as (λ x. Option ℕ) [ None ↦ None | Some x ↦ Some x.slot ]) f;
          leader = at;
          homed = sym (ap (λ (x : Group). x.home) m.2) ∙ ap (λ (x : Place). home x.site) (placed ∙ q) ∙ c.1.homed;
        },
      ))

  -- ---- the premises of the law on renaming

  module _ (name : ℕ → Text) (root : IsRooted t) (fit : FitSlots o t name) where
    abbrev new : Place → Text
    new = named_by_slot o t name

    by_slot : Text → Option ℕ → Text
    by_slot x s = elim s [ None ↦ x | Some k ↦ name k ]

    new_is : (p : Place) (s : Option ℕ) → slot_in o t p ≡ s → new p ≡ by_slot p.name s
    unfolding all_open by_slot
    new_is p s e = ap (λ r. elim r as (λ q. Text) [ None ↦ p.name | Some k ↦ name k ]) e

    -- a place has the slot of its binding
    constant : (p b : Place) → Contains (places t) p → Contains (places t) b → binding same_name (places t) p ≡ Some (node b) → new p ≡ new b
    unfolding all_open by_slot
    constant p b i j e =
        let s : (c : Place) × (node c ≡ node b) × Binding c × (c.name ≡ p.name) = binding_source same_name same_name_tells (places t) p (in_from_Contains (places t) p i) (node b) e in
        let q : s.0 ≡ b = one_of_number t s.0 b (in_from_Contains (places t) s.0 s.2.among) (in_from_Contains (places t) b j) s.1 in
        let own : binding same_name (places t) b ≡ Some (node b) = subst (λ (x : Place). binding same_name (places t) x ≡ Some (node x)) q s.2.own in
        let n : b.name ≡ p.name = ap (λ (x : Place). x.name) (sym q) ∙ s.3 in
        let same_slot : slot_in o t p ≡ slot_in o t b = ap (λ x. slot_of (slots_of o t) (group_at kept ps bs x)) (e ∙ sym own) in
        new_is p (slot_in o t b) same_slot ∙ ap (λ x. by_slot x (slot_in o t b)) (sym n)

    -- what has no group keeps its name, which is taken
    without_group : (p : Place) → group_in o t p ≡ None → slot_in o t p ≡ None
    unfolding all_open
    without_group p e = ap (slot_of (slots_of o t)) e

    taken_name : (p : Place) → In p (places t) → (declares p.site || refers p.site) ≡ true → group_in o t p ≡ None → is_taken o (members o t) p.name ≡ true
    unfolding all_open member_at
    taken_name p i v e = or_right _ _ (any_from (λ m. is_unchanged m && same_name m.place.name p.name) (members o t) (member_at p) (in_members p i)
        (and_from _ _ (and_from _ _ v (ap (λ g. not (is_some g)) e)) ((same_name_tells p.name p.name).1 refl)))

    not_taken : (p : Place) (k : ℕ) → k < number_of_slots (slots_of o t) → In p (places t) → (declares p.site || refers p.site) ≡ true → group_in o t p ≡ None → name k ≡ p.name → ⊥
    not_taken p k h i v g e = both_ways _ (fit.untaken k h) (subst (λ (x : Text). is_taken o (members o t) x ≡ true) (sym e) (taken_name p i v g))

    -- the slot of a binding that isn't kept, where it has one and what it is called
    record Called (b : Place) (g : ℕ) : Type 0 where
      slotted : Slotted
      slot : Slot b g slotted
      below : slotted.slot < number_of_slots (slots_of o t)
      called : new b ≡ name slotted.slot

    called : (b : Place) (g : ℕ) → Binding b → group_in o t b ≡ Some g → Called b g
    unfolding all_open by_slot
    called b g ib e =
        let d : (d : Slotted) × Slot b g d = slot_for root b g ib e in
        record { slotted = d.0; slot = d.1; below = greatest_in (slots_of o t) d.0 d.1.among; called = new_is b (Some d.0.slot) (ap (slot_of (slots_of o t)) e ∙ d.1.found) }

    -- a group is live where one of its bindings is
    live_group : (b : Place) (g : ℕ) (d : Slotted) (s : Scope) → Binding b → group_in o t b ≡ Some g → Slot b g d → is_live_in same_name (places t) b s ≡ true → is_live (members o t) s d.group ≡ true
    unfolding all_open member_at
    live_group b g d s ib e slot live = go (or_cases _ _ live)
      where
        at : same_scope s (home b.site) ≡ true → same_scope s d.group.home ≡ true
        at h = subst (λ (x : Scope). same_scope s x ≡ true) (sym slot.homed) h

        go : (same_scope s (home b.site) ≡ true) ⊎ ((is_inside s (home b.site) && is_bound_inside same_name (places t) b s) ≡ true) → is_live (members o t) s d.group ≡ true
        go (inl h) = or_left _ _ (at h)
        go (inr h) =
            let two : (is_inside s (home b.site) ≡ true) × (is_bound_inside same_name (places t) b s ≡ true) = and_parts _ _ h in
            let w : (p : Place) × In p (places t) × ((is_node (binding same_name (places t) p) (node b) && is_inside p.site.setting.scope s) ≡ true) =
            any_some (λ p. is_node (binding same_name (places t) p) (node b) && is_inside p.site.setting.scope s) (places t) two.1 in
            let three : (is_node (binding same_name (places t) w.0) (node b) ≡ true) × (is_inside w.0.site.setting.scope s ≡ true) = and_parts _ _ w.2 in
            let bound_to : binding same_name (places t) w.0 ≡ Some (node b) = node_told (binding same_name (places t) w.0) (node b) three.0 in
            let group : group_in o t w.0 ≡ Some g = ap (group_at kept ps bs) (bound_to ∙ sym ib.own) ∙ e in
            or_right _ _ (and_from _ _ (subst (λ (x : Scope). is_inside s x ≡ true) (sym slot.homed) two.0)
            (any_from (reaches d.group s) (members o t) (member_at w.0) (in_members w.0 w.1)
            (and_from _ _ (ap (λ x. is_node x d.group.leader) group ∙ eq-eqb g d.group.leader (sym slot.leader)) three.1)))
          where
            node_told : (x : Option ℕ) (n : ℕ) → is_node x n ≡ true → x ≡ Some n
            node_told None n h = absurd (both_ways false refl h)
            node_told (Some m) n h = ap Some (eqb-true m n h)

    -- bindings of one group had one name
    one_name : (b c : Place) (g h : ℕ) → Binding b → Binding c → group_in o t b ≡ Some g → group_in o t c ≡ Some h → g ≡ h → b.name ≡ c.name
    one_name b c g h ib ic e f q =
        let l : (x : Place) × Leader b x g = leader_of b g ib e in
        let m : (x : Place) × Leader c x h = leader_of c h ic f in
        let same : l.0 ≡ m.0 = one_of_number t l.0 m.0 (in_from_Contains (places t) l.0 l.1.is.among) (in_from_Contains (places t) m.0 m.1.is.among) (l.1.number ∙ q ∙ sym m.1.number) in
        sym l.1.named ∙ ap (λ (x : Place). x.name) same ∙ m.1.named

    apart : (d e : Slotted) (s : Scope) → In d (slots_of o t) → In e (slots_of o t) → d.slot ≡ e.slot → is_live (members o t) s d.group ≡ true → is_live (members o t) s e.group ≡ true → d ≡ e
    unfolding all_open
    apart d e s i j same a b = go (one_or_paired (Ordered_apart (members o t)) (slots_of o t) d e (pairs_apart (members o t) (groups_of o t) (groups_in_order o t)) i j)
      where
        go : (d ≡ e) ⊎ (Ordered_apart (members o t) d e ⊎ Ordered_apart (members o t) e d) → d ≡ e
        go (inl q) = q
        go (inr (inl r)) = absurd (never_together (members o t) d e r.0 r.1 same s a b)
        go (inr (inr r)) = absurd (never_together (members o t) e d r.0 r.1 (sym same) s b a)

    home_live : (c : Place) (h : ℕ) (e : Slotted) → Slot c h e → is_live (members o t) (home c.site) e.group ≡ true
    unfolding all_open
    home_live c h e slot = or_left _ _ (subst (λ (x : Scope). same_scope (home c.site) x ≡ true) (sym slot.homed) (same_scope_refl (home c.site)))

    no_new_equality : (b c : Place) → Binding b → Binding c → is_live_in same_name (places t) b (home c.site) ≡ true → new b ≡ new c → b.name ≡ c.name
    unfolding all_open by_slot
    no_new_equality b c ib ic live e = told (group_in o t b)
        (λ gb. told (group_in o t c)
        (λ gc. sym (new_is b None (without_group b gb)) ∙ e ∙ new_is c None (without_group c gc))
        (λ h gc. let k : Called c h = called c h ic gc in
        absurd (not_taken b k.slotted.slot k.below (in_from_Contains (places t) b ib.among) (or_left _ _ ib.declares) gb (sym k.called ∙ sym e ∙ new_is b None (without_group b gb)))))
        (λ g gb. let j : Called b g = called b g ib gb in told (group_in o t c)
        (λ gc. absurd (not_taken c j.slotted.slot j.below (in_from_Contains (places t) c ic.among) (or_left _ _ ic.declares) gc (sym j.called ∙ e ∙ new_is c None (without_group c gc))))
        (λ h gc. let k : Called c h = called c h ic gc in
        let slots : j.slotted.slot ≡ k.slotted.slot = fit.different j.slotted.slot k.slotted.slot j.below k.below (sym j.called ∙ e ∙ k.called) in
        let one : j.slotted ≡ k.slotted = apart j.slotted k.slotted (home c.site) j.slot.among k.slot.among slots (live_group b g j.slotted (home c.site) ib gb j.slot live) (home_live c h k.slotted k.slot) in
        one_name b c g h ib ic gb gc (sym j.slot.leader ∙ ap (λ (x : Slotted). x.group.leader) one ∙ k.slot.leader)))

    no_capture : (p b : Place) → Contains (places t) p → refers p.site ≡ true → binding same_name (places t) p ≡ None → Binding b → is_inside p.site.setting.scope (home b.site) ≡ true → new p ≡ new b → ⊥
    unfolding all_open by_slot
    no_capture p b i r e ib inside n =
        let ip : In p (places t) = in_from_Contains (places t) p i in
        let jb : In b (places t) = in_from_Contains (places t) b ib.among in
        let gp : group_in o t p ≡ None = ap (group_at kept ps bs) e in
        let np : new p ≡ p.name = new_is p None (without_group p gp) in
        told (group_in o t b)
        (λ gb. unbound_nothing same_name same_name_tells (places t) p b r e jb ib.declares (home_rooted t root b jb) inside (sym (new_is b None (without_group b gb)) ∙ sym n ∙ np))
        (λ g gb. let k : Called b g = called b g ib gb in not_taken p k.slotted.slot k.below ip (or_right _ _ r) gp (sym k.called ∙ sym n ∙ np))

    -- a place that has a group is called as the slot of that
    pub record Placed (p : Place) (g : ℕ) : Type 0 where
      pub slotted : Slotted
      pub among : In slotted (slots_of o t)
      pub found : slot_of (slots_of o t) (Some g) ≡ Some slotted.slot
      pub below : slotted.slot < number_of_slots (slots_of o t)
      pub called : named_by_slot o t name p ≡ name slotted.slot

    pub placed : (p : Place) (g : ℕ) → In p (places t) → group_in o t p ≡ Some g → Placed p g
    unfolding all_open by_slot
    placed p g i e = told (binding same_name (places t) p)
        (λ none. absurd (none_some g (sym (ap (group_at kept ps bs) none) ∙ e)))
        (λ n b.
        let s : (c : Place) × (node c ≡ n) × Binding c × (c.name ≡ p.name) = binding_source same_name same_name_tells (places t) p i n b in
        let group : group_in o t s.0 ≡ Some g = ap (group_at kept ps bs) (s.2.own ∙ ap Some s.1 ∙ sym b) ∙ e in
        let d : (d : Slotted) × Slot s.0 g d = slot_for root s.0 g s.2 group in
        record {
          slotted = d.0;
          among = d.1.among;
          found = d.1.found;
          below = greatest_in (slots_of o t) d.0 d.1.among;
          called = new_is p (Some d.0.slot) (ap (slot_of (slots_of o t)) e ∙ d.1.found);
        })

    pub kept_name : (p : Place) → group_in o t p ≡ None → named_by_slot o t name p ≡ p.name
    unfolding by_slot
    kept_name p e = new_is p None (without_group p e)

    pub keeps_apart : KeepsApart same_name (places t) (named_by_slot o t name)
    keeps_apart = record { in_order = places_rise t; constant = constant; no_new_equality = no_new_equality; no_capture = no_capture }
