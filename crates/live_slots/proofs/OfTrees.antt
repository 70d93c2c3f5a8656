-- What every tree guarantees of its groups.
use Rattle.std.specs.Prelude.{◌≡◌, ◌<◌, ℕ, true, false, ◌&&◌, Bool, List, [], length, get_or, map, filter, Option, Some, None, All}
use Rattle.std.proofs.Common.{refl, sym, ap, ◌∙◌, subst, arith}
use Rattle.std.proofs.lemmas.Bool.{and_from, both_ways, eq-eqb, eqb-true}
use Rattle.std.proofs.lemmas.List.{get_or-map, length-map}
use Rattle.list_laws.proofs.AllOf.{of_members}
use Rattle.list_laws.proofs.Members.{In, from_filter, from_map, in_at, in_from_Contains, in_map}
use Rattle.list_laws.proofs.PairsOf.{PairsOf, PairsOf_map}
use Rattle.list_laws.proofs.Tests.{none_some, some_one, tested, tests_agree, told}
use Rattle.live_slots.proofs.OneMoreGroup.{IsAmong, no_group}
use Rattle.live_slots.proofs.SlotsFound.{Homes_in_order}
use Rattle.live_slots.specs.Extents.{AreOfTree, Extent, Numbered, extent_at, extent_of, extents}
use Rattle.live_slots.specs.Leaders.{row_of, rows_of}
use Rattle.live_slots.specs.declared.leaders.Leader.{Leader as Listed}
use Rattle.live_slots.specs.Open.{all_open}
use Rattle.name_rules.proofs.GroupsInOrder.{groups_in_order}
use Rattle.name_rules.proofs.GroupsStandApart.{In_order}
use Rattle.name_rules.proofs.Rivals.{Led, led}
use Rattle.name_rules.proofs.SlotNamesKeepApart.{Leader, home_inside, leader_of, member_at, members_at}
use Rattle.name_rules.specs.Groups.{Group, Member, group_at, groups_of, leads, members}
use Rattle.name_rules.specs.Kept.{kept_alone}
use Rattle.name_rules.specs.Options.{Options}
use Rattle.name_rules.specs.SlotNames.{group_in}
use Rattle.place_list.specs.Tables.{list_at}
use Rattle.scope_rules.proofs.BindingsStay.{At, Owner, binding_refers, outwards_source, owner}
use Rattle.scope_rules.proofs.PlacesRise.{one_of_number}
use Rattle.scope_rules.proofs.SameNames.{same_name_tells}
use Rattle.scope_rules.specs.Bindings.{binding, bound, is_node, node, same_name}
use Rattle.scope_rules.specs.Homes.{declares, home, refers}
use Rattle.scope_rules.specs.Renamings.{IsBindingOf}
use Rattle.tree_nodes.specs.Tree.{Parts}
use Rattle.tree_places.specs.Places.{Place, Site, places, withs}
use Rattle.tree_places.specs.Scopes.{Scope, is_inside}

node_told : (x : Option ℕ) (n : ℕ) → is_node x n ≡ true → x ≡ Some n
unfolding all_open
node_told None n h = absurd (both_ways _ refl h)
node_told (Some m) n h = ap Some (eqb-true m n h)

unbound : (s : Site) → refers s ≡ false → declares s ≡ false → (ps : List Place) (q : Place) → q.site ≡ s → binding same_name ps q ≡ None
unfolding all_open
unbound s r d ps q w = rw (w, r, d) refl

-- a place lies at or inside the home of its binding
bound_inside : (t : Parts) (q : Place) → In q (places t) → (n : ℕ) → binding same_name (places t) q ≡ Some n
    → (b : Place) × (node b ≡ n) × IsBindingOf same_name (places t) b × (is_inside q.site.setting.scope (home b.site) ≡ true)
bound_inside t q i n e = tested (refers q.site)
    (λ r. let s : (b : Place) × (node b ≡ n) × IsBindingOf same_name (places t) b × At same_name same_name_tells (places t) q.name (home b.site) b × (is_inside q.site.setting.scope (home b.site) ≡ true) =
    outwards_source same_name same_name_tells (places t) q.name q.site.setting.scope n (sym (binding_refers same_name same_name_tells (places t) q r) ∙ e) in
    (s.0, s.1, s.2, s.4))
    (λ r. tested (declares q.site)
    (λ d. let c : (c : Place) × Owner same_name same_name_tells (places t) q c = owner same_name same_name_tells (places t) q i d in
    (c.0, some_one (node c.0) n (sym c.1.bound ∙ e), c.1.is, subst (λ (h : Scope). is_inside q.site.setting.scope h ≡ true) (sym c.1.homed) (home_inside t q i)))
    (λ d. absurd (none_some n (sym (unbound q.site r d (places t) q refl) ∙ e))))

module _ (o : Options) (t : Parts) where
  -- a place of a group lies at or inside its home
  pub member_inside : (g : Group) → In g (groups_of o t) → (m : Member) → In m (members o t) → is_node m.group g.leader ≡ true → is_inside m.place.site.setting.scope g.home ≡ true
  unfolding all_open member_at
  member_inside g i m j led_by =
      let d : Led o t g = led o t g i in
      let q : (q : Place) × In q (places t) × (member_at o t q ≡ m) = from_map (member_at o t) (places t) m (subst (In m) (members_at o t) j) in
      let group : group_in o t q.0 ≡ Some (node d.leader) = node_told (group_in o t q.0) g.leader (subst (λ (n : Member). is_node n.group g.leader ≡ true) (sym q.2) led_by) ∙ ap Some d.number in
      subst (λ (n : Member). is_inside n.place.site.setting.scope g.home ≡ true) q.2
      (told (binding same_name (places t) q.0)
      (λ none. absurd (none_some (node d.leader) (sym (ap (group_at (kept_alone o (withs t) (places t) (bound same_name (places t))) (places t) (bound same_name (places t))) none) ∙ group)))
      (λ n f. at d q.0 n f group (bound_inside t q.0 q.1 n f)))
    where
      at : (d : Led o t g) (q : Place) (n : ℕ) → binding same_name (places t) q ≡ Some n → group_in o t q ≡ Some (node d.leader)
          → (b : Place) × (node b ≡ n) × IsBindingOf same_name (places t) b × (is_inside q.site.setting.scope (home b.site) ≡ true) → is_inside q.site.setting.scope g.home ≡ true
      at d q n f group (b, e, ib, inside) =
          let own : group_in o t b ≡ Some (node d.leader) = ap (group_at (kept_alone o (withs t) (places t) (bound same_name (places t))) (places t) (bound same_name (places t))) (ib.own ∙ sym (f ∙ ap Some (sym e))) ∙ group in
          let c : (c : Place) × Leader o t b c (node d.leader) = leader_of o t b (node d.leader) ib own in
          let z : c.0 ≡ d.leader = one_of_number t c.0 d.leader (in_from_Contains (places t) c.0 c.1.is.among) (in_from_Contains (places t) d.leader d.is.among) c.1.number in
          subst (λ (h : Scope). is_inside q.site.setting.scope h ≡ true) (sym (d.homed ∙ sym (ap (λ (x : Place). home x.site) z) ∙ c.1.homed)) inside

  -- each scope of an extent lies at or inside the home
  extent_inside : (g : Group) → In g (groups_of o t) → (p : Scope) → In p (extent_of (members o t) g).places → is_inside p g.home ≡ true
  unfolding all_open
  extent_inside g i p j =
      let m : (m : Member) × In m (filter (λ m. is_node m.group g.leader) (members o t)) × (m.place.site.setting.scope ≡ p) = from_map (λ (m : Member). m.place.site.setting.scope) (filter (λ m. is_node m.group g.leader) (members o t)) p j in
      let k : In m.0 (members o t) × (is_node m.0.group g.leader ≡ true) = from_filter (λ (m : Member). is_node m.group g.leader) (members o t) m.0 m.1 in
      subst (λ (s : Scope). is_inside s g.home ≡ true) m.2 (member_inside g i m.0 k.0 k.1)

  -- a place leads exactly where its group has its own number
  pub leads_itself : (q : Place) → In q (places t) → leads (member_at o t q) ≡ is_node (group_in o t q) (node q)
  unfolding all_open member_at
  leads_itself q i = tests_agree (leads (member_at o t q)) (is_node (group_in o t q) (node q)) (λ h. and_last (declares q.site && is_node (binding same_name (places t) q) (node q)) (is_node (group_in o t q) (node q)) h) (λ h. own (node_told (group_in o t q) (node q) h) h)
    where
      and_last : (a b : Bool) → (a && b) ≡ true → b ≡ true
      and_last true b h = h
      and_last false b h = absurd (both_ways _ refl h)

      own : group_in o t q ≡ Some (node q) → is_node (group_in o t q) (node q) ≡ true → (declares q.site && is_node (binding same_name (places t) q) (node q) && is_node (group_in o t q) (node q)) ≡ true
      own group h = told (binding same_name (places t) q)
          (λ none. absurd (none_some (node q) (sym (ap (group_at (kept_alone o (withs t) (places t) (bound same_name (places t))) (places t) (bound same_name (places t))) none) ∙ group)))
          (λ n f. at n f (bound_inside t q i n f))
        where
          at : (n : ℕ) → binding same_name (places t) q ≡ Some n → (b : Place) × (node b ≡ n) × IsBindingOf same_name (places t) b × (is_inside q.site.setting.scope (home b.site) ≡ true)
              → (declares q.site && is_node (binding same_name (places t) q) (node q) && is_node (group_in o t q) (node q)) ≡ true
          at n f (b, e, ib, inside) =
              let of_b : group_in o t b ≡ Some (node q) = ap (group_at (kept_alone o (withs t) (places t) (bound same_name (places t))) (places t) (bound same_name (places t))) (ib.own ∙ sym (f ∙ ap Some (sym e))) ∙ group in
              let c : (c : Place) × Leader o t b c (node q) = leader_of o t b (node q) ib of_b in
              let z : c.0 ≡ q = one_of_number t c.0 q (in_from_Contains (places t) c.0 c.1.is.among) i c.1.number in
              let is : IsBindingOf same_name (places t) q = subst (IsBindingOf same_name (places t)) z c.1.is in
              and_from _ _ (and_from _ _ is.declares (ap (λ x. is_node x (node q)) is.own ∙ eq-eqb (node q) (node q) refl)) h

  -- ---- where these are the extents of its groups, by the numbers of its scopes

  module _ (ss : List Scope) (gs : List Numbered) (e : map (extent_of (members o t)) (groups_of o t) ≡ extents ss gs) where
    abbrev no_leader : Group
    no_leader = record { leader = 0; home = [] }

    at_place : (k : ℕ) (d : Numbered) → k < length gs → extent_of (members o t) (get_or (groups_of o t) k no_leader) ≡ extent_at ss (get_or gs k d)
    unfolding all_open
    at_place k d l =
        let long : k < length (groups_of o t) = omega (arith, l, ap (length {A = Extent}) e, length-map (groups_of o t) (extent_of (members o t)), length-map gs (extent_at ss)) in
        sym (get_or-map (extent_of (members o t)) (groups_of o t) k no_leader (extent_at ss d) long)
        ∙ ap (λ (xs : List Extent). get_or xs k (extent_at ss d)) e
        ∙ get_or-map (extent_at ss) gs k d (extent_at ss d) l

    within_groups : (k : ℕ) → k < length gs → k < length (groups_of o t)
    unfolding all_open
    within_groups k l = omega (arith, l, ap (length {A = Extent}) e, length-map (groups_of o t) (extent_of (members o t)), length-map gs (extent_at ss))

    home_at : (k : ℕ) (d : Numbered) → k < length gs → (get_or (groups_of o t) k no_leader).home ≡ get_or ss (get_or gs k d).home []
    unfolding all_open
    home_at k d l = ap (λ (x : Extent). x.home) (at_place k d l)

    pub tree_among : All (λ g. g.home < length ss) gs → All (IsAmong ss) gs
    unfolding all_open
    tree_among homes = λ k d l. record {
      home = homes k d l;
      inside = of_members (λ p. is_inside (list_at ss p) (get_or ss (get_or gs k d).home []) ≡ true) (get_or gs k d).places (λ p i.
          subst (λ (s : Scope). is_inside (list_at ss p) s ≡ true) (home_at k d l)
          (extent_inside (get_or (groups_of o t) k no_leader) (in_at (groups_of o t) k no_leader (within_groups k l)) (list_at ss p)
          (subst (λ (x : Extent). In (list_at ss p) x.places) (sym (at_place k d l))
          (in_map (list_at ss) (get_or gs k d).places p i))));
    }

    pub tree_in_order : PairsOf Homes_in_order (extents ss gs)
    unfolding extent_of
    tree_in_order = subst (PairsOf Homes_in_order) e (PairsOf_map In_order Homes_in_order (extent_of (members o t)) (λ g h r. r) (groups_of o t) (groups_in_order o t))

-- ---- of leaders

abbrev pub no_one : Listed
no_one = record { home = 0; node = 0 }

pub row_at : (by_node : List (List (Option ℕ))) (rs : List Listed) (i : ℕ) (d : Listed) → i < length rs → row_of by_node (get_or rs i d) ≡ get_or (rows_of by_node rs) i no_group
unfolding rows_of
row_at by_node rs i d h = sym (get_or-map (row_of by_node) rs i d no_group h)

module _ (by_node : List (List (Option ℕ))) (rs : List Listed) where
  pub rows_long : length (rows_of by_node rs) ≡ length rs
  unfolding rows_of
  rows_long = length-map rs (row_of by_node)

  pub extents_long : (ss : List Scope) → length (extents ss (rows_of by_node rs)) ≡ length rs
  unfolding extents
  extents_long ss = length-map (rows_of by_node rs) (extent_at ss) ∙ rows_long

  pub home_of_row : (i : ℕ) (d : Listed) → i < length rs → (get_or rs i d).home ≡ (get_or (rows_of by_node rs) i no_group).home
  unfolding row_of
  home_of_row i d h = ap (λ (g : Numbered). g.home) (row_at by_node rs i d h)

  pub places_of_row : (i : ℕ) (d : Listed) → i < length rs → get_or by_node (get_or rs i d).node [] ≡ (get_or (rows_of by_node rs) i no_group).places
  unfolding row_of
  places_of_row i d h = ap (λ (g : Numbered). g.places) (row_at by_node rs i d h)

module _ (ss : List Scope) (by_node : List (List (Option ℕ))) (rs : List Listed) (w : AreOfTree (extents ss (rows_of by_node rs))) where
  pub rows_in_order : PairsOf Homes_in_order (extents ss (rows_of by_node rs))
  rows_in_order = tree_in_order w.options w.tree ss (rows_of by_node rs) w.are

  pub among_rows : (n : ℕ) → n ≡ length ss → All (λ r. r.home < n) rs → All (IsAmong ss) (rows_of by_node rs)
  unfolding rows_of row_of
  among_rows n e homes = tree_among w.options w.tree ss (rows_of by_node rs) w.are (λ k d l.
      let h : (get_or rs k no_one).home < n = homes k no_one (omega (arith, l, length-map rs (row_of by_node))) in
      subst (λ (g : Numbered). g.home < length ss) (sym (get_or-map (row_of by_node) rs k no_one d (omega (arith, l, length-map rs (row_of by_node))))) (omega (arith, h, e)))
