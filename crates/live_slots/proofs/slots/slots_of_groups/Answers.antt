use Rattle.std.proofs.Common.{◌≡◌, ◌∙◌, ◌<◌, ℕ, List, [], All, Option, None, length, map, get_or, arith, ap, ap₂, sym, subst}
use Rattle.std.specs.List.{AllByRecursion}
use Rattle.std.proofs.lemmas.List.{length-map}
use Rattle.std.proofs.lemmas.List.Elements.{All-from_recursion}
use Rattle.live_slots.proofs.AllPlaces.{all_weights_are, busiest_is, places_are, slots_below, slots_long}
use Rattle.live_slots.proofs.GroupsOfPlaces.{extents_led, held_below, homes_below, long_groups, nodes_below, scopes_below}
use Rattle.live_slots.proofs.SlotsByNode.{busiest_of_none}
use Rattle.live_slots.specs.Buckets.{values_at}
use Rattle.live_slots.specs.Leaders.{homes_led}
use Rattle.live_slots.specs.Slots.{busiest_home, first_slot, slot_in, weight_by}
use Rattle.live_slots.specs.declared.leaders.Leader.{Leader}
use Rattle.place_list.specs.declared.tables.PlaceEntry.{PlaceEntry}
use Rattle.live_slots.proofs.slots.slots_of_groups.Goals as goal

pub buckets-requires-clause-long : goal.buckets-requires-clause-long
buckets-requires-clause-long g c =
    long_groups c.args.list.now c.args.groups.now c.requires.groups
    ∙ sym (ap (length {A = Option ℕ}) (c.as_slice.ensures.value ∙ c.in_ok-scopes.ensures ∙ ap (map (λ (e : PlaceEntry). e.setting.scope)) c.as_slice-places.ensures.value)
    ∙ length-map c.args.list.now.places.items (λ (e : PlaceEntry). e.setting.scope))

pub leaders-requires-clause-long : goal.leaders-requires-clause-long
leaders-requires-clause-long g c = long_groups c.args.list.now c.args.groups.now c.requires.groups

pub live_slots-requires-clause-nodes : goal.live_slots-requires-clause-nodes
live_slots-requires-clause-nodes g c =
    let b = c.node_bound-bound.result in
    let rs = c.as_slice-2.result.now in
    let P : List Leader → Type 0 = AllByRecursion (λ r. r.node < b) in
    let all : All (λ (r : Leader). r.node < b) rs =
    All-from_recursion (λ (r : Leader). r.node < b) rs
    (subst P (sym (c.as_slice-2.ensures.value ∙ c.in_ok-leaders.ensures)) (nodes_below b (length c.args.list.now.scopes.items) (homes_led c.args.list.now.places.items c.args.groups.now) c.args.groups.now c.node_bound-bound.ensures)) in
    λ k d h.
    let x : (get_or rs k d).node < b = all k d h in
    let many : length c.as_slice-3.result.now ≡ b = ap length c.as_slice-3.ensures.value ∙ c.in_ok-by_node.ensures.many in
    omega (arith, x, many)

pub live_slots-requires-clause-homes : goal.live_slots-requires-clause-homes
live_slots-requires-clause-homes g c =
    let n = length c.args.list.now.scopes.items in
    let rs = c.as_slice-2.result.now in
    let P : List Leader → Type 0 = AllByRecursion (λ r. r.home < n) in
    All-from_recursion (λ (r : Leader). r.home < n) rs
    (subst P (sym (c.as_slice-2.ensures.value ∙ c.in_ok-leaders.ensures)) (homes_below n (homes_led c.args.list.now.places.items c.args.groups.now) c.args.groups.now))

pub live_slots-requires-clause-places : goal.live_slots-requires-clause-places
live_slots-requires-clause-places g c =
    let l = c.args.list.now in
    let os = c.args.groups.now in
    held_below (length l.scopes.items) c.node_bound-bound.result c.as_slice-3.result.now os (map (λ (e : PlaceEntry). e.setting.scope) l.places.items)
    (ap length c.as_slice-3.ensures.value ∙ c.in_ok-by_node.ensures.many)
    (λ k h. ap (λ (xs : List (List (Option ℕ))). get_or xs k []) c.as_slice-3.ensures.value ∙ c.in_ok-by_node.ensures.held k h
    ∙ ap (λ (vs : List (Option ℕ)). values_at os vs k) (c.as_slice.ensures.value ∙ c.in_ok-scopes.ensures ∙ ap (map (λ (e : PlaceEntry). e.setting.scope)) c.as_slice-places.ensures.value))
    (scopes_below l l.places.items c.requires.bounded.places)

pub live_slots-requires-clause-tree : goal.live_slots-requires-clause-tree
live_slots-requires-clause-tree g c =
    let l = c.args.list.now in
    let os = c.args.groups.now in
    let w = c.requires.groups in
    record {
      options = w.options;
      tree = w.tree;
      are = extents_led l c.requires.bounded os w.options w.tree w.are c.as_slice-3.result.now c.node_bound-bound.result
          (λ k h. ap (λ (xs : List (List (Option ℕ))). get_or xs k []) c.as_slice-3.ensures.value ∙ c.in_ok-by_node.ensures.held k h
          ∙ ap (λ (vs : List (Option ℕ)). values_at os vs k) (c.as_slice.ensures.value ∙ c.in_ok-scopes.ensures ∙ ap (map (λ (e : PlaceEntry). e.setting.scope)) c.as_slice-places.ensures.value))
          c.as_slice-2.result.now (c.as_slice-2.ensures.value ∙ c.in_ok-leaders.ensures) c.node_bound-bound.ensures;
    }

pub node_slots-requires-clause-long : goal.node_slots-requires-clause-long
node_slots-requires-clause-long g c =
    let l = c.args.list.now in
    let os = c.args.groups.now in
    let w = c.requires.groups in
    ap length c.as_slice-5.ensures.value
    ∙ slots_long l c.requires.bounded os w.options w.tree w.are c.node_bound-bound.result c.node_bound-bound.ensures c.as_slice-3.result.now
    (λ k h. ap (λ (xs : List (List (Option ℕ))). get_or xs k []) c.as_slice-3.ensures.value ∙ c.in_ok-by_node.ensures.held k h
    ∙ ap (λ (vs : List (Option ℕ)). values_at os vs k) (c.as_slice.ensures.value ∙ c.in_ok-scopes.ensures ∙ ap (map (λ (e : PlaceEntry). e.setting.scope)) c.as_slice-places.ensures.value))
    c.as_slice-2.result.now (c.as_slice-2.ensures.value ∙ c.in_ok-leaders.ensures) c.in_ok-live.live.of_groups.items c.in_ok-live.ensures.slots
    ∙ ap length (c.as_slice-2.ensures.value ∙ sym c.as_slice-4.ensures.value)

pub node_slots-requires-clause-below : goal.node_slots-requires-clause-below
node_slots-requires-clause-below g c =
    let b = c.node_bound-bound.result in
    let rs = c.as_slice-4.result.now in
    let P : List Leader → Type 0 = AllByRecursion (λ r. r.node < b) in
    All-from_recursion (λ (r : Leader). r.node < b) rs
    (subst P (sym (c.as_slice-4.ensures.value ∙ c.in_ok-leaders.ensures)) (nodes_below b (length c.args.list.now.scopes.items) (homes_led c.args.list.now.places.items c.args.groups.now) c.args.groups.now c.node_bound-bound.ensures))

pub slot_weights-requires-clause-long : goal.slot_weights-requires-clause-long
slot_weights-requires-clause-long g c =
    ap length (c.as_slice-7.ensures.value ∙ c.in_ok-of_places.ensures) ∙ length-map c.args.groups.now (slot_in c.as_slice-6.result.now)
    ∙ long_groups c.args.list.now c.args.groups.now c.requires.groups ∙ sym (ap length c.as_slice-places.ensures.value)

pub slot_weights-requires-clause-below : goal.slot_weights-requires-clause-below
slot_weights-requires-clause-below g c =
    let l = c.args.list.now in
    let os = c.args.groups.now in
    let w = c.requires.groups in
    slots_below l c.requires.bounded os w.options w.tree w.are c.node_bound-bound.result c.node_bound-bound.ensures c.as_slice-3.result.now
    (λ k h. ap (λ (xs : List (List (Option ℕ))). get_or xs k []) c.as_slice-3.ensures.value ∙ c.in_ok-by_node.ensures.held k h
    ∙ ap (λ (vs : List (Option ℕ)). values_at os vs k) (c.as_slice.ensures.value ∙ c.in_ok-scopes.ensures ∙ ap (map (λ (e : PlaceEntry). e.setting.scope)) c.as_slice-places.ensures.value))
    c.as_slice-2.result.now (c.as_slice-2.ensures.value ∙ c.in_ok-leaders.ensures) c.in_ok-live.live.of_groups.items c.in_ok-live.ensures.slots c.in_ok-live.live.count c.as_slice-7.result.now c.in_ok-live.ensures.count
    (places_are l c.requires.bounded os w.options w.tree w.are c.node_bound-bound.result c.node_bound-bound.ensures c.as_slice-3.result.now
    (λ k h. ap (λ (xs : List (List (Option ℕ))). get_or xs k []) c.as_slice-3.ensures.value ∙ c.in_ok-by_node.ensures.held k h
    ∙ ap (λ (vs : List (Option ℕ)). values_at os vs k) (c.as_slice.ensures.value ∙ c.in_ok-scopes.ensures ∙ ap (map (λ (e : PlaceEntry). e.setting.scope)) c.as_slice-places.ensures.value))
    c.as_slice-2.result.now (c.as_slice-2.ensures.value ∙ c.in_ok-leaders.ensures) c.in_ok-live.live.of_groups.items c.in_ok-live.ensures.slots c.as_slice-6.result.now c.as_slice-7.result.now
    (λ k h. ap (λ (xs : List (Option ℕ)). get_or xs k None) c.as_slice-6.ensures.value ∙ c.in_ok-of_nodes.ensures.slots k h
    ∙ ap₂ (λ (rs : List Leader) (bs : List ℕ). first_slot rs bs k) (c.as_slice-4.ensures.value ∙ sym c.as_slice-2.ensures.value) c.as_slice-5.ensures.value)
    (c.as_slice-7.ensures.value ∙ c.in_ok-of_places.ensures))

pub busiest-busiest-requires : goal.busiest-busiest-requires
busiest-busiest-requires g c =
    let l = c.args.list.now in
    let os = c.args.groups.now in
    let w = c.requires.groups in
    ap length c.as_slice-9.ensures.value
    ∙ slots_long l c.requires.bounded os w.options w.tree w.are c.node_bound-bound.result c.node_bound-bound.ensures c.as_slice-3.result.now
    (λ k h. ap (λ (xs : List (List (Option ℕ))). get_or xs k []) c.as_slice-3.ensures.value ∙ c.in_ok-by_node.ensures.held k h
    ∙ ap (λ (vs : List (Option ℕ)). values_at os vs k) (c.as_slice.ensures.value ∙ c.in_ok-scopes.ensures ∙ ap (map (λ (e : PlaceEntry). e.setting.scope)) c.as_slice-places.ensures.value))
    c.as_slice-2.result.now (c.as_slice-2.ensures.value ∙ c.in_ok-leaders.ensures) c.in_ok-live.live.of_groups.items c.in_ok-live.ensures.slots
    ∙ ap length (c.as_slice-2.ensures.value ∙ sym c.as_slice-8.ensures.value)

pub returns-clause-slots : goal.returns-clause-slots
returns-clause-slots g c = λ o t are.
    let l = c.args.list.now in
    let os = c.args.groups.now in
    record {
      places = (places_are l c.requires.bounded os o t are c.node_bound-bound.result c.node_bound-bound.ensures c.as_slice-3.result.now
          (λ k h. ap (λ (xs : List (List (Option ℕ))). get_or xs k []) c.as_slice-3.ensures.value ∙ c.in_ok-by_node.ensures.held k h
          ∙ ap (λ (vs : List (Option ℕ)). values_at os vs k) (c.as_slice.ensures.value ∙ c.in_ok-scopes.ensures ∙ ap (map (λ (e : PlaceEntry). e.setting.scope)) c.as_slice-places.ensures.value))
          c.as_slice-2.result.now (c.as_slice-2.ensures.value ∙ c.in_ok-leaders.ensures) c.in_ok-live.live.of_groups.items c.in_ok-live.ensures.slots c.as_slice-6.result.now c.in_ok-of_places.of_places.items
          (λ k h. ap (λ (xs : List (Option ℕ)). get_or xs k None) c.as_slice-6.ensures.value ∙ c.in_ok-of_nodes.ensures.slots k h
          ∙ ap₂ (λ (rs : List Leader) (bs : List ℕ). first_slot rs bs k) (c.as_slice-4.ensures.value ∙ sym c.as_slice-2.ensures.value) c.as_slice-5.ensures.value)
          (c.in_ok-of_places.ensures));
      weights = all_weights_are l c.requires.bounded os o t are c.node_bound-bound.result c.node_bound-bound.ensures c.as_slice-3.result.now
          (λ k h. ap (λ (xs : List (List (Option ℕ))). get_or xs k []) c.as_slice-3.ensures.value ∙ c.in_ok-by_node.ensures.held k h
          ∙ ap (λ (vs : List (Option ℕ)). values_at os vs k) (c.as_slice.ensures.value ∙ c.in_ok-scopes.ensures ∙ ap (map (λ (e : PlaceEntry). e.setting.scope)) c.as_slice-places.ensures.value))
          c.as_slice-2.result.now (c.as_slice-2.ensures.value ∙ c.in_ok-leaders.ensures) c.in_ok-live.live.of_groups.items c.in_ok-live.ensures.slots c.in_ok-live.live.count c.as_slice-7.result.now c.in_ok-weights.weights.items c.in_ok-live.ensures.count
          (places_are l c.requires.bounded os o t are c.node_bound-bound.result c.node_bound-bound.ensures c.as_slice-3.result.now
          (λ k h. ap (λ (xs : List (List (Option ℕ))). get_or xs k []) c.as_slice-3.ensures.value ∙ c.in_ok-by_node.ensures.held k h
          ∙ ap (λ (vs : List (Option ℕ)). values_at os vs k) (c.as_slice.ensures.value ∙ c.in_ok-scopes.ensures ∙ ap (map (λ (e : PlaceEntry). e.setting.scope)) c.as_slice-places.ensures.value))
          c.as_slice-2.result.now (c.as_slice-2.ensures.value ∙ c.in_ok-leaders.ensures) c.in_ok-live.live.of_groups.items c.in_ok-live.ensures.slots c.as_slice-6.result.now c.as_slice-7.result.now
          (λ k h. ap (λ (xs : List (Option ℕ)). get_or xs k None) c.as_slice-6.ensures.value ∙ c.in_ok-of_nodes.ensures.slots k h
          ∙ ap₂ (λ (rs : List Leader) (bs : List ℕ). first_slot rs bs k) (c.as_slice-4.ensures.value ∙ sym c.as_slice-2.ensures.value) c.as_slice-5.ensures.value)
          (c.as_slice-7.ensures.value ∙ c.in_ok-of_places.ensures))
          c.in_ok-weights.ensures.many
          (λ k h. c.in_ok-weights.ensures.weights k h ∙ ap (λ (es : List PlaceEntry). weight_by es c.as_slice-7.result.now k) c.as_slice-places.ensures.value);
      busiest = busiest_is l c.requires.bounded os o t are c.node_bound-bound.result c.node_bound-bound.ensures c.as_slice-3.result.now
          (λ k h. ap (λ (xs : List (List (Option ℕ))). get_or xs k []) c.as_slice-3.ensures.value ∙ c.in_ok-by_node.ensures.held k h
          ∙ ap (λ (vs : List (Option ℕ)). values_at os vs k) (c.as_slice.ensures.value ∙ c.in_ok-scopes.ensures ∙ ap (map (λ (e : PlaceEntry). e.setting.scope)) c.as_slice-places.ensures.value))
          c.as_slice-2.result.now (c.as_slice-2.ensures.value ∙ c.in_ok-leaders.ensures) c.in_ok-live.live.of_groups.items c.in_ok-live.ensures.slots c.in_ok-live.live.count c.busiest-busiest.result c.in_ok-live.ensures.count
          (c.busiest-busiest.ensures ∙ ap₂ (λ (rs : List Leader) (ks : List ℕ). busiest_home rs ks c.in_ok-live.live.count) (c.as_slice-8.ensures.value ∙ sym c.as_slice-2.ensures.value) c.as_slice-9.ensures.value);
    }

pub returns-clause-root : goal.returns-clause-root
returns-clause-root g c = λ z.
    let none : c.in_ok-live.live.count ≡ 0 = omega (arith, z, c.in_ok-weights.ensures.many, c.in_ok-weights.weights.ok) in
    c.busiest-busiest.ensures ∙ ap (busiest_home c.as_slice-8.result.now c.as_slice-9.result.now) none ∙ busiest_of_none c.as_slice-8.result.now c.as_slice-9.result.now
