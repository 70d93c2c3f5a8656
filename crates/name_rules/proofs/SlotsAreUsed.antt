-- Each slot below the number of slots is that of a group, and each group has one slot.
use Rattle.std.specs.List.{list_any}
use Rattle.std.specs.Prelude.{◌≡◌, ◌⊎◌, ◌≤◌, ◌<◌, ℕ, suc, true, false, cond, nat_eq, List, [], ◌∷◌, ◌++◌, length, map, filter, find, Option, Some, None}
use Rattle.std.proofs.Common.{refl, sym, ap, ◌∙◌, subst, arith, inl, inr}
use Rattle.std.proofs.lemmas.Bool.{eq-eqb, eqb-true, cases_order, ne_eqb}
use Rattle.list_laws.proofs.AllOf.{AllOf, AllOf_push, of_each}
use Rattle.list_laws.proofs.AnyOf.{any_from, any_some}
use Rattle.list_laws.proofs.Members.{In, from_append, from_filter, from_map, in_left, in_right}
use Rattle.list_laws.proofs.PairsOf.{PairsOf_filter, PairsOf, PairsOf_map, PairsOf_append_members}
use Rattle.tree_nodes.specs.Tree.{Parts}
use Rattle.tree_places.proofs.Outwards.{same_scope_eq}
use Rattle.tree_places.proofs.Rising.{numbers_rise}
use Rattle.tree_places.specs.Laws.{AreNumbered, RiseFrom}
use Rattle.tree_places.specs.Places.{Place, places, scopes}
use Rattle.tree_places.specs.Scopes.{Scope, same_scope}
use Rattle.scope_rules.proofs.PlacesRise.{one_of_number, places_rise, above}
use Rattle.scope_rules.specs.Bindings.{node}
use Rattle.scope_rules.specs.Homes.{home}
use Rattle.name_rules.proofs.SlotNamesKeepApart.{from_groups, member_at, members_at}
use Rattle.name_rules.proofs.SlotsAreFewest.{below_missing, slotted_groups}
use Rattle.name_rules.specs.Groups.{Group, Member, greatest, group_led_by, groups, groups_of, is_live, leads, members}
use Rattle.name_rules.specs.Open.{all_open}
use Rattle.name_rules.specs.Options.{Options}
use Rattle.name_rules.specs.Slots.{Slotted, number_of_slots, slot_after, slot_of, slots_after, slots_live, slots_of}

-- ---- below each slot that is given all slots are

abbrev Has : List Slotted → ℕ → Type 0
Has bs j = list_any (λ b. nat_eq j b.slot) bs ≡ true

abbrev Filled : List Slotted → List Slotted → Type 0
Filled bs xs = AllOf (λ d. (j : ℕ) → j < d.slot → Has bs j) xs

has_more : (bs : List Slotted) (c : Slotted) (j : ℕ) → Has bs j → Has (bs ++ c ∷ []) j
unfolding all_open
has_more bs c j h = let w : (b : Slotted) × In b bs × (nat_eq j b.slot ≡ true) = any_some (λ (b : Slotted). nat_eq j b.slot) bs h in
    any_from (λ (b : Slotted). nat_eq j b.slot) (bs ++ c ∷ []) w.0 (in_left bs (c ∷ []) w.0 w.1) w.2

filled_more : (bs : List Slotted) (c : Slotted) (xs : List Slotted) → Filled bs xs → Filled (bs ++ c ∷ []) xs
unfolding all_open
filled_more bs c [] a = tt
filled_more bs c (x ∷ xs) a = ((λ j h. has_more bs c j (a.0 j h)), filled_more bs c xs a.1)

filled_after : (ms : List Member) (bs : List Slotted) (gs : List Group) → Filled bs bs → Filled (slots_after ms bs gs) (slots_after ms bs gs)
unfolding all_open
filled_after ms bs [] a = a
filled_after ms bs (g ∷ gs) a =
    let c : Slotted = record { group = g; slot = slot_after ms bs g } in
    filled_after ms (bs ++ c ∷ []) gs (AllOf_push (λ d. (j : ℕ) → j < d.slot → Has (bs ++ c ∷ []) j) bs c (filled_more bs c bs a)
    (λ j h.
    let live : List ℕ = slots_live ms bs g.home in
    let k : list_any (nat_eq j) live ≡ true = below_missing (suc (greatest live)) live 0 j (omega arith) h in
    let w : (s : ℕ) × In s live × (nat_eq j s ≡ true) = any_some (nat_eq j) live k in
    let b : (b : Slotted) × In b (filter (λ b. is_live ms g.home b.group) bs) × (b.slot ≡ w.0) = from_map (λ (b : Slotted). b.slot) (filter (λ b. is_live ms g.home b.group) bs) w.0 w.1 in
    any_from (λ (b : Slotted). nat_eq j b.slot) (bs ++ c ∷ []) b.0 (in_left bs (c ∷ []) b.0 (from_filter (λ (b : Slotted). is_live ms g.home b.group) bs b.0 b.1).0)
    (eq-eqb j b.0.slot (eqb-true j w.0 w.2 ∙ sym b.2))))

-- each is at most the slot of some group
reached : (bs : List Slotted) (k : ℕ) → k < number_of_slots bs → (d : Slotted) × In d bs × (k ≤ d.slot)
unfolding all_open
reached [] k h = absurd (omega (arith, h))
reached (b ∷ bs) k h = go (cases_order k b.slot) (reached bs k)
  where
    go : (k ≡ b.slot) ⊎ ((k < b.slot) ⊎ (b.slot < k)) → (k < number_of_slots bs → (d : Slotted) × In d bs × (k ≤ d.slot)) → (d : Slotted) × In d (b ∷ bs) × (k ≤ d.slot)
    go (inl e) ih = (b, inl refl, omega (arith, e))
    go (inr (inl l)) ih = (b, inl refl, omega (arith, l))
    go (inr (inr l)) ih = let r : (d : Slotted) × In d bs × (k ≤ d.slot) = ih (omega (arith, h, l)) in (r.0, inr r.1, r.2)

pub slot_used : (o : Options) (t : Parts) (k : ℕ) → k < number_of_slots (slots_of o t) → (d : Slotted) × In d (slots_of o t) × (d.slot ≡ k)
unfolding all_open
slot_used o t k h =
    let r : (d : Slotted) × In d (slots_of o t) × (k ≤ d.slot) = reached (slots_of o t) k h in
    go r.0 r.1 (cases_order k r.0.slot) r.2
  where
    go : (d : Slotted) → In d (slots_of o t) → (k ≡ d.slot) ⊎ ((k < d.slot) ⊎ (d.slot < k)) → k ≤ d.slot → (d : Slotted) × In d (slots_of o t) × (d.slot ≡ k)
    go d i (inl e) m = (d, i, sym e)
    go d i (inr (inl l)) m =
        let f : Has (slots_of o t) k = of_each (λ (d : Slotted). (j : ℕ) → j < d.slot → Has (slots_of o t) j) (slots_of o t) d (filled_after (members o t) [] (groups_of o t) tt) i k l in
        let w : (b : Slotted) × In b (slots_of o t) × (nat_eq k b.slot ≡ true) = any_some (λ (b : Slotted). nat_eq k b.slot) (slots_of o t) f in
        (w.0, w.1, sym (eqb-true k w.0.slot w.2))
    go d i (inr (inr l)) m = absurd (omega (arith, l, m))

-- ---- each group stands once

abbrev Apart_groups : Group → Group → Type 0
Apart_groups g h = g.leader ≡ h.leader → ⊥

places_apart : (n : ℕ) (ps : List Place) → RiseFrom n (map node ps) → PairsOf (λ p q. node p ≡ node q → ⊥) ps
unfolding all_open
places_apart n [] r = tt
places_apart n (p ∷ ps) r = (each ps (λ q i. above (suc (node p)) ps q r.1 i), places_apart (suc (node p)) ps r.1)
  where
    each : (qs : List Place) → ((q : Place) → In q qs → suc (node p) ≤ node q) → AllOf (λ q. node p ≡ node q → ⊥) qs
    each [] f = tt
    each (q ∷ qs) f = ((λ e. let h : suc (node p) ≤ node q = f q (inl refl) in omega (arith, h, e)), each qs (λ x i. f x (inr i)))

-- the groups at a scope, and at those after it
from_scope : (ms : List Member) (s : Scope) (g : Group) → In g (map group_led_by (filter (λ m. same_scope (home m.place.site) s) (filter leads ms))) → g.home ≡ s
unfolding all_open
from_scope ms s g i =
    let w : (m : Member) × In m (filter (λ m. same_scope (home m.place.site) s) (filter leads ms)) × (group_led_by m ≡ g) = from_map group_led_by (filter (λ m. same_scope (home m.place.site) s) (filter leads ms)) g i in
    ap (λ (x : Group). x.home) (sym w.2) ∙ same_scope_eq (home w.0.place.site) s (from_filter (λ m. same_scope (home m.place.site) s) (filter leads ms) w.0 w.1).1

from_scopes : (ms : List Member) (ss : List Scope) (g : Group) → In g (groups ss ms) → In g.home ss
unfolding all_open
from_scopes ms [] g i = absurd i
from_scopes ms (s ∷ ss) g i = go (from_append (map group_led_by (filter (λ m. same_scope (home m.place.site) s) (filter leads ms))) (groups ss ms) g i) (from_scopes ms ss g)
  where
    go : In g (map group_led_by (filter (λ m. same_scope (home m.place.site) s) (filter leads ms))) ⊎ In g (groups ss ms) → (In g (groups ss ms) → In g.home ss) → (s ≡ g.home) ⊎ In g.home ss
    go (inl j) ih = inl (sym (from_scope ms s g j))
    go (inr j) ih = inr (ih j)

module _ (o : Options) (t : Parts) where
  -- two groups with one leader have one home
  one_home : (g h : Group) → In g (groups_of o t) → In h (groups_of o t) → g.leader ≡ h.leader → g.home ≡ h.home
  unfolding all_open member_at
  one_home g h i j e =
      let m : (m : Member) × In m (members o t) × (group_led_by m ≡ g) = from_groups o t (scopes t) (members o t) g i in
      let n : (m : Member) × In m (members o t) × (group_led_by m ≡ h) = from_groups o t (scopes t) (members o t) h j in
      let p : (p : Place) × In p (places t) × (member_at o t p ≡ m.0) = from_map (member_at o t) (places t) m.0 (subst (In m.0) (members_at o t) m.1) in
      let q : (p : Place) × In p (places t) × (member_at o t p ≡ n.0) = from_map (member_at o t) (places t) n.0 (subst (In n.0) (members_at o t) n.1) in
      let mp : m.0.place ≡ p.0 = sym (ap (λ (x : Member). x.place) p.2) in
      let nq : n.0.place ≡ q.0 = sym (ap (λ (x : Member). x.place) q.2) in
      let same : p.0 ≡ q.0 = one_of_number t p.0 q.0 p.1 q.1 (sym (ap node mp) ∙ ap (λ (x : Group). x.leader) m.2 ∙ e ∙ sym (ap (λ (x : Group). x.leader) n.2) ∙ ap node nq) in
      sym (ap (λ (x : Group). x.home) m.2) ∙ ap (λ (x : Place). home x.site) (mp ∙ same ∙ sym nq) ∙ ap (λ (x : Group). x.home) n.2

  members_apart : PairsOf (λ m n. node m.place ≡ node n.place → ⊥) (members o t)
  unfolding all_open member_at
  members_apart = subst (PairsOf (λ (m n : Member). node m.place ≡ node n.place → ⊥)) (sym (members_at o t))
      (PairsOf_map (λ p q. node p ≡ node q → ⊥) (λ (m n : Member). node m.place ≡ node n.place → ⊥) (member_at o t) (λ p q f. f) (places t) (places_apart 0 (places t) (places_rise t)))

  scope_apart : (s : Scope) → PairsOf Apart_groups (map group_led_by (filter (λ m. same_scope (home m.place.site) s) (filter leads (members o t))))
  unfolding all_open
  scope_apart s = PairsOf_map (λ (m n : Member). node m.place ≡ node n.place → ⊥) Apart_groups group_led_by (λ m n f. f) (filter (λ m. same_scope (home m.place.site) s) (filter leads (members o t)))
      (PairsOf_filter (λ (m n : Member). node m.place ≡ node n.place → ⊥) (λ m. same_scope (home m.place.site) s) (filter leads (members o t))
      (PairsOf_filter (λ (m n : Member). node m.place ≡ node n.place → ⊥) leads (members o t) members_apart))

  groups_apart : (ss : List Scope) → PairsOf (λ r s. r ≡ s → ⊥) ss → ((g : Group) → In g (groups ss (members o t)) → In g (groups_of o t)) → PairsOf Apart_groups (groups ss (members o t))
  unfolding all_open
  groups_apart [] p f = tt
  groups_apart (s ∷ ss) p f =
      let here : List Group = map group_led_by (filter (λ m. same_scope (home m.place.site) s) (filter leads (members o t))) in
      PairsOf_append_members Apart_groups here (groups ss (members o t)) (scope_apart s)
      (groups_apart ss p.1 (λ g i. f g (in_right here (groups ss (members o t)) g i)))
      (λ g h i j e.
      let gh : g.home ≡ h.home = one_home g h (f g (in_left here (groups ss (members o t)) g i)) (f h (in_right here (groups ss (members o t)) h j)) e in
      of_each (λ r. s ≡ r → ⊥) ss h.home p.0 (from_scopes (members o t) ss h j) (sym (from_scope (members o t) s g i) ∙ gh))

  -- scopes are all different, since their numbers rise
  scopes_apart : (before ss : List Scope) → AreNumbered before ss → PairsOf (λ r s. r ≡ s → ⊥) ss
  unfolding all_open
  scopes_apart before [] a = tt
  scopes_apart before (s ∷ ss) a = (later (s ∷ before) ss a.1 (omega arith) (first s before a.0.1), scopes_apart (s ∷ before) ss a.1)
    where
      number : Scope → ℕ
      number x = elim x [ [] ↦ 0 | n ∷ ns ↦ n ]

      first : (s : Scope) (before : List Scope) {outer : Scope} → s ≡ length before ∷ outer → elim s as (λ x. ℕ) [ [] ↦ 0 | n ∷ ns ↦ n ] ≡ length before
      first s before e = ap (λ (x : Scope). elim x as (λ y. ℕ) [ [] ↦ 0 | n ∷ ns ↦ n ]) e

      later : (bs rs : List Scope) → AreNumbered bs rs → length before < length bs → (elim s as (λ x. ℕ) [ [] ↦ 0 | n ∷ ns ↦ n ]) ≡ length before → AllOf (λ r. s ≡ r → ⊥) rs
      later bs [] b l e = tt
      later bs (r ∷ rs) b l e = ((λ q. let w : length before ≡ length bs = sym e ∙ ap (λ (x : Scope). elim x as (λ y. ℕ) [ [] ↦ 0 | n ∷ ns ↦ n ]) q ∙ first r bs b.0.1 in omega (arith, w, l)), later (r ∷ bs) rs b.1 (omega (arith, l)) e)

  -- no two groups have one leader
  pub leaders_apart : PairsOf (λ g h. g.leader ≡ h.leader → ⊥) (groups_of o t)
  unfolding all_open
  leaders_apart = groups_apart (scopes t) (scopes_apart [] (scopes t) (numbers_rise t).1) (λ g i. i)

  slots_apart : PairsOf (λ d e. d.group.leader ≡ e.group.leader → ⊥) (slots_of o t)
  unfolding all_open
  slots_apart = back (slots_of o t) (subst (PairsOf Apart_groups) (sym (slotted_groups (members o t) [] (groups_of o t))) leaders_apart)
    where
      each : (d : Slotted) (ds : List Slotted) → AllOf (Apart_groups d.group) (map (λ e. e.group) ds) → AllOf (λ (e : Slotted). d.group.leader ≡ e.group.leader → ⊥) ds
      each d [] a = tt
      each d (e ∷ es) a = (a.0, each d es a.1)

      back : (ds : List Slotted) → PairsOf Apart_groups (map (λ e. e.group) ds) → PairsOf (λ (d e : Slotted). d.group.leader ≡ e.group.leader → ⊥) ds
      back [] p = tt
      back (d ∷ ds) p = (each d ds p.0, back ds p.1)

  -- so a group's slot is what is found
  pub slot_found : (d : Slotted) → In d (slots_of o t) → slot_of (slots_of o t) (Some d.group.leader) ≡ Some d.slot
  unfolding all_open
  slot_found d i = ap (λ q. elim q as (λ x. Option ℕ) [ None ↦ None | Some b ↦ Some b.slot ]) (go (slots_of o t) slots_apart i)
    where
      go : (ds : List Slotted) → PairsOf (λ (d e : Slotted). d.group.leader ≡ e.group.leader → ⊥) ds → In d ds → find (λ b. nat_eq b.group.leader d.group.leader) ds ≡ Some d
      go [] p j = absurd j
      go (e ∷ es) p j = at j (go es p.1)
        where
          at : (e ≡ d) ⊎ In d es → (In d es → find (λ b. nat_eq b.group.leader d.group.leader) es ≡ Some d) → cond (nat_eq e.group.leader d.group.leader) (Some e) (find (λ b. nat_eq b.group.leader d.group.leader) es) ≡ Some d
          at (inl q) ih = ap (λ b. cond b (Some e) (find (λ b. nat_eq b.group.leader d.group.leader) es)) (eq-eqb e.group.leader d.group.leader (ap (λ (x : Slotted). x.group.leader) q)) ∙ ap Some q
          at (inr k) ih = ap (λ b. cond b (Some e) (find (λ b. nat_eq b.group.leader d.group.leader) es)) (apart_told e.group.leader d.group.leader (of_each (λ (x : Slotted). e.group.leader ≡ x.group.leader → ⊥) es d p.0 k)) ∙ ih k
            where
              apart_told : (m n : ℕ) → (m ≡ n → ⊥) → nat_eq m n ≡ false
              apart_told m n f = ne_eqb m n f
