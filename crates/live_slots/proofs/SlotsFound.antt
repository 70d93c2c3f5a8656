-- The slots that are found, group by group.
use Rattle.std.specs.Prelude.{◌≡◌, ◌⊎◌, ◌<◌, ◌≤◌, ℕ, suc, ◌+◌, Bool, true, false, ◌&&◌, ◌||◌, nat_eq, List, [], ◌∷◌, ◌++◌, length, get_or, map, take, replicate}
use Rattle.std.proofs.Common.{refl, sym, ap, ◌∙◌, subst, arith, inl, inr, set}
use Rattle.std.proofs.Math.Bool.{and-true, or-false}
use Rattle.std.proofs.lemmas.Bool.{and_from, and_right, cases_eq, cases_lt, or_left, or_right, eq-eqb, ne_eqb}
use Rattle.std.proofs.lemmas.List.{get_or-map, get_or-replicate, get_or-set_other, get_or-set_same, get_or_append_left, get_or_past, get_or_push, length-map, length-replicate, length-set, length_push, map_push, take_all, take_more}
use Rattle.live_slots.proofs.ChosenSlots.{PairsOf_take, group_marked, least_is, listed, listed_push, pairs_last, slots_push}
use Rattle.scope_marks.proofs.ScopesByNumber.{Within}
use Rattle.scope_marks.proofs.MarkedOutwards.{length_each}
use Rattle.live_slots.specs.Extents.{AreSlotsOf, Extent, extent_of}
use Rattle.scope_marks.specs.Marks.{mark_each}
use Rattle.live_slots.specs.Open.{all_open}
use Rattle.scope_marks.proofs.ScopesByNumber.{IsTable}
use Rattle.name_rules.proofs.GroupsStandApart.{In_order}
use Rattle.name_rules.proofs.SlotsAreFewest.{Ordered_apart, pairs_apart}
use Rattle.name_rules.specs.Groups.{Group, Member, is_live}
use Rattle.name_rules.specs.Slots.{Slotted, slot_after, slots, slots_live}
use Rattle.tree_places.proofs.Outwards.{same_scope_refl}
use Rattle.list_laws.proofs.AllOf.{AllOf}
use Rattle.list_laws.proofs.PairsOf.{PairsOf}
use Rattle.tree_places.specs.Scopes.{Scope, is_inside, same_scope}

-- what stands when these groups have their slots: the marks of each slot are where it is live, and every slot below one is live at the home
pub record Agrees (ss : List Scope) (ms : List Member) (before : List Slotted) (marks : List (List Bool)) (ks : List ℕ) (from home : ℕ) : Type 0 where
  pub told : (k n : ℕ) → n < length ss → get_or (get_or marks k []) n false ≡ listed (slots_live ms before (get_or ss n [])) k
  pub same : ks ≡ map (λ b. b.slot) before
  pub busy : (j : ℕ) → j < from → listed (slots_live ms before (get_or ss home [])) j ≡ true

module _ (ss : List Scope) (t : IsTable ss) (ms : List Member) (before : List Slotted) (marks : List (List Bool)) (ks : List ℕ) (from home : ℕ) (a : Agrees ss ms before marks ks from home) where
  pub at_new_home : (h : ℕ) → Agrees ss ms before marks ks 0 h
  at_new_home h = record { told = a.told; same = a.same; busy = λ j l. absurd (omega (arith, l)) }

  fresh_same : (k n m : ℕ) → n < m → get_or (get_or (marks ++ replicate m false ∷ []) k []) n false ≡ get_or (get_or marks k []) n false
  fresh_same k n m h = go (cases_lt k (length marks)) (cases_eq (length marks) k)
    where
      go : (k < length marks) ⊎ (length marks ≤ k) → (length marks ≡ k) ⊎ (length marks ≡ k → ⊥) → get_or (get_or (marks ++ replicate m false ∷ []) k []) n false ≡ get_or (get_or marks k []) n false
      go (inl l) _ = ap (λ (bits : List Bool). get_or bits n false) (get_or_append_left marks (replicate m false ∷ []) [] k l)
      go (inr l) (inl e) =
          ap (λ (bits : List Bool). get_or bits n false) (get_or_push marks (replicate m false) [] k e)
          ∙ get_or-replicate m n false false h
          ∙ sym (ap (λ (bits : List Bool). get_or bits n false) (get_or_past marks k [] l))
      go (inr l) (inr apart) =
          ap (λ (bits : List Bool). get_or bits n false) (get_or_past (marks ++ replicate m false ∷ []) k [] (omega (arith, l, apart, length_push marks (replicate m false))))
          ∙ sym (ap (λ (bits : List Bool). get_or bits n false) (get_or_past marks k [] l))

  pub with_fresh : Agrees ss ms before (marks ++ replicate (length ss) false ∷ []) ks from home
  with_fresh = record { told = λ k n h. fresh_same k n (length ss) h ∙ a.told k n h; same = a.same; busy = a.busy }

  -- the chosen slot is that of the definition
  pub chosen_slot : (g : Group) (k : ℕ) → home < length ss → get_or ss home [] ≡ g.home
      → ((j : ℕ) → from ≤ j → j < k → get_or (get_or marks j []) home false ≡ true) → get_or (get_or marks k []) home false ≡ false
      → slot_after ms before g ≡ k
  unfolding all_open
  chosen_slot g k lh e skipped free =
      ap (λ (s : Scope). slot_after ms before (record { leader = g.leader; home = s })) (sym e)
      ∙ least_is (slots_live ms before (get_or ss home [])) k (sym (a.told k home lh) ∙ free) all
    where
      all : (j : ℕ) → j < k → listed (slots_live ms before (get_or ss home [])) j ≡ true
      all j l = go (cases_lt j from)
        where
          go : (j < from) ⊎ (from ≤ j) → listed (slots_live ms before (get_or ss home [])) j ≡ true
          go (inl b) = a.busy j b
          go (inr b) = sym (a.told j home lh) ∙ skipped j b l

  -- the group is given its slot and marked there
  pub with_group : (g : Group) (k : ℕ) → home < length ss → get_or ss home [] ≡ g.home → k < length marks → length (get_or marks k []) ≡ length ss
      → ((j : ℕ) → from ≤ j → j < k → get_or (get_or marks j []) home false ≡ true)
      → AllOf (λ c. Ordered_apart ms c (record { group = g; slot = k })) before
      → AllOf (λ p. Within ss p × (is_inside p g.home ≡ true)) (extent_of ms g).places
      → Agrees ss ms (before ++ record { group = g; slot = k } ∷ []) (set marks k (mark_each (set (get_or marks k []) home true) (extent_of ms g).places)) (ks ++ k ∷ []) (suc k) home
  unfolding all_open
  with_group g k lh e lk long skipped ordered inside = record {
    told = λ j n ln. go j n ln (cases_eq j k);
    same = ap (λ xs. xs ++ k ∷ []) a.same ∙ sym (map_push (λ (b : Slotted). b.slot) before (record { group = g; slot = k }));
    busy = λ j l. listed_push ms before (record { group = g; slot = k }) (get_or ss home []) j ∙ below j l (cases_eq j k);
  }
    where
      live : is_live ms (get_or ss home []) g ≡ true
      live = or_left _ _ (subst (λ (s : Scope). same_scope (get_or ss home []) s ≡ true) e (same_scope_refl (get_or ss home [])))

      below : (j : ℕ) → j < suc k → (j ≡ k) ⊎ (j ≡ k → ⊥) → (listed (slots_live ms before (get_or ss home [])) j || (is_live ms (get_or ss home []) g && nat_eq j k)) ≡ true
      below j l (inl s) = or_right (listed (slots_live ms before (get_or ss home [])) j) _ (and_from _ _ live (eq-eqb j k s))
      below j l (inr apart) = or_left _ _ (by_start (cases_lt j from))
        where
          by_start : (j < from) ⊎ (from ≤ j) → listed (slots_live ms before (get_or ss home [])) j ≡ true
          by_start (inl b) = a.busy j b
          by_start (inr b) = sym (a.told j home lh) ∙ skipped j b (omega (arith, l, apart))

      go : (j n : ℕ) → n < length ss → (j ≡ k) ⊎ (j ≡ k → ⊥)
          → get_or (get_or (set marks k (mark_each (set (get_or marks k []) home true) (extent_of ms g).places)) j []) n false ≡ listed (slots_live ms (before ++ record { group = g; slot = k } ∷ []) (get_or ss n [])) j
      go j n ln (inl s) =
          ap (λ (i : ℕ). get_or (get_or (set marks k (mark_each (set (get_or marks k []) home true) (extent_of ms g).places)) i []) n false) s
          ∙ ap (λ (bits : List Bool). get_or bits n false) (get_or-set_same marks k (mark_each (set (get_or marks k []) home true) (extent_of ms g).places) [] lk)
          ∙ group_marked ss t ms before g k home (get_or marks k []) lh e long (λ m lm. a.told k m lm) ordered inside n ln
          ∙ ap (λ (b : Bool). listed (slots_live ms before (get_or ss n [])) k || b) (sym (and-true (is_live ms (get_or ss n []) g)))
          ∙ ap (λ (b : Bool). listed (slots_live ms before (get_or ss n [])) k || (is_live ms (get_or ss n []) g && b)) (sym (eq-eqb k k refl))
          ∙ sym (listed_push ms before (record { group = g; slot = k }) (get_or ss n []) k)
          ∙ ap (λ (i : ℕ). listed (slots_live ms (before ++ record { group = g; slot = k } ∷ []) (get_or ss n [])) i) (sym s)
      go j n ln (inr apart) =
          ap (λ (bits : List Bool). get_or bits n false) (get_or-set_other marks k j (mark_each (set (get_or marks k []) home true) (extent_of ms g).places) [] apart)
          ∙ a.told j n ln
          ∙ sym (or-false (listed (slots_live ms before (get_or ss n [])) j))
          ∙ ap (λ (b : Bool). listed (slots_live ms before (get_or ss n [])) j || b) (sym (and_right (is_live ms (get_or ss n []) g) _ (ne_eqb j k apart)))
          ∙ sym (listed_push ms before (record { group = g; slot = k }) (get_or ss n []) j)

-- ---- of all trees whose groups have these extents

abbrev pub Homes_in_order : Extent → Extent → Type 0
Homes_in_order e f = is_inside e.home f.home ≡ true → e.home ≡ f.home

abbrev pub Lies_in : List Scope → Extent → Type 0
Lies_in ss e = AllOf (λ p. Within ss p × (is_inside p e.home ≡ true)) e.places

-- what stands when the first i groups have their slots
pub record Found (ss : List Scope) (es : List Extent) (marks : List (List Bool)) (ks : List ℕ) (from home i : ℕ) : Type 0 where
  pub sized : (k : ℕ) → k < length marks → length (get_or marks k []) ≡ length ss
  pub reached : from ≤ length marks
  pub agrees : (ms : List Member) (gs : List Group) → map (extent_of ms) gs ≡ es → Agrees ss ms (slots ms (take i gs)) marks ks from home

pairs_of_groups : (ms : List Member) (gs : List Group) → PairsOf Homes_in_order (map (extent_of ms) gs) → PairsOf In_order gs
unfolding all_open
pairs_of_groups ms [] p = tt
pairs_of_groups ms (g ∷ gs) p = (each gs p.0, pairs_of_groups ms gs p.1)
  where
    each : (hs : List Group) → AllOf (Homes_in_order (extent_of ms g)) (map (extent_of ms) hs) → AllOf (In_order g) hs
    each [] a = tt
    each (h ∷ hs) a = (a.0, each hs a.1)

pub none_found : (ss : List Scope) (es : List Extent) (home : ℕ) → Found ss es [] [] 0 home 0
unfolding all_open
none_found ss es home = record {
  sized = λ k l. absurd (omega (arith, l));
  reached = omega arith;
  agrees = λ ms gs e. record { told = λ k n l. refl; same = refl; busy = λ j l. absurd (omega (arith, l)) };
}

pub all_found : (ss : List Scope) (es : List Extent) (marks : List (List Bool)) (ks : List ℕ) (from home i : ℕ) → Found ss es marks ks from home i → length es ≤ i → AreSlotsOf es ks
all_found ss es marks ks from home i f h = λ ms gs q. (f.agrees ms gs q).same ∙ ap (λ (hs : List Group). map (λ (b : Slotted). b.slot) (slots ms hs)) (take_all i gs (omega (arith, h, ap (length {A = Extent}) q, length-map gs (extent_of ms))))

module _ (ss : List Scope) (t : IsTable ss) (es : List Extent) (order : PairsOf Homes_in_order es) where
  abbrev no_group : Group
  no_group = record { leader = 0; home = [] }

  slots_split : (ms : List Member) (gs : List Group) (i k : ℕ) → i < length gs → slot_after ms (slots ms (take i gs)) (get_or gs i no_group) ≡ k
      → slots ms (take (i + 1) gs) ≡ slots ms (take i gs) ++ record { group = get_or gs i no_group; slot = k } ∷ []
  slots_split ms gs i k l s =
      ap (slots ms) (take_more gs i no_group l) ∙ slots_push ms (take i gs) (get_or gs i no_group)
      ∙ ap (λ (n : ℕ). slots ms (take i gs) ++ record { group = get_or gs i no_group; slot = n } ∷ []) s

  ordered_last : (ms : List Member) (gs : List Group) (i k : ℕ) → map (extent_of ms) gs ≡ es → i < length gs → slot_after ms (slots ms (take i gs)) (get_or gs i no_group) ≡ k
      → AllOf (λ c. Ordered_apart ms c (record { group = get_or gs i no_group; slot = k })) (slots ms (take i gs))
  ordered_last ms gs i k e l s =
      pairs_last (Ordered_apart ms) (slots ms (take i gs)) (record { group = get_or gs i no_group; slot = k })
      (subst (PairsOf (Ordered_apart ms)) (slots_split ms gs i k l s)
      (pairs_apart ms (take (i + 1) gs) (PairsOf_take In_order (i + 1) gs (pairs_of_groups ms gs (subst (PairsOf Homes_in_order) (sym e) order)))))

  module _ (marks : List (List Bool)) (ks : List ℕ) (from home i : ℕ) (f : Found ss es marks ks from home i) where
    pub found_at_new_home : (h : ℕ) → Found ss es marks ks 0 h i
    found_at_new_home h = record {
      sized = f.sized;
      reached = omega arith;
      agrees = λ ms gs e. at_new_home ss t ms (slots ms (take i gs)) marks ks from home (f.agrees ms gs e) h;
    }

    pub found_with_fresh : Found ss es (marks ++ replicate (length ss) false ∷ []) ks from home i
    found_with_fresh = record {
      sized = λ k l. by_place k l (cases_lt k (length marks));
      reached = omega (arith, f.reached, length_push marks (replicate (length ss) false));
      agrees = λ ms gs e. with_fresh ss t ms (slots ms (take i gs)) marks ks from home (f.agrees ms gs e);
    }
      where
        by_place : (k : ℕ) → k < length (marks ++ replicate (length ss) false ∷ []) → (k < length marks) ⊎ (length marks ≤ k) → length (get_or (marks ++ replicate (length ss) false ∷ []) k []) ≡ length ss
        by_place k l (inl h) = ap (length {A = Bool}) (get_or_append_left marks (replicate (length ss) false ∷ []) [] k h) ∙ f.sized k h
        by_place k l (inr h) = ap (length {A = Bool}) (get_or_push marks (replicate (length ss) false) [] k (omega (arith, l, h, length_push marks (replicate (length ss) false)))) ∙ length-replicate (length ss) false

    pub one_found : (e : Extent) (k : ℕ) → i < length es → get_or es i e ≡ e → home < length ss → get_or ss home [] ≡ e.home → Lies_in ss e → k < length marks
        → ((j : ℕ) → from ≤ j → j < k → get_or (get_or marks j []) home false ≡ true) → get_or (get_or marks k []) home false ≡ false
        → Found ss es (set marks k (mark_each (set (get_or marks k []) home true) e.places)) (ks ++ k ∷ []) (suc k) home (i + 1)
    unfolding all_open
    one_found e k li at lh home_is inside lk skipped free = record {
      sized = λ j l. sized_at j (omega (arith, l, length-set marks k (mark_each (set (get_or marks k []) home true) e.places))) (cases_eq j k);
      reached = omega (arith, lk, length-set marks k (mark_each (set (get_or marks k []) home true) e.places));
      agrees = λ ms gs q. agree ms gs q;
    }
      where
        sized_at : (j : ℕ) → j < length marks → (j ≡ k) ⊎ (j ≡ k → ⊥) → length (get_or (set marks k (mark_each (set (get_or marks k []) home true) e.places)) j []) ≡ length ss
        sized_at j l (inl s) =
            ap (λ (n : ℕ). length (get_or (set marks k (mark_each (set (get_or marks k []) home true) e.places)) n [])) s
            ∙ ap (length {A = Bool}) (get_or-set_same marks k (mark_each (set (get_or marks k []) home true) e.places) [] lk)
            ∙ length_each (set (get_or marks k []) home true) e.places ∙ length-set (get_or marks k []) home true ∙ f.sized k lk
        sized_at j l (inr apart) = ap (length {A = Bool}) (get_or-set_other marks k j (mark_each (set (get_or marks k []) home true) e.places) [] apart) ∙ f.sized j l

        agree : (ms : List Member) (gs : List Group) → map (extent_of ms) gs ≡ es → Agrees ss ms (slots ms (take (i + 1) gs)) (set marks k (mark_each (set (get_or marks k []) home true) e.places)) (ks ++ k ∷ []) (suc k) home
        agree ms gs q =
            subst (λ (x : Extent). Agrees ss ms (slots ms (take (i + 1) gs)) (set marks k (mark_each (set (get_or marks k []) home true) x.places)) (ks ++ k ∷ []) (suc k) home) same
            (subst (λ (bs : List Slotted). Agrees ss ms bs (set marks k (mark_each (set (get_or marks k []) home true) (extent_of ms g).places)) (ks ++ k ∷ []) (suc k) home) (sym split)
            (with_group ss t ms before marks ks from home a g k lh home_same lk (f.sized k lk) skipped ordered (subst (Lies_in ss) (sym same) inside)))
          where
            g : Group
            g = get_or gs i no_group

            before : List Slotted
            before = slots ms (take i gs)

            long : i < length gs
            long = omega (arith, li, ap (length {A = Extent}) q, length-map gs (extent_of ms))

            a : Agrees ss ms (slots ms (take i gs)) marks ks from home
            a = f.agrees ms gs q

            same : extent_of ms (get_or gs i no_group) ≡ e
            same = sym (get_or-map (extent_of ms) gs i no_group e long) ∙ ap (λ (xs : List Extent). get_or xs i e) q ∙ at

            home_same : get_or ss home [] ≡ (get_or gs i no_group).home
            home_same = home_is ∙ sym (ap (λ (x : Extent). x.home) same)

            is_slot : slot_after ms (slots ms (take i gs)) (get_or gs i no_group) ≡ k
            is_slot = chosen_slot ss t ms (slots ms (take i gs)) marks ks from home (f.agrees ms gs q) (get_or gs i no_group) k lh (home_is ∙ sym (ap (λ (x : Extent). x.home) (sym (get_or-map (extent_of ms) gs i no_group e (omega (arith, li, ap (length {A = Extent}) q, length-map gs (extent_of ms)))) ∙ ap (λ (xs : List Extent). get_or xs i e) q ∙ at))) skipped free

            ordered : AllOf (λ c. Ordered_apart ms c (record { group = get_or gs i no_group; slot = k })) (slots ms (take i gs))
            ordered = ordered_last ms gs i k q long is_slot

            split : slots ms (take (i + 1) gs) ≡ slots ms (take i gs) ++ record { group = get_or gs i no_group; slot = k } ∷ []
            split = slots_split ms gs i k long is_slot
