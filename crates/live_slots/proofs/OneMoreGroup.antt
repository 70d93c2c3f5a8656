-- One step of the loop over the groups.
use Rattle.std.specs.Prelude.{◌≡◌, ◌⊎◌, ◌<◌, ◌≤◌, ℕ, suc, ◌+◌, max, Bool, true, false, cond, nat_eq, List, [], ◌∷◌, ◌++◌, length, get_or, map, replicate, slice_set, All, Option, Some, None}
use Rattle.std.proofs.Common.{refl, sym, ap, ◌∙◌, subst, arith, inl, inr}
use Rattle.std.proofs.lemmas.Bool.{cases_eq, cases_lt, eq-eqb, ne_eqb}
use Rattle.std.proofs.lemmas.List.{get_or-map, get_or-replicate, get_or_append_left, get_or_default, get_or_past, get_or_push, length-map, length-set, length_push, map_push}
use Rattle.live_slots.proofs.SlotsFound.{Found, Homes_in_order, found_at_new_home, found_with_fresh, none_found, one_found}
use Rattle.live_slots.proofs.MarksReached.{reached_new, reached_old}
use Rattle.scope_marks.proofs.ScopesByNumber.{Within, listed_at, within}
use Rattle.live_slots.specs.Extents.{Extent, Numbered, extent_at, extents}
use Rattle.place_list.specs.Tables.{list_at}
use Rattle.live_slots.specs.Marks.{IsGiven, mark_group, reached}
use Rattle.live_slots.specs.Open.{all_open}
use Rattle.scope_marks.proofs.ScopesByNumber.{IsTable}
use Rattle.live_slots.specs.Slots.{slot_count}
use Rattle.name_rules.specs.Groups.{greatest}
use Rattle.list_laws.proofs.AllOf.{AllOf}
use Rattle.list_laws.proofs.PairsOf.{PairsOf}
use Rattle.tree_places.specs.Scopes.{Scope, is_inside}

-- what is read past the last group
abbrev pub no_group : Numbered
no_group = record { home = 0; places = [] }

-- its home is a scope of the table, and the scopes of its places lie at or inside it
pub record IsAmong (ss : List Scope) (g : Numbered) : Type 0 where
  pub home : g.home < length ss
  pub inside : AllOf (λ p. is_inside (list_at ss p) (get_or ss g.home []) ≡ true) g.places

module _ (ss : List Scope) (t : IsTable ss) where
  within_at : (p : Option ℕ) → Within ss (list_at ss p)
  unfolding list_at
  within_at None = tt
  within_at (Some n) = go (cases_lt n (length ss))
    where
      go : (n < length ss) ⊎ (length ss ≤ n) → Within ss (list_at ss (Some n))
      go (inl l) = subst (Within ss) (sym (listed_at ss n)) (within ss t (suc n) n (omega arith) l)
      go (inr l) = subst (Within ss) (sym (listed_at ss n ∙ get_or_past ss n [] l)) tt

  lies_in : (home : Scope) (ps : List (Option ℕ)) → AllOf (λ p. is_inside (list_at ss p) home ≡ true) ps → AllOf (λ p. Within ss p × (is_inside p home ≡ true)) (map (list_at ss) ps)
  lies_in home [] a = tt
  lies_in home (p ∷ ps) a = ((within_at p, a.0), lies_in home ps a.1)

  module _ (gs : List Numbered) (a : All (IsAmong ss) gs) (order : PairsOf Homes_in_order (extents ss gs)) (i : ℕ) (l : i < length gs) where
    -- where the search for a slot begins
    found_start : (marks : List (List Bool)) (ks : List ℕ) (from last home start : ℕ) → Found ss (extents ss gs) marks ks from last i → start ≡ cond (nat_eq home last) from 0 → Found ss (extents ss gs) marks ks start home i
    found_start marks ks from last home start f e = go (cases_eq home last)
      where
        go : (home ≡ last) ⊎ (home ≡ last → ⊥) → Found ss (extents ss gs) marks ks start home i
        go (inl s) =
            subst (λ (n : ℕ). Found ss (extents ss gs) marks ks n home i) (sym (e ∙ ap (λ (b : Bool). cond b from 0) (eq-eqb home last s)))
            (subst (λ (n : ℕ). Found ss (extents ss gs) marks ks from n i) (sym s) f)
        go (inr apart) =
            subst (λ (n : ℕ). Found ss (extents ss gs) marks ks n home i) (sym (e ∙ ap (λ (b : Bool). cond b from 0) (ne_eqb home last apart)))
            (found_at_new_home ss t (extents ss gs) order marks ks from last i f home)

    -- where there are marks for the slot, it is given
    found_old : (marks : List (List Bool)) (ks : List ℕ) (start home slot : ℕ) → Found ss (extents ss gs) marks ks start home i → home ≡ (get_or gs i no_group).home → slot < length marks
        → ((j : ℕ) → start ≤ j → j < slot → get_or (get_or marks j []) home false ≡ true) → get_or (get_or marks slot []) home false ≡ false
        → Found ss (extents ss gs) (slice_set marks slot (mark_group ss (get_or marks slot []) home (get_or gs i no_group).places)) (ks ++ slot ∷ []) (suc slot) home (i + 1)
    unfolding all_open
    found_old marks ks start home slot f h ls skipped free =
        one_found ss t (extents ss gs) order marks ks start home i f (extent_at ss (get_or gs i no_group)) slot (omega (arith, l, length-map gs (extent_at ss)))
        (get_or-map (extent_at ss) gs i no_group (extent_at ss (get_or gs i no_group)) l)
        (subst (λ (n : ℕ). n < length ss) (sym h) (a i no_group l).home) (ap (λ (n : ℕ). get_or ss n []) h)
        (lies_in (get_or ss (get_or gs i no_group).home []) (get_or gs i no_group).places (a i no_group l).inside) ls skipped free

    pub found_more : (marks marks' : List (List Bool)) (ks ks' : List ℕ) (from last home start slot : ℕ) → Found ss (extents ss gs) marks ks from last i → home ≡ (get_or gs i no_group).home → start ≡ cond (nat_eq home last) from 0
        → (places : List (Option ℕ)) → places ≡ (get_or gs i no_group).places → IsGiven ss (length ss) marks start home places slot marks' → ks' ≡ ks ++ slot ∷ [] → Found ss (extents ss gs) marks' ks' (slot + 1) home (i + 1)
    found_more marks marks' ks ks' from last home start slot f h e places q given r =
        subst (λ (n : ℕ). Found ss (extents ss gs) marks' ks' n home (i + 1)) {x = suc slot} {y = slot + 1} (omega arith)
        (subst (λ (xs : List ℕ). Found ss (extents ss gs) marks' xs (suc slot) home (i + 1)) (sym r)
        (subst (λ (ms : List (List Bool)). Found ss (extents ss gs) ms (ks ++ slot ∷ []) (suc slot) home (i + 1)) (sym (given.marked ∙ ap (λ (ps : List (Option ℕ)). slice_set (reached marks slot (length ss)) slot (mark_group ss (get_or (reached marks slot (length ss)) slot []) home ps)) q))
        (go (cases_lt slot (length marks)))))
      where
        begun : Found ss (extents ss gs) marks ks start home i
        begun = found_start marks ks from last home start f e

        fresh : List (List Bool)
        fresh = marks ++ replicate (length ss) false ∷ []

        go : (slot < length marks) ⊎ (length marks ≤ slot)
            → Found ss (extents ss gs) (slice_set (reached marks slot (length ss)) slot (mark_group ss (get_or (reached marks slot (length ss)) slot []) home (get_or gs i no_group).places)) (ks ++ slot ∷ []) (suc slot) home (i + 1)
        go (inl k) =
            subst (λ (ms : List (List Bool)). Found ss (extents ss gs) (slice_set ms slot (mark_group ss (get_or ms slot []) home (get_or gs i no_group).places)) (ks ++ slot ∷ []) (suc slot) home (i + 1)) (sym (reached_old marks slot (length ss) k))
            (found_old marks ks start home slot (found_start marks ks from last home start f e) h k given.skipped given.free)
        go (inr k) =
            subst (λ (ms : List (List Bool)). Found ss (extents ss gs) (slice_set ms slot (mark_group ss (get_or ms slot []) home (get_or gs i no_group).places)) (ks ++ slot ∷ []) (suc slot) home (i + 1)) (sym (reached_new marks slot (length ss) k))
            (found_old (marks ++ replicate (length ss) false ∷ []) ks start home slot
            (found_with_fresh ss t (extents ss gs) order marks ks start home i (found_start marks ks from last home start f e)) h
            (omega (arith, given.high, length_push marks (replicate (length ss) false)))
            (λ j b c. ap (λ (bits : List Bool). get_or bits home false) (get_or_append_left marks (replicate (length ss) false ∷ []) [] j (omega (arith, c, given.high))) ∙ given.skipped j b c)
            (ap (λ (bits : List Bool). get_or bits home false) (get_or_push marks (replicate (length ss) false) [] slot (omega (arith, k, given.high)))
            ∙ get_or-replicate (length ss) home false false (subst (λ (n : ℕ). n < length ss) (sym h) (a i no_group l).home)))

pub starts_within : (marks : List (List Bool)) (home last from start : ℕ) → from ≤ length marks → start ≡ cond (nat_eq home last) from 0 → start ≤ length marks
starts_within marks home last from start h e = go (nat_eq home last) e
  where
    go : (b : Bool) → start ≡ cond b from 0 → start ≤ length marks
    go true s = omega (arith, h, s)
    go false s = omega (arith, s)

pub all_sized : (ss : List Scope) (es : List Extent) (marks : List (List Bool)) (ks : List ℕ) (from home i : ℕ) → Found ss es marks ks from home i → All (λ bits. length bits ≡ length ss) marks
all_sized ss es marks ks from home i f = λ k d l. ap (length {A = Bool}) (get_or_default marks k d [] l) ∙ f.sized k l

-- ---- with the number of slots

greatest_push : (ns : List ℕ) (n : ℕ) → greatest (ns ++ n ∷ []) ≡ max (greatest ns) n
unfolding all_open
greatest_push [] n = omega arith
greatest_push (m ∷ ns) n = omega (arith, greatest_push ns n)

count_push : (ks : List ℕ) (k : ℕ) → slot_count (ks ++ k ∷ []) ≡ max (slot_count ks) (suc k)
unfolding all_open
count_push ks k = ap greatest (map_push (λ (j : ℕ). suc j) ks k) ∙ greatest_push (map (λ (j : ℕ). suc j) ks) (suc k)

reached_count : (marks : List (List Bool)) (slot n : ℕ) → slot ≤ length marks → length (reached marks slot n) ≡ max (length marks) (suc slot)
reached_count marks slot n h = go (cases_lt slot (length marks))
  where
    go : (slot < length marks) ⊎ (length marks ≤ slot) → length (reached marks slot n) ≡ max (length marks) (suc slot)
    go (inl l) = ap (length {A = List Bool}) (reached_old marks slot n l) ∙ (omega (arith, l))
    go (inr l) = ap (length {A = List Bool}) (reached_new marks slot n l) ∙ length_push marks (replicate n false) ∙ (omega (arith, l, h))

-- what stands when the first i groups have their slots: there are marks for each slot given
pub record Standing (ss : List Scope) (es : List Extent) (marks : List (List Bool)) (ks : List ℕ) (from home i : ℕ) : Type 0 where
  pub found : Found ss es marks ks from home i
  pub counted : length marks ≡ slot_count ks

pub none_stand : (ss : List Scope) (es : List Extent) (marks : List (List Bool)) (ks : List ℕ) (home : ℕ) → marks ≡ [] → ks ≡ [] → Standing ss es marks ks 0 home 0
unfolding all_open
none_stand ss es marks ks home e f =
    subst (λ (ms : List (List Bool)). Standing ss es ms ks 0 home 0) (sym e)
    (subst (λ (js : List ℕ). Standing ss es [] js 0 home 0) (sym f)
    (record { found = none_found ss es home; counted = refl }))

pub standing_more : (ss : List Scope) (t : IsTable ss) (gs : List Numbered) (a : All (IsAmong ss) gs) (order : PairsOf Homes_in_order (extents ss gs)) (i : ℕ) (l : i < length gs)
    → (marks marks' : List (List Bool)) (ks ks' : List ℕ) (from last home start slot : ℕ) → Standing ss (extents ss gs) marks ks from last i → home ≡ (get_or gs i no_group).home → start ≡ cond (nat_eq home last) from 0
    → (places : List (Option ℕ)) → places ≡ (get_or gs i no_group).places → IsGiven ss (length ss) marks start home places slot marks' → ks' ≡ ks ++ slot ∷ [] → Standing ss (extents ss gs) marks' ks' (slot + 1) home (i + 1)
standing_more ss t gs a order i l marks marks' ks ks' from last home start slot s h e places q given r = record {
  found = found_more ss t gs a order i l marks marks' ks ks' from last home start slot s.found h e places q given r;
  counted =
      ap (length {A = List Bool}) given.marked ∙ length-set (reached marks slot (length ss)) slot (mark_group ss (get_or (reached marks slot (length ss)) slot []) home places)
      ∙ reached_count marks slot (length ss) given.high ∙ ap (λ (n : ℕ). max n (suc slot)) s.counted ∙ sym (count_push ks slot) ∙ ap slot_count (sym r);
}
