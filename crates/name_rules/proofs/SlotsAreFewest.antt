-- The number of slots is the greatest width.
use Rattle.std.specs.List.{list_any}
use Rattle.std.specs.Prelude.{◌≡◌, ◌⊎◌, ℕ, zero, suc, ◌+◌, ◌≤◌, ◌<◌, Bool, true, false, cond, List, [], ◌∷◌, ◌++◌, eqb, length, map, filter}
use Rattle.std.proofs.Common.{refl, sym, ap, ◌∙◌, subst, arith, inl, inr}
use Rattle.std.proofs.lemmas.Bool.{or_left, cases_order}
use Rattle.std.proofs.lemmas.List.{length-map, map-append, append-nil, append_assoc}
use Rattle.list_laws.proofs.AllOf.{AllOf, AllOf_push}
use Rattle.list_laws.proofs.Counting.{numbers_below}
use Rattle.list_laws.proofs.PairsOf.{PairsOf}
use Rattle.tree_places.proofs.Outwards.{same_scope_refl}
use Rattle.tree_places.specs.Scopes.{Scope, same_scope}
use Rattle.name_rules.proofs.CountFrom.{all_below_listed}
use Rattle.name_rules.proofs.Greatest.{greatest_at, greatest_at_most}
use Rattle.name_rules.proofs.GroupsStandApart.{In_order, Kept_apart, never_together, slots_apart}
use Rattle.name_rules.specs.Groups.{Group, Member, greatest, is_live, width}
use Rattle.name_rules.specs.Open.{all_open}
use Rattle.name_rules.specs.Slots.{Slotted, least_missing, number_of_slots, slot_after, slots, slots_after, slots_live}

-- all numbers below the least missing one are listed
pub below_missing : (fuel : ℕ) (ns : List ℕ) (k j : ℕ) → k ≤ j → j < least_missing fuel ns k → list_any (eqb j) ns ≡ true
unfolding all_open
below_missing zero ns k j h i = absurd (omega arith)
below_missing (suc fuel) ns k j h i = go (list_any (eqb k) ns) refl i (below_missing fuel ns (suc k) j)
  where
    go : (b : Bool) → list_any (eqb k) ns ≡ b → j < cond b (least_missing fuel ns (suc k)) k → (suc k ≤ j → j < least_missing fuel ns (suc k) → list_any (eqb j) ns ≡ true) → list_any (eqb j) ns ≡ true
    go false e i' ih = absurd (omega arith)
    go true e i' ih = at (cases_order k j)
      where
        at : (k ≡ j) ⊎ ((k < j) ⊎ (j < k)) → list_any (eqb j) ns ≡ true
        at (inl q) = subst (λ (x : ℕ). list_any (eqb x) ns ≡ true) q e
        at (inr (inl q)) = ih q i'
        at (inr (inr q)) = absurd (omega arith)

-- ---- the slots' side

abbrev live_in : List Member → Scope → Slotted → Bool
live_in ms s b = is_live ms s b.group

-- how many of these are live in s
abbrev how_many : List Member → List Slotted → Scope → ℕ
how_many ms bs s = length (filter (live_in ms s) bs)

abbrev pub Ordered_apart : List Member → Slotted → Slotted → Type 0
Ordered_apart ms b c = Kept_apart ms b c × In_order b.group c.group

others_apart : (ms : List Member) (s : Scope) (b : Slotted) (bs : List Slotted) → is_live ms s b.group ≡ true → AllOf (Ordered_apart ms b) bs → AllOf (λ y. b.slot ≡ y → ⊥) (slots_live ms bs s)
unfolding all_open
others_apart ms s b [] l a = tt
others_apart ms s b (c ∷ cs) l a = go (live_in ms s c) refl (others_apart ms s b cs l a.1)
  where
    go : (v : Bool) → live_in ms s c ≡ v → AllOf (λ y. b.slot ≡ y → ⊥) (slots_live ms cs s) → AllOf (λ y. b.slot ≡ y → ⊥) (map (λ (d : Slotted). d.slot) (cond v (c ∷ filter (live_in ms s) cs) (filter (live_in ms s) cs)))
    go true e ih = ((λ q. never_together ms b c a.0.0 a.0.1 q s l e), ih)
    go false e ih = ih

live_apart : (ms : List Member) (s : Scope) (bs : List Slotted) → PairsOf (Ordered_apart ms) bs → PairsOf (λ x y. x ≡ y → ⊥) (slots_live ms bs s)
unfolding all_open
live_apart ms s [] p = tt
live_apart ms s (b ∷ bs) p = go (live_in ms s b) refl (live_apart ms s bs p.1)
  where
    go : (v : Bool) → live_in ms s b ≡ v → PairsOf (λ x y. x ≡ y → ⊥) (slots_live ms bs s) → PairsOf (λ x y. x ≡ y → ⊥) (map (λ (d : Slotted). d.slot) (cond v (b ∷ filter (live_in ms s) bs) (filter (live_in ms s) bs)))
    go true e ih = (others_apart ms s b bs e p.0, ih)
    go false e ih = ih

live_below : (ms : List Member) (s : Scope) (bs : List Slotted) (n : ℕ) → number_of_slots bs ≤ n → AllOf (λ y. y < n) (slots_live ms bs s)
unfolding all_open
live_below ms s [] n h = tt
live_below ms s (b ∷ bs) n h = go (live_in ms s b) (live_below ms s bs n (omega arith))
  where
    go : (v : Bool) → AllOf (λ y. y < n) (slots_live ms bs s) → AllOf (λ y. y < n) (map (λ (d : Slotted). d.slot) (cond v (b ∷ filter (live_in ms s) bs) (filter (live_in ms s) bs)))
    go true ih = (omega arith, ih)
    go false ih = ih

-- no scope has more live groups than there are slots
width_at_most : (ms : List Member) (bs : List Slotted) (s : Scope) → PairsOf (Ordered_apart ms) bs → how_many ms bs s ≤ number_of_slots bs
unfolding all_open
width_at_most ms bs s p = subst (λ (m : ℕ). m ≤ number_of_slots bs) (length-map (filter (live_in ms s) bs) (λ b. b.slot)) (numbers_below (number_of_slots bs) (slots_live ms bs s) (live_apart ms s bs p) (live_below ms s bs (number_of_slots bs) (omega arith)))

-- ---- each slot is needed in its group's home

filter_push : (p : Slotted → Bool) (bs : List Slotted) (c : Slotted) → length (filter p (bs ++ c ∷ [])) ≡ length (filter p bs) + cond (p c) 1 0
unfolding all_open
filter_push p [] c = go (p c)
  where
    go : (v : Bool) → length (cond v (c ∷ []) []) ≡ 0 + cond v 1 0
    go true = refl
    go false = refl
filter_push p (b ∷ bs) c = go (p b) (filter_push p bs c)
  where
    go : (v : Bool) → length (filter p (bs ++ c ∷ [])) ≡ length (filter p bs) + cond (p c) 1 0 → length (cond v (b ∷ filter p (bs ++ c ∷ [])) (filter p (bs ++ c ∷ []))) ≡ length (cond v (b ∷ filter p bs) (filter p bs)) + cond (p c) 1 0
    go true ih = omega arith
    go false ih = ih

abbrev Needed : List Member → List Slotted → Slotted → Type 0
Needed ms bs b = suc b.slot ≤ how_many ms bs b.group.home

still_needed : (ms : List Member) (bs : List Slotted) (c : Slotted) (xs : List Slotted) → AllOf (Needed ms bs) xs → AllOf (Needed ms (bs ++ c ∷ [])) xs
unfolding all_open
still_needed ms bs c [] a = tt
still_needed ms bs c (b ∷ xs) a = (let i : suc b.slot ≤ how_many ms bs b.group.home = a.0 in omega (arith, filter_push (live_in ms b.group.home) bs c), still_needed ms bs c xs a.1)

new_needed : (ms : List Member) (bs : List Slotted) (g : Group) → Needed ms (bs ++ record { group = g; slot = slot_after ms bs g } ∷ []) (record { group = g; slot = slot_after ms bs g })
unfolding all_open
new_needed ms bs g =
    let live : List ℕ = slots_live ms bs g.home in
    let k : slot_after ms bs g ≤ length live = all_below_listed (slot_after ms bs g) live (λ j h. below_missing (suc (greatest live)) live 0 j (omega arith) h) in
    let at : is_live ms g.home g ≡ true = or_left _ _ (same_scope_refl g.home) in
    rw (filter_push (live_in ms g.home) bs (record { group = g; slot = slot_after ms bs g }), at, ← length-map (filter (live_in ms g.home) bs) (λ b. b.slot)) (omega arith)

slots_needed : (ms : List Member) (bs : List Slotted) (gs : List Group) → AllOf (Needed ms bs) bs → AllOf (Needed ms (slots_after ms bs gs)) (slots_after ms bs gs)
unfolding all_open
slots_needed ms bs [] a = a
slots_needed ms bs (g ∷ gs) a =
    let c : Slotted = record { group = g; slot = slot_after ms bs g } in
    slots_needed ms (bs ++ c ∷ []) gs (AllOf_push (Needed ms (bs ++ c ∷ [])) bs c (still_needed ms bs c bs a) (new_needed ms bs g))

-- ---- both together

pub slotted_groups : (ms : List Member) (bs : List Slotted) (gs : List Group) → map (λ b. b.group) (slots_after ms bs gs) ≡ map (λ b. b.group) bs ++ gs
unfolding all_open
slotted_groups ms bs [] = sym (append-nil (map (λ b. b.group) bs))
slotted_groups ms bs (g ∷ gs) =
    let c : Slotted = record { group = g; slot = slot_after ms bs g } in
    slotted_groups ms (bs ++ c ∷ []) gs ∙ ap (λ xs. xs ++ gs) (map-append (λ (b : Slotted). b.group) bs (c ∷ [])) ∙ append_assoc (map (λ b. b.group) bs) (g ∷ []) gs

count_map : (p : Group → Bool) (bs : List Slotted) → length (filter p (map (λ b. b.group) bs)) ≡ length (filter (λ b. p b.group) bs)
unfolding all_open
count_map p [] = refl
count_map p (b ∷ bs) = go (p b.group) (count_map p bs)
  where
    go : (v : Bool) → length (filter p (map (λ (c : Slotted). c.group) bs)) ≡ length (filter (λ c. p c.group) bs)
        → length (cond v (b.group ∷ filter p (map (λ (c : Slotted). c.group) bs)) (filter p (map (λ (c : Slotted). c.group) bs))) ≡ length (cond v (b ∷ filter (λ c. p c.group) bs) (filter (λ c. p c.group) bs))
    go true ih = ap suc ih
    go false ih = ih

join_all : (ms : List Member) (b : Slotted) (bs : List Slotted) → AllOf (Kept_apart ms b) bs → AllOf (In_order b.group) (map (λ c. c.group) bs) → AllOf (Ordered_apart ms b) bs
unfolding all_open
join_all ms b [] k o = tt
join_all ms b (c ∷ cs) k o = ((k.0, o.0), join_all ms b cs k.1 o.1)

join_pairs : (ms : List Member) (bs : List Slotted) → PairsOf (Kept_apart ms) bs → PairsOf In_order (map (λ c. c.group) bs) → PairsOf (Ordered_apart ms) bs
unfolding all_open
join_pairs ms [] k o = tt
join_pairs ms (b ∷ bs) k o = (join_all ms b bs k.0 o.0, join_pairs ms bs k.1 o.1)

slots_at_most : (ms : List Member) (whole bs : List Slotted) (ss : List Scope) → AllOf (Needed ms whole) bs → AllOf (λ g. list_any (same_scope g.home) ss ≡ true) (map (λ b. b.group) bs)
    → number_of_slots bs ≤ greatest (map (how_many ms whole) ss)
unfolding all_open
slots_at_most ms whole [] ss a h = omega arith
slots_at_most ms whole (b ∷ bs) ss a h =
    let i : suc b.slot ≤ how_many ms whole b.group.home = a.0 in
    let j : how_many ms whole b.group.home ≤ greatest (map (how_many ms whole) ss) = greatest_at (how_many ms whole) ss b.group.home h.0 in
    let r : number_of_slots bs ≤ greatest (map (how_many ms whole) ss) = slots_at_most ms whole bs ss a.1 h.1 in
    omega arith

same_width : (ms : List Member) (gs : List Group) (r : Scope) → width ms gs r ≡ how_many ms (slots ms gs) r
unfolding all_open
same_width ms gs r = ap (λ hs. length (filter (is_live ms r) hs)) (sym (slotted_groups ms [] gs)) ∙ count_map (is_live ms r) (slots ms gs)

same_widths : (ms : List Member) (gs : List Group) (ss : List Scope) → map (width ms gs) ss ≡ map (how_many ms (slots ms gs)) ss
unfolding all_open
same_widths ms gs [] = refl
same_widths ms gs (s ∷ ss) = ap (λ n. n ∷ map (width ms gs) ss) (same_width ms gs s) ∙ ap (λ ns. how_many ms (slots ms gs) s ∷ ns) (same_widths ms gs ss)

-- the slots of ordered groups are apart
pub pairs_apart : (ms : List Member) (gs : List Group) → PairsOf In_order gs → PairsOf (Ordered_apart ms) (slots ms gs)
unfolding all_open
pairs_apart ms gs o = join_pairs ms (slots ms gs) (slots_apart ms [] gs tt) (subst (PairsOf In_order) (sym (slotted_groups ms [] gs)) o)

-- the width of the home of a group with the last slot
pub last_width : (ms : List Member) (gs : List Group) → PairsOf In_order gs → AllOf (λ b. suc b.slot ≡ number_of_slots (slots ms gs) → width ms gs b.group.home ≡ number_of_slots (slots ms gs)) (slots ms gs)
unfolding all_open
last_width ms gs o = go (slots ms gs) (slots_needed ms [] gs tt)
  where
    go : (bs : List Slotted) → AllOf (Needed ms (slots ms gs)) bs → AllOf (λ b. suc b.slot ≡ number_of_slots (slots ms gs) → width ms gs b.group.home ≡ number_of_slots (slots ms gs)) bs
    go [] a = tt
    go (b ∷ bs) a = (
      λ e.
          let i : suc b.slot ≤ how_many ms (slots ms gs) b.group.home = a.0 in
          let j : how_many ms (slots ms gs) b.group.home ≤ number_of_slots (slots ms gs) = width_at_most ms (slots ms gs) b.group.home (pairs_apart ms gs o) in
          rw (same_width ms gs b.group.home) (omega (arith, i, j, e)),
      go bs a.1,
    )

-- the number of slots is the greatest width, where the groups stand in order and their homes are among the scopes
pub slots_fewest : (ms : List Member) (gs : List Group) (ss : List Scope) → PairsOf In_order gs → AllOf (λ g. list_any (same_scope g.home) ss ≡ true) gs
    → number_of_slots (slots ms gs) ≡ greatest (map (width ms gs) ss)
unfolding all_open
slots_fewest ms gs ss o h =
    let bs : List Slotted = slots ms gs in
    let same : map (λ b. b.group) bs ≡ gs = slotted_groups ms [] gs in
    let pairs : PairsOf (Ordered_apart ms) bs = pairs_apart ms gs o in
    let down : number_of_slots bs ≤ greatest (map (how_many ms bs) ss) = slots_at_most ms bs bs ss (slots_needed ms [] gs tt) (subst (AllOf (λ g. list_any (same_scope g.home) ss ≡ true)) (sym same) h) in
    let up : greatest (map (how_many ms bs) ss) ≤ number_of_slots bs = greatest_at_most (how_many ms bs) ss (number_of_slots bs) (λ s. width_at_most ms bs s pairs) in
    rw (same_widths ms gs ss) (omega arith)
