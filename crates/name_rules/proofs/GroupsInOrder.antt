-- The groups of a tree stand in order, so its slots are as many as its greatest width.
use Rattle.std.specs.List.{AllPairs, Contains, list_any, flat_map}
use Rattle.std.specs.Prelude.{◌≡◌, ◌⊎◌, ℕ, suc, ◌<◌, Bool, true, false, cond, List, [], ◌∷◌, ◌++◌, length, map, filter}
use Rattle.std.proofs.Common.{refl, sym, ◌∙◌, subst, arith, inl, inr}
use Rattle.std.proofs.lemmas.Bool.{or_cases, or_left, or_right, both_ways}
use Rattle.std.proofs.lemmas.List.{append_assoc}
use Rattle.list_laws.proofs.AllOf.{AllOf, AllOf_append, AllOf_weaken, of_each}
use Rattle.list_laws.proofs.Members.{in_from_Contains}
use Rattle.list_laws.proofs.PairsOf.{PairsOf, PairsOf_weaken, pairs_by_place, PairsOf_append, PairsOf_reverse}
use Rattle.tree_nodes.specs.Tree.{Parts}
use Rattle.tree_places.proofs.Outwards.{same_scope_eq, same_scope_refl}
use Rattle.tree_places.proofs.Rising.{tree_good}
use Rattle.tree_places.proofs.Walks.{Proper, known}
use Rattle.tree_places.specs.Places.{scopes, seen}
use Rattle.tree_places.specs.Scopes.{Scope, is_inside, same_scope}
use Rattle.scope_rules.specs.Bindings.{node}
use Rattle.scope_rules.specs.Homes.{home}
use Rattle.name_rules.proofs.GroupsStandApart.{In_order, never_together}
use Rattle.name_rules.proofs.SlotsAreFewest.{Ordered_apart, last_width, pairs_apart, slots_fewest}
use Rattle.name_rules.specs.Groups.{Group, Member, greatest_width, groups, groups_of, leads, members, width}
use Rattle.name_rules.specs.Laws.{Apart}
use Rattle.name_rules.specs.Open.{all_open}
use Rattle.name_rules.specs.Options.{Options}
use Rattle.name_rules.specs.Slots.{Slotted, number_of_slots, slots_of}

-- numbers below a bound
abbrev Below : ℕ → Scope → Type 0
Below n s = AllOf (λ k. k < n) s

below_more : (n : ℕ) (s : Scope) → Below n s → Below (suc n) s
unfolding all_open
below_more n s b = AllOf_weaken (λ k. k < n) (λ k. k < suc n) (λ k h. omega arith) s b

inside_has : (P : ℕ → Type 0) (x : Scope) (n : ℕ) (ns : Scope) → AllOf P x → is_inside x (n ∷ ns) ≡ true → P n
unfolding all_open
inside_has P [] n ns a h = absurd (both_ways _ refl h)
inside_has P (m ∷ ms) n ns a h = go (or_cases _ _ h) (inside_has P ms n ns a.1)
  where
    go : (same_scope (m ∷ ms) (n ∷ ns) ≡ true) ⊎ (is_inside ms (n ∷ ns) ≡ true) → (is_inside ms (n ∷ ns) ≡ true → P n) → P n
    go (inl e) ih = (subst (AllOf P) (same_scope_eq (m ∷ ms) (n ∷ ns) e) a).0
    go (inr e) ih = ih e

among_all : (P : Scope → Type 0) (x : Scope) (ss : List Scope) → AllOf P ss → list_any (same_scope x) ss ≡ true → P x
unfolding all_open
among_all P x [] a h = absurd (both_ways _ refl h)
among_all P x (s ∷ ss) a h = go (or_cases _ _ h) (among_all P x ss a.1)
  where
    go : (same_scope x s ≡ true) ⊎ (list_any (same_scope x) ss ≡ true) → (list_any (same_scope x) ss ≡ true → P x) → P x
    go (inl e) ih = subst P (sym (same_scope_eq x s e)) a.0
    go (inr e) ih = ih e

known_below : (n : ℕ) (ss : List Scope) (x : Scope) → AllOf (Below n) ss → known ss x ≡ true → Below n x
unfolding all_open
known_below n ss x a k = go (or_cases _ _ k)
  where
    go : (same_scope x [] ≡ true) ⊎ (list_any (same_scope x) ss ≡ true) → Below n x
    go (inl e) = subst (Below n) (sym (same_scope_eq x [] e)) tt
    go (inr e) = among_all (Below n) x ss a e

proper_below : (ss : List Scope) → Proper ss → AllOf (Below (length ss)) ss
unfolding all_open
proper_below [] p = tt
proper_below (s ∷ ss) (outer, e, k, p) =
    let b : AllOf (Below (length ss)) ss = proper_below ss p in
    (subst (Below (suc (length ss))) (sym e) (omega arith, below_more (length ss) outer (known_below (length ss) ss outer b k)), AllOf_weaken (Below (length ss)) (Below (suc (length ss))) (below_more (length ss)) ss b)

-- no scope is inside a later one
abbrev Not_inside : Scope → Scope → Type 0
Not_inside r s = is_inside r s ≡ true → ⊥

no_scope_inside_later : (ss : List Scope) → Proper ss → PairsOf (λ s r. Not_inside r s) ss
unfolding all_open
no_scope_inside_later [] p = tt
no_scope_inside_later (s ∷ ss) (outer, e, k, p) = (
  AllOf_weaken (Below (length ss)) (λ r. Not_inside r s)
      (λ r b h. let i : length ss < length ss = inside_has (λ j. j < length ss) r (length ss) outer b (subst (λ (x : Scope). is_inside r x ≡ true) e h) in omega arith)
      ss (proper_below ss p),
  no_scope_inside_later ss p,
)

-- the groups whose home is s
abbrev at_scope : List Member → Scope → List Group
at_scope leaders s = map (λ m. record { leader = node m.place; home = home m.place.site }) (filter (λ m. same_scope (home m.place.site) s) leaders)

homed_at_scope : (leaders : List Member) (s : Scope) → AllOf (λ (g : Group). g.home ≡ s) (at_scope leaders s)
unfolding all_open
homed_at_scope [] s = tt
homed_at_scope (m ∷ ms) s = go (same_scope (home m.place.site) s) refl (homed_at_scope ms s)
  where
    go : (v : Bool) → same_scope (home m.place.site) s ≡ v → AllOf (λ (g : Group). g.home ≡ s) (at_scope ms s)
        → AllOf (λ (g : Group). g.home ≡ s) (map (λ (n : Member). record { leader = node n.place; home = home n.place.site }) (cond v (m ∷ filter (λ n. same_scope (home n.place.site) s) ms) (filter (λ n. same_scope (home n.place.site) s) ms)))
    go true e ih = (same_scope_eq (home m.place.site) s e, ih)
    go false e ih = ih

-- groups of one home are in order
groups_of_one_home : (s : Scope) (gs : List Group) → AllOf (λ (g : Group). g.home ≡ s) gs → PairsOf In_order gs
unfolding all_open
groups_of_one_home s [] a = tt
groups_of_one_home s (g ∷ gs) a = (AllOf_weaken (λ (h : Group). h.home ≡ s) (In_order g) (λ h e i. a.0 ∙ sym e) gs a.1, groups_of_one_home s gs a.1)

later_homes : (leaders : List Member) (s : Scope) (ss : List Scope) → AllOf (Not_inside s) ss → AllOf (λ (h : Group). Not_inside s h.home) (flat_map (at_scope leaders) ss)
unfolding all_open
later_homes leaders s [] a = tt
later_homes leaders s (r ∷ rs) a =
    AllOf_append (λ (h : Group). Not_inside s h.home) (at_scope leaders r) (flat_map (at_scope leaders) rs)
    (AllOf_weaken (λ (h : Group). h.home ≡ r) (λ (h : Group). Not_inside s h.home) (λ h e i. a.0 (subst (λ (x : Scope). is_inside s x ≡ true) e i)) (at_scope leaders r) (homed_at_scope leaders r))
    (later_homes leaders s rs a.1)

in_order : (leaders : List Member) (ss : List Scope) → PairsOf Not_inside ss → PairsOf In_order (flat_map (at_scope leaders) ss)
unfolding all_open
in_order leaders [] p = tt
in_order leaders (s ∷ ss) p =
    let further : AllOf (λ (h : Group). Not_inside s h.home) (flat_map (at_scope leaders) ss) = later_homes leaders s ss p.0 in
    PairsOf_append In_order (at_scope leaders s) (flat_map (at_scope leaders) ss) (groups_of_one_home s (at_scope leaders s) (homed_at_scope leaders s)) (in_order leaders ss p.1)
    (AllOf_weaken (λ (g : Group). g.home ≡ s) (λ g. AllOf (In_order g) (flat_map (at_scope leaders) ss))
    (λ g e. AllOf_weaken (λ (h : Group). Not_inside s h.home) (In_order g) (λ h no i. absurd (no (subst (λ (x : Scope). is_inside x h.home ≡ true) e i))) (flat_map (at_scope leaders) ss) further)
    (at_scope leaders s) (homed_at_scope leaders s))

homes_among : (leaders : List Member) (whole ss : List Scope) → AllOf (λ s. list_any (same_scope s) whole ≡ true) ss → AllOf (λ (g : Group). list_any (same_scope g.home) whole ≡ true) (flat_map (at_scope leaders) ss)
unfolding all_open
homes_among leaders whole [] a = tt
homes_among leaders whole (s ∷ ss) a =
    AllOf_append (λ (g : Group). list_any (same_scope g.home) whole ≡ true) (at_scope leaders s) (flat_map (at_scope leaders) ss)
    (AllOf_weaken (λ (g : Group). g.home ≡ s) (λ (g : Group). list_any (same_scope g.home) whole ≡ true) (λ g e. subst (λ (x : Scope). list_any (same_scope x) whole ≡ true) (sym e) a.0) (at_scope leaders s) (homed_at_scope leaders s))
    (homes_among leaders whole ss a.1)

each_among : (before ss : List Scope) → AllOf (λ s. list_any (same_scope s) (before ++ ss) ≡ true) ss
unfolding all_open
each_among before [] = tt
each_among before (s ∷ ss) = (found before, subst (λ (w : List Scope). AllOf (λ (r : Scope). list_any (same_scope r) w ≡ true) ss) (append_assoc before (s ∷ []) ss) (each_among (before ++ s ∷ []) ss))
  where
    found : (bs : List Scope) → list_any (same_scope s) (bs ++ s ∷ ss) ≡ true
    found [] = or_left _ _ (same_scope_refl s)
    found (b ∷ bs) = or_right _ _ (found bs)

-- the groups of a tree stand in order
pub groups_in_order : (o : Options) (t : Parts) → PairsOf In_order (groups_of o t)
unfolding all_open
groups_in_order o t = in_order (filter leads (members o t)) (scopes t) (PairsOf_reverse Not_inside (seen t).scopes (no_scope_inside_later (seen t).scopes (tree_good t).proper))

-- of each tree: as many slots as the greatest width
pub slots_are_fewest : (o : Options) (t : Parts) → number_of_slots (slots_of o t) ≡ greatest_width o t
unfolding all_open
slots_are_fewest o t =
    let ms : List Member = members o t in
    slots_fewest ms (groups (scopes t) ms) (scopes t) (groups_in_order o t)
    (homes_among (filter leads ms) (scopes t) (scopes t) (each_among [] (scopes t)))

pub width_is_reached : (o : Options) (t : Parts) (b : Slotted) → Contains (slots_of o t) b → suc b.slot ≡ number_of_slots (slots_of o t) → width (members o t) (groups_of o t) b.group.home ≡ greatest_width o t
unfolding all_open
width_is_reached o t b c e =
    of_each (λ (d : Slotted). suc d.slot ≡ number_of_slots (slots_of o t) → width (members o t) (groups_of o t) d.group.home ≡ number_of_slots (slots_of o t)) (slots_of o t) b
    (last_width (members o t) (groups_of o t) (groups_in_order o t)) (in_from_Contains (slots_of o t) b c) e
    ∙ slots_are_fewest o t

pub slots_never_clash : (o : Options) (t : Parts) → AllPairs (Apart (members o t)) (slots_of o t)
unfolding all_open
slots_never_clash o t = pairs_by_place (Apart (members o t)) (slots_of o t)
    (PairsOf_weaken (Ordered_apart (members o t)) (Apart (members o t)) (λ b c a same s l m. never_together (members o t) b c a.0 a.1 same s l m) (slots_of o t)
    (pairs_apart (members o t) (groups_of o t) (groups_in_order o t)))
