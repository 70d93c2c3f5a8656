-- The slot that a group gets, and its marks.
use Rattle.std.specs.Prelude.{◌≡◌, ◌⊎◌, ◌<◌, ◌≤◌, ℕ, zero, suc, ◌+◌, Bool, true, false, cond, ◌&&◌, ◌||◌, nat_eq, List, [], ◌∷◌, ◌++◌, length, get_or, map, filter, take}
use Rattle.std.specs.List.{list_any}
use Rattle.std.proofs.Common.{refl, sym, ap, ◌∙◌, subst, arith, inl, inr, set}
use Rattle.std.proofs.Math.Bool.{or-false, or_assoc}
use Rattle.std.proofs.lemmas.Bool.{both_ways, cases_eq, cases_lt, or_cases, or_left, or_right, ne_eqb, eqb-true}
use Rattle.std.proofs.lemmas.List.{get_or-set_other, get_or-set_same, length-set}
use Rattle.scope_marks.proofs.ScopesByNumber.{Within, one_number}
use Rattle.list_laws.proofs.Tests.{tests_agree}
use Rattle.scope_marks.proofs.MarkedOutwards.{Upward, marked_each}
use Rattle.live_slots.specs.Extents.{extent_of}
use Rattle.scope_marks.specs.Marks.{mark_each}
use Rattle.live_slots.specs.Open.{all_open}
use Rattle.scope_marks.proofs.ScopesByNumber.{IsTable}
use Rattle.name_rules.proofs.GroupsStandApart.{never_together}
use Rattle.name_rules.proofs.SlotsAreFewest.{Ordered_apart, below_missing}
use Rattle.name_rules.specs.Groups.{Group, Member, greatest, is_live, reaches}
use Rattle.name_rules.specs.Slots.{Slotted, least_missing, slot_after, slots, slots_after, slots_live}
use Rattle.tree_places.proofs.Outwards.{inside_antisym, same_scope_eq, same_scope_refl}
use Rattle.list_laws.proofs.AllOf.{AllOf}
use Rattle.list_laws.proofs.PairsOf.{PairsOf}
use Rattle.tree_places.specs.Scopes.{Scope, is_inside, same_scope}
use Rattle.scope_rules.specs.Bindings.{is_node}

abbrev pub listed : List ℕ → ℕ → Bool
listed ns k = list_any (nat_eq k) ns

-- ---- the slot that is chosen

greatest_listed : (ns : List ℕ) (k : ℕ) → greatest ns < k → listed ns k ≡ false
unfolding all_open
greatest_listed [] k h = refl
greatest_listed (n ∷ ns) k h = rw (ne_eqb k n (λ e. omega arith)) (greatest_listed ns k (omega arith))

not_listed : (fuel : ℕ) (ns : List ℕ) (k : ℕ) → greatest ns < fuel + k → listed ns (least_missing fuel ns k) ≡ false
unfolding all_open
not_listed zero ns k h = greatest_listed ns k (omega arith)
not_listed (suc fuel) ns k h = go (listed ns k) refl (not_listed fuel ns (suc k) (omega arith))
  where
    go : (b : Bool) → listed ns k ≡ b → listed ns (least_missing fuel ns (suc k)) ≡ false → listed ns (cond b (least_missing fuel ns (suc k)) k) ≡ false
    go true e f = f
    go false e f = e

-- the least number that isn't listed is that below which all are
pub least_is : (ns : List ℕ) (k : ℕ) → listed ns k ≡ false → ((j : ℕ) → j < k → listed ns j ≡ true) → least_missing (suc (greatest ns)) ns 0 ≡ k
unfolding all_open
least_is ns k none all = go (cases_lt least k) (cases_lt k least)
  where
    least : ℕ
    least = least_missing (suc (greatest ns)) ns 0

    go : (least_missing (suc (greatest ns)) ns 0 < k) ⊎ (k ≤ least_missing (suc (greatest ns)) ns 0) → (k < least_missing (suc (greatest ns)) ns 0) ⊎ (least_missing (suc (greatest ns)) ns 0 ≤ k) → least_missing (suc (greatest ns)) ns 0 ≡ k
    go (inl h) _ = absurd (both_ways _ (not_listed (suc (greatest ns)) ns 0 (omega arith)) (all _ h))
    go (inr h) (inl l) = absurd (both_ways _ none (below_missing (suc (greatest ns)) ns 0 k (omega arith) l))
    go (inr h) (inr l) = omega (arith, h, l)

-- ---- lists in order

AllOf_take : {X : Type 0} (P : X → Type 0) (n : ℕ) (xs : List X) → AllOf P xs → AllOf P (take n xs)
unfolding all_open
AllOf_take P zero xs a = tt
AllOf_take P (suc n) [] a = tt
AllOf_take P (suc n) (x ∷ xs) a = (a.0, AllOf_take P n xs a.1)

pub PairsOf_take : {X : Type 0} (R : X → X → Type 0) (n : ℕ) (xs : List X) → PairsOf R xs → PairsOf R (take n xs)
unfolding all_open
PairsOf_take R zero xs p = tt
PairsOf_take R (suc n) [] p = tt
PairsOf_take R (suc n) (x ∷ xs) p = (AllOf_take (R x) n xs p.0, PairsOf_take R n xs p.1)

all_last : {X : Type 0} (P : X → Type 0) (xs : List X) (y : X) → AllOf P (xs ++ y ∷ []) → P y
unfolding all_open
all_last P [] y a = a.0
all_last P (x ∷ xs) y a = all_last P xs y a.1

pub pairs_last : {X : Type 0} (R : X → X → Type 0) (xs : List X) (y : X) → PairsOf R (xs ++ y ∷ []) → AllOf (λ x. R x y) xs
unfolding all_open
pairs_last R [] y p = tt
pairs_last R (x ∷ xs) y p = (all_last (R x) xs y p.0, pairs_last R xs y p.1)

after_push : (ms : List Member) (before : List Slotted) (gs : List Group) (g : Group)
    → slots_after ms before (gs ++ g ∷ []) ≡ slots_after ms before gs ++ record { group = g; slot = slot_after ms (slots_after ms before gs) g } ∷ []
unfolding all_open
after_push ms before [] g = refl
after_push ms before (h ∷ gs) g = after_push ms (before ++ record { group = h; slot = slot_after ms before h } ∷ []) gs g

pub slots_push : (ms : List Member) (gs : List Group) (g : Group) → slots ms (gs ++ g ∷ []) ≡ slots ms gs ++ record { group = g; slot = slot_after ms (slots ms gs) g } ∷ []
unfolding all_open
slots_push ms gs g = after_push ms [] gs g

-- ---- where the slots are live

pub listed_push : (ms : List Member) (before : List Slotted) (b : Slotted) (s : Scope) (k : ℕ)
    → listed (slots_live ms (before ++ b ∷ []) s) k ≡ (listed (slots_live ms before s) k || (is_live ms s b.group && nat_eq k b.slot))
unfolding all_open
listed_push ms [] b s k = go (is_live ms s b.group)
  where
    go : (l : Bool) → listed (map (λ (c : Slotted). c.slot) (cond l (b ∷ []) [])) k ≡ (l && nat_eq k b.slot)
    go true = or-false (nat_eq k b.slot)
    go false = refl
listed_push ms (c ∷ cs) b s k = go (is_live ms s c.group) (listed_push ms cs b s k)
  where
    go : (l : Bool) → listed (map (λ (d : Slotted). d.slot) (filter (λ d. is_live ms s d.group) (cs ++ b ∷ []))) k ≡ (listed (map (λ (d : Slotted). d.slot) (filter (λ d. is_live ms s d.group) cs)) k || (is_live ms s b.group && nat_eq k b.slot))
        → listed (map (λ (d : Slotted). d.slot) (cond l (c ∷ filter (λ d. is_live ms s d.group) (cs ++ b ∷ [])) (filter (λ d. is_live ms s d.group) (cs ++ b ∷ [])))) k
        ≡ (listed (map (λ (d : Slotted). d.slot) (cond l (c ∷ filter (λ d. is_live ms s d.group) cs) (filter (λ d. is_live ms s d.group) cs))) k || (is_live ms s b.group && nat_eq k b.slot))
    go true ih = ap (λ x. nat_eq k c.slot || x) ih ∙ sym (or_assoc (nat_eq k c.slot) _ _)
    go false ih = ih

-- where a group is live, no earlier one of its slot is
pub none_clash : (ms : List Member) (before : List Slotted) (b : Slotted) (s : Scope) → AllOf (λ c. Ordered_apart ms c b) before
    → is_live ms s b.group ≡ true → listed (slots_live ms before s) b.slot ≡ true → ⊥
unfolding all_open
none_clash ms [] b s a live e = both_ways _ refl e
none_clash ms (c ∷ cs) b s a live e = go (is_live ms s c.group) refl (none_clash ms cs b s a.1 live) e
  where
    go : (l : Bool) → is_live ms s c.group ≡ l → (listed (map (λ (d : Slotted). d.slot) (filter (λ d. is_live ms s d.group) cs)) b.slot ≡ true → ⊥)
        → listed (map (λ (d : Slotted). d.slot) (cond l (c ∷ filter (λ d. is_live ms s d.group) cs) (filter (λ d. is_live ms s d.group) cs))) b.slot ≡ true → ⊥
    go true q ih f = by_head (or_cases _ _ f)
      where
        by_head : (nat_eq b.slot c.slot ≡ true) ⊎ (listed (map (λ (d : Slotted). d.slot) (filter (λ d. is_live ms s d.group) cs)) b.slot ≡ true) → ⊥
        by_head (inl x) = never_together ms c b a.0.0 a.0.1 (sym (eqb-true b.slot c.slot x)) s q live
        by_head (inr y) = ih y
    go false q ih f = ih f

-- ---- where a group is live, by its extent

distribute : (b x r : Bool) → (b && (x || r)) ≡ ((x && b) || (b && r))
distribute true true r = refl
distribute true false r = refl
distribute false true r = refl
distribute false false r = refl

any_reach : (g : Group) (s : Scope) (ms : List Member)
    → (is_inside s g.home && list_any (reaches g s) ms) ≡ list_any (λ p. is_inside p s && is_inside s g.home) (map (λ m. m.place.site.setting.scope) (filter (λ m. is_node m.group g.leader) ms))
unfolding all_open
any_reach g s [] = no (is_inside s g.home)
  where
    no : (b : Bool) → (b && false) ≡ false
    no true = refl
    no false = refl
any_reach g s (m ∷ ms) = go (is_node m.group g.leader) (any_reach g s ms)
  where
    go : (a : Bool) → (is_inside s g.home && list_any (reaches g s) ms) ≡ list_any (λ p. is_inside p s && is_inside s g.home) (map (λ (n : Member). n.place.site.setting.scope) (filter (λ n. is_node n.group g.leader) ms))
        → (is_inside s g.home && ((a && is_inside m.place.site.setting.scope s) || list_any (reaches g s) ms))
        ≡ list_any (λ p. is_inside p s && is_inside s g.home) (map (λ (n : Member). n.place.site.setting.scope) (cond a (m ∷ filter (λ n. is_node n.group g.leader) ms) (filter (λ n. is_node n.group g.leader) ms)))
    go true ih = distribute (is_inside s g.home) (is_inside m.place.site.setting.scope s) (list_any (reaches g s) ms) ∙ ap (λ b. (is_inside m.place.site.setting.scope s && is_inside s g.home) || b) ih
    go false ih = ih

pub live_by_extent : (ms : List Member) (g : Group) (s : Scope)
    → is_live ms s g ≡ (same_scope s g.home || list_any (λ p. is_inside p s && is_inside s g.home) (extent_of ms g).places)
unfolding all_open
live_by_extent ms g s = ap (λ b. same_scope s g.home || b) (any_reach g s ms)

-- ---- the marks of a group

module _ (ss : List Scope) (t : IsTable ss) (ms : List Member) (before : List Slotted) (g : Group) (k h : ℕ) (bits : List Bool) where
  marked_home : h < length ss → get_or ss h [] ≡ g.home → length bits ≡ length ss
      → ((m : ℕ) → m < length ss → get_or bits m false ≡ listed (slots_live ms before (get_or ss m [])) k)
      → (m : ℕ) → m < length ss → get_or (set bits h true) m false ≡ (listed (slots_live ms before (get_or ss m [])) k || same_scope (get_or ss m []) g.home)
  unfolding all_open
  marked_home l e long told m lm = go (cases_eq m h)
    where
      go : (m ≡ h) ⊎ (m ≡ h → ⊥) → get_or (set bits h true) m false ≡ (listed (slots_live ms before (get_or ss m [])) k || same_scope (get_or ss m []) g.home)
      go (inl s) =
          let home : get_or ss m [] ≡ g.home = ap (λ (j : ℕ). get_or ss j []) s ∙ e in
          ap (λ (j : ℕ). get_or (set bits h true) j false) s ∙ get_or-set_same bits h true false (omega (arith, l, long))
          ∙ sym (or_right (listed (slots_live ms before (get_or ss m [])) k) _ (subst (λ (r : Scope). same_scope r g.home ≡ true) (sym home) (same_scope_refl g.home)))
      go (inr apart) =
          get_or-set_other bits h m true false apart ∙ told m lm
          ∙ tests_agree _ _ (λ x. or_left _ _ x) (λ x. first (or_cases _ _ x))
        where
          first : (listed (slots_live ms before (get_or ss m [])) k ≡ true) ⊎ (same_scope (get_or ss m []) g.home ≡ true) → listed (slots_live ms before (get_or ss m [])) k ≡ true
          first (inl x) = x
          first (inr y) = absurd (apart (one_number ss t m h lm l (same_scope_eq (get_or ss m []) g.home y ∙ sym e)))

  pub group_marked : h < length ss → get_or ss h [] ≡ g.home → length bits ≡ length ss
      → ((m : ℕ) → m < length ss → get_or bits m false ≡ listed (slots_live ms before (get_or ss m [])) k)
      → AllOf (λ c. Ordered_apart ms c (record { group = g; slot = k })) before
      → AllOf (λ p. Within ss p × (is_inside p g.home ≡ true)) (extent_of ms g).places
      → (m : ℕ) → m < length ss → get_or (mark_each (set bits h true) (extent_of ms g).places) m false ≡ (listed (slots_live ms before (get_or ss m [])) k || is_live ms (get_or ss m []) g)
  unfolding all_open
  group_marked l e long told a inside m lm =
      marked_each ss t g.home (extent_of ms g).places (set bits h true) (λ n. listed (slots_live ms before (get_or ss n [])) k) (λ n. same_scope (get_or ss n []) g.home)
      (length-set bits h true ∙ long) (marked_home l e long told) up inside apart m lm
      ∙ ap (λ b. listed (slots_live ms before (get_or ss m [])) k || b) (sym (live_by_extent ms g (get_or ss m [])))
    where
      up : Upward ss t g.home (λ n. same_scope (get_or ss n []) g.home)
      up = record {
        further = λ n j ln lj x i d.
            let here : get_or ss n [] ≡ g.home = same_scope_eq (get_or ss n []) g.home x in
            subst (λ (r : Scope). same_scope r g.home ≡ true) (inside_antisym g.home (get_or ss j []) (subst (λ (r : Scope). is_inside r (get_or ss j []) ≡ true) here i) d) (same_scope_refl g.home);
        in_home = λ n ln f. subst (λ (r : Scope). same_scope r g.home ≡ true) (sym f) (same_scope_refl g.home);
      }

      apart : (n : ℕ) → n < length ss → list_any (λ p. is_inside p (get_or ss n []) && is_inside (get_or ss n []) g.home) (extent_of ms g).places ≡ true → listed (slots_live ms before (get_or ss n [])) k ≡ true → ⊥
      apart n ln x f = none_clash ms before (record { group = g; slot = k }) (get_or ss n []) a (live_by_extent ms g (get_or ss n []) ∙ or_right (same_scope (get_or ss n []) g.home) _ x) f
