-- Two groups of one slot are never live in one scope.
use Rattle.std.specs.List.{list_any}
use Rattle.std.specs.Prelude.{◌≡◌, ◌⊎◌, ℕ, zero, suc, ◌+◌, ◌<◌, Bool, true, false, cond, ◌&&◌, List, [], ◌∷◌, ◌++◌, nat_eq, map, filter}
use Rattle.std.proofs.Common.{refl, sym, subst, arith, inl, inr}
use Rattle.std.proofs.lemmas.Bool.{or_cases, or_left, or_right, or_parts, and_parts, and_from, both_ways, eq-eqb, ne_eqb}
use Rattle.list_laws.proofs.AllOf.{AllOf}
use Rattle.list_laws.proofs.AnyOf.{any_weaken}
use Rattle.list_laws.proofs.PairsOf.{PairsOf, PairsOf_push}
use Rattle.tree_places.proofs.Outwards.{chain, inside_antisym, inside_refl, inside_trans, same_scope_eq}
use Rattle.tree_places.specs.Scopes.{Scope, is_inside, same_scope}
use Rattle.scope_rules.specs.Bindings.{is_node}
use Rattle.name_rules.specs.Groups.{Group, Member, greatest, is_live, reaches}
use Rattle.name_rules.specs.Open.{all_open}
use Rattle.name_rules.specs.Slots.{Slotted, least_missing, slot_after, slots_after}

-- ---- the least number that isn't listed

abbrev listed : List ℕ → ℕ → Bool
listed ns k = list_any (nat_eq k) ns

greatest_listed : (ns : List ℕ) (k : ℕ) → greatest ns < k → listed ns k ≡ false
unfolding all_open
greatest_listed [] k h = refl
greatest_listed (n ∷ ns) k h = rw (ne_eqb k n (λ e. omega arith)) (greatest_listed ns k (omega arith))

not_listed : (fuel : ℕ) (ns : List ℕ) (k : ℕ) → greatest ns < fuel + k → listed ns (least_missing fuel ns k) ≡ false
unfolding all_open
not_listed zero ns k h = greatest_listed ns k (omega arith)
not_listed (suc fuel) ns k h = go (listed ns k) refl (not_listed fuel ns (suc k) (omega arith))
  where
    go : (b : Bool) → listed ns k ≡ b → listed ns (least_missing fuel ns (suc k)) ≡ false → listed ns (cond b (least_missing fuel ns (suc k)) k) ≡ false
    go true e h' = h'
    go false e h' = e

-- ---- a slot isn't that of an earlier group that is live in the home

abbrev pub Kept_apart : List Member → Slotted → Slotted → Type 0
Kept_apart ms b c = b.slot ≡ c.slot → is_live ms c.group.home b.group ≡ true → ⊥

earlier_listed : (ms : List Member) (before : List Slotted) (h : Scope) (k : ℕ) → listed (map (λ b. b.slot) (filter (λ b. is_live ms h b.group) before)) k ≡ false
    → AllOf (λ b. b.slot ≡ k → is_live ms h b.group ≡ true → ⊥) before
unfolding all_open
earlier_listed ms [] h k e = tt
earlier_listed ms (b ∷ bs) h k e = go (is_live ms h b.group) refl e (earlier_listed ms bs h k)
  where
    go : (l : Bool) → is_live ms h b.group ≡ l → listed (map (λ (c : Slotted). c.slot) (cond l (b ∷ filter (λ b. is_live ms h b.group) bs) (filter (λ b. is_live ms h b.group) bs))) k ≡ false
        → (listed (map (λ b. b.slot) (filter (λ b. is_live ms h b.group) bs)) k ≡ false → AllOf (λ b. b.slot ≡ k → is_live ms h b.group ≡ true → ⊥) bs)
        → AllOf (λ b. b.slot ≡ k → is_live ms h b.group ≡ true → ⊥) (b ∷ bs)
    go true q f ih = (λ s l. both_ways (nat_eq k b.slot) (or_parts _ _ f).0 (eq-eqb k b.slot (sym s)), ih (or_parts _ _ f).1)
    go false q f ih = (λ s l. both_ways _ q l, ih f)

slot_apart : (ms : List Member) (before : List Slotted) (g : Group) → AllOf (λ b. Kept_apart ms b (record { group = g; slot = slot_after ms before g })) before
unfolding all_open
slot_apart ms before g =
    let live : List ℕ = map (λ b. b.slot) (filter (λ b. is_live ms g.home b.group) before) in
    earlier_listed ms before g.home (slot_after ms before g) (not_listed (suc (greatest live)) live 0 (omega arith))

pub slots_apart : (ms : List Member) (before : List Slotted) (gs : List Group) → PairsOf (Kept_apart ms) before → PairsOf (Kept_apart ms) (slots_after ms before gs)
unfolding all_open
slots_apart ms before [] p = p
slots_apart ms before (g ∷ gs) p =
    slots_apart ms (before ++ record { group = g; slot = slot_after ms before g } ∷ []) gs
    (PairsOf_push (Kept_apart ms) before (record { group = g; slot = slot_after ms before g }) p (slot_apart ms before g))

-- ---- live further out, up to the home

-- what is live in s and not only at home there is live in each scope between s and the home
pub live_outwards : (ms : List Member) (g : Group) (s r : Scope) → is_live ms s g ≡ true → is_inside s r ≡ true → is_inside r g.home ≡ true
    → (same_scope s g.home ≡ true → is_inside r s ≡ true → same_scope r g.home ≡ true) → is_live ms r g ≡ true
unfolding all_open
live_outwards ms g s r h i j anti = go (or_cases _ _ h)
  where
    go : (same_scope s g.home ≡ true) ⊎ ((is_inside s g.home && list_any (reaches g s) ms) ≡ true) → is_live ms r g ≡ true
    go (inl e) = or_left _ _ (anti e (subst (λ (x : Scope). is_inside r x ≡ true) (sym (same_scope_eq s g.home e)) j))
    go (inr e) =
        let two : (is_inside s g.home ≡ true) × (list_any (reaches g s) ms ≡ true) = and_parts _ _ e in
        or_right _ _ (and_from _ _ j (any_weaken (reaches g s) (reaches g r) up ms two.1))
      where
        up : (m : Member) → reaches g s m ≡ true → reaches g r m ≡ true
        up m q =
            let two : (is_node m.group g.leader ≡ true) × (is_inside m.place.site.setting.scope s ≡ true) = and_parts (is_node m.group g.leader) (is_inside m.place.site.setting.scope s) q in
            and_from _ _ two.0 (inside_trans m.place.site.setting.scope s r two.1 i)

pub live_inside : (ms : List Member) (g : Group) (s : Scope) → is_live ms s g ≡ true → is_inside s g.home ≡ true
unfolding all_open
live_inside ms g s h = go (or_cases _ _ h)
  where
    go : (same_scope s g.home ≡ true) ⊎ ((is_inside s g.home && list_any (reaches g s) ms) ≡ true) → is_inside s g.home ≡ true
    go (inl e) = subst (λ (x : Scope). is_inside s x ≡ true) (same_scope_eq s g.home e) (inside_refl s)
    go (inr e) = (and_parts _ _ e).0

-- an earlier group's home isn't strictly inside a later one's
abbrev pub In_order : Group → Group → Type 0
In_order g h = is_inside g.home h.home ≡ true → g.home ≡ h.home

-- two groups of one slot, in order, are never live in one scope
pub never_together : (ms : List Member) (b c : Slotted) → Kept_apart ms b c → In_order b.group c.group → b.slot ≡ c.slot → (s : Scope) → is_live ms s b.group ≡ true → is_live ms s c.group ≡ true → ⊥
unfolding all_open
never_together ms b c apart order same s hb hc =
    let ib : is_inside s b.group.home ≡ true = live_inside ms b.group s hb in
    let ic : is_inside s c.group.home ≡ true = live_inside ms c.group s hc in
    let cb : is_inside c.group.home b.group.home ≡ true = go (chain s b.group.home c.group.home ib ic) in
    apart same (live_outwards ms b.group s c.group.home hb ic cb (λ e i. at e i ic))
  where
    go : (is_inside b.group.home c.group.home ≡ true) ⊎ (is_inside c.group.home b.group.home ≡ true) → is_inside c.group.home b.group.home ≡ true
    go (inl e) = subst (λ (x : Scope). is_inside x b.group.home ≡ true) (order e) (inside_refl b.group.home)
    go (inr e) = e

    at : same_scope s b.group.home ≡ true → is_inside c.group.home s ≡ true → is_inside s c.group.home ≡ true → same_scope c.group.home b.group.home ≡ true
    at e i j = subst (λ (x : Scope). same_scope x b.group.home ≡ true) (inside_antisym s c.group.home j i) e
