-- Places of which none can be at fault: none is private, a `var` or a function in a block of sloppy code, what declares is joinable, and no reference lies in a parameter.
use Rattle.std.proofs.Common.{◌≡◌, ℕ, ◌⊎◌, inl, inr, Bool, true, false, not, ◌&&◌, List, [], ◌∷◌, map, Option, Some, None, refl, ◌∙◌}
use Rattle.std.specs.List.{list_any}
use Rattle.list_laws.proofs.AllOf.{AllOf, of_each}
use Rattle.list_laws.proofs.AnyOf.{any_map, any_none}
use Rattle.list_laws.proofs.Members.{In}
use Rattle.scope_rules.specs.Bindings.{Bound, binding, bound, declares_at, same_name}
use Rattle.scope_rules.specs.Faults.{crosses, has_crossing, has_fault, has_reach, has_redeclaration, has_sloppy_function, has_undeclared, is_of_body, is_single_at, is_sloppy_function, is_undeclared, reaches_body, redeclares}
use Rattle.scope_rules.specs.Homes.{declares, declares_plainly, home, is_joinable, is_var, refers}
use Rattle.tree_nodes.specs.Tree.{Text}
use Rattle.tree_places.specs.Places.{Place, Site, named_by}
use Rattle.tree_places.specs.Scopes.{Scope, any_below}

pub record IsQuiet (s : Site) : Type 0 where
  pub not_private : s.private ≡ false
  pub no_var : is_var s.setting.role ≡ false
  pub joins : (is_joinable s ≡ true) ⊎ (declares s ≡ false)
  pub plain : is_sloppy_function s ≡ false
  pub outside : (refers s ≡ false) ⊎ (s.setting.heads ≡ [])

-- the same of places
abbrev pub AreQuiet : List Place → Type 0
AreQuiet ps = AllOf (λ (p : Place). IsQuiet p.site) ps

pub quiet_places : (ss : List Site) (xs : List Text) → AllOf IsQuiet ss → AreQuiet (named_by ss xs)
unfolding named_by
quiet_places [] xs a = tt
quiet_places (s ∷ ss) [] a = tt
quiet_places (s ∷ ss) (x ∷ xs) a = (a.0, quiet_places ss xs a.1)

-- ---- fault by fault

never : (a : Bool) → (a && false) ≡ false
never true = refl
never false = refl

never_between : (a b : Bool) → (a && false && b) ≡ false
never_between true b = refl
never_between false b = refl

-- two places of which one doesn't declare, or both may be joined
not_both : (a b c d : Bool) → (c ≡ true) ⊎ (a ≡ false) → (d ≡ true) ⊎ (b ≡ false) → (a && b && not (c && d)) ≡ false
not_both true true c d (inl h) (inl i) = rw (h, i) refl
not_both true true c d (inl h) (inr i) = absurd (cc)
not_both true true c d (inr h) i = absurd (cc)
not_both true false c d h i = refl
not_both false b c d h i = refl

joins_or_not : (s : Site) → (is_joinable s ≡ true) ⊎ (declares s ≡ false) → (is_joinable s ≡ true) ⊎ (declares_plainly s ≡ false)
unfolding declares_plainly
joins_or_not s (inl h) = inl h
joins_or_not s (inr h) = inr (rw h refl)

joins_or_elsewhere : (x : Text) (h : Scope) (q : Place) → (is_joinable q.site ≡ true) ⊎ (declares_plainly q.site ≡ false)
    → (is_joinable q.site ≡ true) ⊎ (declares_at same_name x h q ≡ false)
unfolding declares_at
joins_or_elsewhere x h q (inl i) = inl i
joins_or_elsewhere x h q (inr i) = inr (rw i refl)

none_redeclares : (p q : Place) → IsQuiet p.site → IsQuiet q.site → redeclares same_name p q ≡ false
unfolding redeclares
none_redeclares p q a b =
    not_both (declares_plainly p.site) (declares_at same_name p.name (home p.site) q) (is_joinable p.site) (is_joinable q.site)
    (joins_or_not p.site a.joins) (joins_or_elsewhere p.name (home p.site) q (joins_or_not q.site b.joins))

no_redeclaration : (ps : List Place) → AreQuiet ps → has_redeclaration same_name ps ≡ false
unfolding has_redeclaration
no_redeclaration [] a = refl
no_redeclaration (p ∷ ps) a =
    let here : list_any (redeclares same_name p) ps ≡ false =
    any_none (redeclares same_name p) ps (λ (q : Place) (i : In q ps). none_redeclares p q a.0 (of_each (λ (r : Place). IsQuiet r.site) ps q a.1 i)) in
    rw (here, no_redeclaration ps a.1) refl

none_crosses : (ps : List Place) (p : Place) → IsQuiet p.site → crosses same_name ps p ≡ false
unfolding crosses
none_crosses ps p a =
    rw a.no_var (never_between (declares p.site) (any_below (λ (s : Scope). list_any (is_single_at same_name p.name s) ps) (home p.site) p.site.setting.scope))

none_undeclared : (ps : List Place) (p : Place) → IsQuiet p.site → is_undeclared same_name ps p ≡ false
unfolding is_undeclared
none_undeclared ps p a = rw a.not_private refl

none_reaches : (bs : List (Bound Text)) (b : Bound Text) → IsQuiet b.place.site → reaches_body bs b ≡ false
unfolding reaches_body refers
none_reaches bs b a = go a.outside b.binding
  where
    go : (refers b.place.site ≡ false) ⊎ (b.place.site.setting.heads ≡ []) → (o : Option ℕ)
        → (refers b.place.site && elim o [ None ↦ false | Some n ↦ list_any (is_of_body bs n) b.place.site.setting.heads ]) ≡ false
    go (inl h) o = rw h refl
    go (inr h) None = never (refers b.place.site)
    go (inr h) (Some n) = rw h (never (refers b.place.site))

-- ---- all five

pub quiet_places_are_sound : (ps : List Place) → AreQuiet ps → has_fault same_name ps ≡ false
unfolding has_fault has_crossing has_sloppy_function has_undeclared has_reach bound
quiet_places_are_sound ps a =
    let quiet : (p : Place) → In p ps → IsQuiet p.site = λ (p : Place) (i : In p ps). of_each (λ (q : Place). IsQuiet q.site) ps p a i in
    let with_binding : Place → Bound Text = λ (p : Place). record { place = p; binding = binding same_name ps p } in
    let bs : List (Bound Text) = map with_binding ps in
    let crossing : list_any (crosses same_name ps) ps ≡ false = any_none (crosses same_name ps) ps (λ (p : Place) (i : In p ps). none_crosses ps p (quiet p i)) in
    let sloppy : list_any (λ (p : Place). is_sloppy_function p.site) ps ≡ false = any_none (λ (p : Place). is_sloppy_function p.site) ps (λ (p : Place) (i : In p ps). (quiet p i).plain) in
    let undeclared : list_any (is_undeclared same_name ps) ps ≡ false = any_none (is_undeclared same_name ps) ps (λ (p : Place) (i : In p ps). none_undeclared ps p (quiet p i)) in
    let reach : list_any (reaches_body bs) bs ≡ false =
    any_map with_binding (reaches_body bs) ps
    ∙ any_none (λ (p : Place). reaches_body bs (with_binding p)) ps (λ (p : Place) (i : In p ps). none_reaches bs (with_binding p) (quiet p i)) in
    rw (no_redeclaration ps a, crossing, sloppy, undeclared, reach) refl
