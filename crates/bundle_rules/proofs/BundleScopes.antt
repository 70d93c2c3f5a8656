-- Scopes of different modules: only the root is shared.
use Rattle.std.proofs.Common.{◌≡◌, ◌<◌, ◌≤◌, ℕ, zero, suc, ◌+◌, ◌-◌, Bool, true, false, List, [], ◌∷◌, length, Some, slice_get, refl, sym, ap, subst, ◌∙◌, arith, inl, inr, ◌⊎◌}
use Rattle.std.proofs.lemmas.Bool.{cases_order, or_cases}
use Rattle.std.proofs.lemmas.List.{length-reverse}
use Rattle.std.specs.List.{AllByRecursion}
use Rattle.bundle_rules.proofs.BundlePlaces.{moves_at}
use Rattle.bundle_rules.proofs.JoinedSites.{bare_seen, root_seen, statements_seen, top}
use Rattle.bundle_rules.proofs.MovedWalks.{moved_later}
use Rattle.bundle_rules.proofs.NewNamesApart.{Part}
use Rattle.bundle_rules.proofs.ScopesLie.{Later, Lies, LiesIn, walk_lies}
use Rattle.bundle_rules.specs.Joined.{body}
use Rattle.bundle_rules.specs.Moves.{IsBare, Moves, moved_number, moved_scope, moves_after}
use Rattle.list_laws.proofs.AllOf.{AllOf, AllOf_reverse, of_each}
use Rattle.list_laws.proofs.Members.{In}
use Rattle.list_laws.proofs.Tests.{some_one}
use Rattle.tree_nodes.proofs.Cases.{none_some}
use Rattle.scope_rules.specs.Homes.{home, is_var}
use Rattle.scope_rules.specs.Open.{all_open}
use Rattle.tree_nodes.specs.Tree.{Tree, alone}
use Rattle.tree_places.proofs.Outwards.{same_scope_eq}
use Rattle.tree_places.specs.Places.{Seen, Site, scopes, seen, sites}
use Rattle.tree_places.specs.Scopes.{Scope, is_inside, same_scope}

-- ---- one module

abbrev pub scopes_in : Tree → ℕ
scopes_in t = length (scopes (alone t))

sites_lie : (t : Tree) → IsBare t → AllOf (λ s. LiesIn (scopes_in t) s.setting) (sites (alone t))
unfolding all_open statements_seen
sites_lie t b =
    let after : Seen = statements_seen (body t) in
    let own : seen (alone t) ≡ after = bare_seen t b in
    let lie : Later root_seen after = walk_lies (body t) _ top root_seen (record { scope = refl; var_scope = refl }) (record { scope = refl; var_scope = refl }) (record { root = omega arith; placed = tt }) in
    let many : length after.scopes ≡ scopes_in t = sym (length-reverse (seen (alone t)).scopes ∙ ap (λ (q : Seen). length q.scopes) own) in
    let placed : AllOf (λ (s : Site). LiesIn (scopes_in t) s.setting) after.sites = subst (λ (n : ℕ). AllOf (λ (s : Site). LiesIn n s.setting) after.sites) many lie.lie.placed in
    AllOf_reverse (λ (s : Site). LiesIn (scopes_in t) s.setting) (seen (alone t)).sites (subst (λ (q : Seen). AllOf (λ (s : Site). LiesIn (scopes_in t) s.setting) q.sites) (sym own) placed)

pub scope_lies : (t : Tree) → IsBare t → (s : Site) → In s (sites (alone t)) → Lies (scopes_in t) s.setting.scope
scope_lies t b s i = (of_each (λ (q : Site). LiesIn (scopes_in t) q.setting) (sites (alone t)) s (sites_lie t b) i).scope

pub home_lies : (t : Tree) → IsBare t → (s : Site) → In s (sites (alone t)) → Lies (scopes_in t) (home s)
unfolding all_open
home_lies t b s i = go (is_var s.setting.role) (of_each (λ (q : Site). LiesIn (scopes_in t) q.setting) (sites (alone t)) s (sites_lie t b) i)
  where
    go : (v : Bool) → LiesIn (scopes_in t) s.setting → Lies (scopes_in t) (Rattle.std.specs.Prelude.cond v s.setting.var_scope s.setting.scope)
    go true l = l.var_scope
    go false l = l.scope

-- ---- moved

-- 0, or past lo and up to hi
abbrev pub Between : ℕ → ℕ → ℕ → Type 0
Between lo hi n = (n ≡ 0) ⊎ ((lo < n) × (n ≤ hi))

between : (d k : ℕ) (s : Scope) → Lies k s → AllOf (Between d (d + (k - 1))) (moved_scope d s)
between d k [] l = absurd l
between d k (n ∷ []) l = (inl (ap (moved_number d) l), tt)
between d k (n ∷ m ∷ s) l =
    let low : 1 ≤ n = l.0 in
    let high : n < k = l.1 in
    let at : moved_number d n ≡ d + n = moved_later d n low in
    (inr (omega (arith, at, low), omega (arith, at, low, high)), between d k (m ∷ s) l.2)

-- a scope that was moved is the root's, or begins with a number past 0
data Begins (s : Scope) : Type 0 where
  at_root : s ≡ 0 ∷ [] → Begins s
  further : (n : ℕ) (outer : Scope) → s ≡ n ∷ outer → 1 ≤ n → Begins s

begins : (d k : ℕ) (s : Scope) → Lies k s → Begins (moved_scope d s)
begins d k [] l = absurd l
begins d k (n ∷ []) l = at_root (ap (λ (i : ℕ). moved_number d i ∷ []) l)
begins d k (n ∷ m ∷ s) l = further (moved_number d n) (moved_scope d (m ∷ s)) refl (omega (arith, moved_later d n l.0, l.0))

inside_in : (s : Scope) (n : ℕ) (h : Scope) → is_inside s (n ∷ h) ≡ true → In n s
unfolding all_open
inside_in [] n h e = absurd (Rattle.std.proofs.lemmas.Bool.both_ways false refl e)
inside_in (k ∷ s) n h e = go (or_cases _ _ e) (inside_in s n h)
  where
    go : (same_scope (k ∷ s) (n ∷ h) ≡ true) ⊎ (is_inside s (n ∷ h) ≡ true) → (is_inside s (n ∷ h) ≡ true → In n s) → In n (k ∷ s)
    go (inl p) ih = inl (let q : k ∷ s ≡ n ∷ h = same_scope_eq (k ∷ s) (n ∷ h) p in cc)
    go (inr p) ih = inr (ih p)

-- where a scope of one module lies in one of another, the latter is the root
pub shared_root : (d k e j : ℕ) (s h : Scope) → Lies k s → Lies j h → (d + (k - 1) ≤ e) ⊎ (e + (j - 1) ≤ d) → is_inside (moved_scope d s) (moved_scope e h) ≡ true → moved_scope e h ≡ 0 ∷ []
shared_root d k e j s h ls lh apart inside = go (begins e j h lh)
  where
    clash : (n : ℕ) → 1 ≤ n → Between d (d + (k - 1)) n → Between e (e + (j - 1)) n → (d + (k - 1) ≤ e) ⊎ (e + (j - 1) ≤ d) → ⊥
    clash n l (inl p) b o = omega (arith, l, p)
    clash n l (inr p) (inl q) o = omega (arith, l, q)
    clash n l (inr p) (inr q) (inl o) = omega (arith, p.0, p.1, q.0, q.1, o)
    clash n l (inr p) (inr q) (inr o) = omega (arith, p.0, p.1, q.0, q.1, o)

    go : Begins (moved_scope e h) → moved_scope e h ≡ 0 ∷ []
    go (at_root p) = p
    go (further n outer p l) =
        let in_s : In n (moved_scope d s) = inside_in (moved_scope d s) n outer (subst (λ (r : Scope). is_inside (moved_scope d s) r ≡ true) p inside) in
        let in_h : In n (moved_scope e h) = subst (In n) (sym p) (inl refl) in
        absurd (clash n l (of_each (Between d (d + (k - 1))) (moved_scope d s) n (between d k s ls) in_s) (of_each (Between e (e + (j - 1))) (moved_scope e h) n (between e j h lh) in_h) apart)

-- ---- modules in turn have their own numbers

moves_more : (m : Moves) (ds : List Part) (k : ℕ) → m.scopes ≤ (moves_at m ds k).scopes
unfolding moves_after
moves_more m [] k = omega arith
moves_more m (d ∷ ds) zero = omega arith
moves_more m (d ∷ ds) (suc k) = omega (arith, moves_more (moves_after m d.tree) ds k)

moves_rise : (m : Moves) (ds : List Part) (k j : ℕ) (d : Part) → k < j → slice_get ds k ≡ Some d → (moves_at m ds k).scopes + (scopes_in d.tree - 1) ≤ (moves_at m ds j).scopes
unfolding moves_after
moves_rise m [] k j d l e = none_some d e
moves_rise m (f ∷ ds) k zero d l e = absurd (omega (arith, l))
moves_rise m (f ∷ ds) zero (suc j) d l e =
    subst (λ (g : Part). m.scopes + (scopes_in g.tree - 1) ≤ (moves_at (moves_after m f.tree) ds j).scopes) (some_one f d e) (moves_more (moves_after m f.tree) ds j)
moves_rise m (f ∷ ds) (suc k) (suc j) d l e = moves_rise (moves_after m f.tree) ds k j d (omega (arith, l)) e

pub moves_apart : (m : Moves) (ds : List Part) (k j : ℕ) (d f : Part) → (k ≡ j → ⊥) → slice_get ds k ≡ Some d → slice_get ds j ≡ Some f
    → ((moves_at m ds k).scopes + (scopes_in d.tree - 1) ≤ (moves_at m ds j).scopes) ⊎ ((moves_at m ds j).scopes + (scopes_in f.tree - 1) ≤ (moves_at m ds k).scopes)
moves_apart m ds k j d f n e g = go (cases_order k j)
  where
    go : (k ≡ j) ⊎ ((k < j) ⊎ (j < k))
        → ((moves_at m ds k).scopes + (scopes_in d.tree - 1) ≤ (moves_at m ds j).scopes) ⊎ ((moves_at m ds j).scopes + (scopes_in f.tree - 1) ≤ (moves_at m ds k).scopes)
    go (inl p) = absurd (n p)
    go (inr (inl p)) = inl (moves_rise m ds k j d p e)
    go (inr (inr p)) = inr (moves_rise m ds j k f p g)
