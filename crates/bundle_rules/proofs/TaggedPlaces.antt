-- The places of one module among those of others, under names with the module's number: each has the binding that it has alone, moved.
use Rattle.std.proofs.Common.{◌≡◌, ℕ, zero, suc, ◌+◌, Bool, true, false, cond, ◌&&◌, nat_eq, List, [], ◌∷◌, ◌++◌, map, Option, Some, None, option_map, find, IsTrue, refl, ap, ap₂, subst, ◌∙◌, arith}
use Rattle.std.proofs.lemmas.Bool.{and_left, and_parts, and_right, eq-eqb, eqb-true, or_parts}
use Rattle.std.specs.List.{list_any}
use Rattle.bundle_rules.specs.Moves.{Moves, moved_number, moved_scope, moved_site}
use Rattle.list_laws.proofs.AnyOf.{any_none}
use Rattle.list_laws.proofs.FirstOf.{find_map, find_past, find_same}
use Rattle.list_laws.proofs.Members.{In}
use Rattle.list_laws.proofs.Tests.{tests_agree}
use Rattle.scope_rules.proofs.SameNames.{same_name_tells}
use Rattle.scope_rules.specs.Bindings.{at_home, binder, binding, declares_at, names_function_at, node_of, or_else, plain_binder, same_name}
use Rattle.scope_rules.specs.Homes.{declares, declares_plainly, home, is_var, names_function, refers}
use Rattle.scope_rules.specs.Open.{all_open}
use Rattle.scope_rules.specs.PrivateNames.{declares_private_name, is_innermost, is_member_key, private_binder, private_binding}
use Rattle.scope_rules.specs.Renamings.{TellsSame}
use Rattle.tree_nodes.specs.Tree.{Text}
use Rattle.tree_places.proofs.Outwards.{same_scope_eq, same_scope_refl}
use Rattle.tree_places.specs.Places.{Named, Place, Site}
use Rattle.tree_places.specs.Scopes.{Scope, first_outwards, same_scope}

-- a name with the number of its module
abbrev pub Tagged : Type 0
Tagged = ℕ × Text

abbrev pub same_tagged : Tagged → Tagged → Bool
same_tagged a b = nat_eq a.0 b.0 && same_name a.1 b.1

pub tagged_tells : TellsSame same_tagged
tagged_tells a b = (to, from)
  where
    to : IsTrue (same_tagged a b) → a ≡ b
    to e = let p = and_parts _ _ e in ap₂ (λ (n : ℕ) (x : Text). (n, x)) (eqb-true _ _ p.0) ((same_name_tells a.1 b.1).0 p.1)

    from : a ≡ b → IsTrue (same_tagged a b)
    from e = subst (λ (c : Tagged). IsTrue (same_tagged a c)) e (ap₂ (λ (c d : Bool). c && d) (eq-eqb a.0 a.0 refl) ((same_name_tells a.1 a.1).1 refl))

abbrev pub tag : ℕ → Moves → Place → Named Tagged
tag i m p = record { site = moved_site m p.site; name = (i, p.name) }

-- ---- scopes that are moved are the same where they were

pub number_once : (d n k : ℕ) → moved_number d n ≡ moved_number d k → n ≡ k
number_once d zero zero e = refl
number_once d zero (suc k) e = absurd (omega (arith, e))
number_once d (suc n) zero e = absurd (omega (arith, e))
number_once d (suc n) (suc k) e = omega (arith, e)

scope_once : (d : ℕ) (s r : Scope) → moved_scope d s ≡ moved_scope d r → s ≡ r
scope_once d [] [] e = refl
scope_once d [] (k ∷ r) e = absurd (cc)
scope_once d (n ∷ s) [] e = absurd (cc)
scope_once d (n ∷ s) (k ∷ r) e =
    let h : moved_number d n ≡ moved_number d k = cc in
    let t : moved_scope d s ≡ moved_scope d r = cc in
    ap₂ (λ (a : ℕ) (q : Scope). a ∷ q) (number_once d n k h) (scope_once d s r t)

pub same_moved : (d : ℕ) (s r : Scope) → same_scope (moved_scope d s) (moved_scope d r) ≡ same_scope s r
same_moved d s r = tests_agree _ _
    (λ e. subst (λ (q : Scope). same_scope s q ≡ true) (scope_once d s r (same_scope_eq _ _ e)) (same_scope_refl s))
    (λ e. subst (λ (q : Scope). same_scope (moved_scope d s) (moved_scope d q) ≡ true) (same_scope_eq _ _ e) (same_scope_refl (moved_scope d s)))

pub home_moved : (m : Moves) (s : Site) → home (moved_site m s) ≡ moved_scope m.scopes (home s)
unfolding all_open
home_moved m s = go (is_var s.setting.role)
  where
    go : (b : Bool) → cond b (moved_scope m.scopes s.setting.var_scope) (moved_scope m.scopes s.setting.scope) ≡ moved_scope m.scopes (cond b s.setting.var_scope s.setting.scope)
    go true = refl
    go false = refl

-- ---- the first of a list in the middle of others

find_front : {X : Type 0} (t : X → Bool) (ys zs : List X) → list_any t zs ≡ false → find t (ys ++ zs) ≡ find t ys
find_front t [] [] e = refl
find_front t [] (z ∷ zs) e = let p = or_parts _ _ e in go (t z) p.0 (find_front t [] zs p.1)
  where
    go : (b : Bool) → b ≡ false → find t zs ≡ None → cond b (Some z) (find t zs) ≡ None
    go true h r = absurd (cc)
    go false h r = r
find_front t (y ∷ ys) zs e = ap (λ o. cond (t y) (Some y) o) (find_front t ys zs e)

find_middle : {X : Type 0} (t : X → Bool) (xs ys zs : List X) → list_any t xs ≡ false → list_any t zs ≡ false → find t (xs ++ (ys ++ zs)) ≡ find t ys
find_middle t xs ys zs e f = find_past t xs (ys ++ zs) e ∙ find_front t ys zs f

-- ---- one module among others

abbrev pub moved_node : Moves → Option ℕ → Option ℕ
moved_node m o = option_map (λ n. m.nodes + n) o

or_moved : (m : Moves) (a b : Option ℕ) → or_else (moved_node m a) (moved_node m b) ≡ moved_node m (or_else a b)
unfolding all_open
or_moved m None b = refl
or_moved m (Some n) b = refl

innermost_moved : (m : Moves) (c : ℕ) (ks : List ℕ) → is_innermost (m.bodies + c) (map (λ k. m.bodies + k) ks) ≡ is_innermost c ks
unfolding all_open
innermost_moved m c [] = refl
innermost_moved m c (k ∷ outer) = tests_agree _ _
    (λ e. eq-eqb _ _ (let f : m.bodies + k ≡ m.bodies + c = eqb-true _ _ e in omega (arith, f)))
    (λ e. eq-eqb _ _ (ap (λ (n : ℕ). m.bodies + n) (eqb-true _ _ e)))

module _ (i : ℕ) (m : Moves) (ps : List Place) (front back : List (Named Tagged)) (before : (q : Named Tagged) → In q front → nat_eq q.name.0 i ≡ false) (after : (q : Named Tagged) → In q back → nat_eq q.name.0 i ≡ false) where
  abbrev among : List (Named Tagged)
  among = front ++ (map (tag i m) ps ++ back)

  found : (t : Named Tagged → Bool) (u : Place → Bool) → ((q : Named Tagged) → nat_eq q.name.0 i ≡ false → t q ≡ false) → ((p : Place) → t (tag i m p) ≡ u p)
      → node_of (find t among) ≡ moved_node m (node_of (find u ps))
  unfolding all_open
  found t u others own =
      ap node_of (find_middle t front (map (tag i m) ps) back (any_none t front (λ q h. others q (before q h))) (any_none t back (λ q h. others q (after q h)))
      ∙ find_map (tag i m) t ps) ∙ ap (λ (o : Option Place). node_of (tagged o)) (find_same (λ p. t (tag i m p)) u ps (λ p h. own p)) ∙ last (find u ps)
    where
      tagged : Option Place → Option (Named Tagged)
      tagged o = elim o [ None ↦ None | Some x ↦ Some (tag i m x) ]

      last : (o : Option Place) → node_of (elim o as (λ _. Option (Named Tagged)) [ None ↦ None | Some x ↦ Some (tag i m x) ]) ≡ moved_node m (node_of o)
      last None = refl
      last (Some p) = refl

  named_here : (x y : Text) → same_tagged (i, x) (i, y) ≡ same_name x y
  named_here x y = ap (λ (b : Bool). b && same_name x y) (eq-eqb i i refl)

  pub at_home_moved : (x : Text) (h : Scope) (p : Place) → at_home same_tagged (i, x) (moved_scope m.scopes h) (tag i m p) ≡ at_home same_name x h p
  unfolding all_open
  at_home_moved x h p = ap₂ (λ (a b : Bool). a && b) (ap (λ (s : Scope). same_scope s (moved_scope m.scopes h)) (home_moved m p.site) ∙ same_moved m.scopes (home p.site) h) (named_here p.name x)

  plain_binder_moved : (x : Text) (h : Scope) → plain_binder same_tagged among (i, x) (moved_scope m.scopes h) ≡ moved_node m (plain_binder same_name ps x h)
  unfolding all_open
  plain_binder_moved x h = found (declares_at same_tagged (i, x) (moved_scope m.scopes h)) (declares_at same_name x h)
      (λ q e. and_right _ _ (and_right _ _ (and_left _ _ e))) (λ p. ap (λ (b : Bool). declares_plainly p.site && b) (at_home_moved x h p))

  binder_moved : (x : Text) (h : Scope) → binder same_tagged among (i, x) (moved_scope m.scopes h) ≡ moved_node m (binder same_name ps x h)
  unfolding all_open
  binder_moved x h =
      ap₂ or_else (plain_binder_moved x h)
      (found (names_function_at same_tagged (i, x) (moved_scope m.scopes h)) (names_function_at same_name x h)
      (λ q e. and_right _ _ (and_right _ _ (and_left _ _ e))) (λ p. ap (λ (b : Bool). names_function p.site && b) (at_home_moved x h p)))
      ∙ or_moved m _ _

  outwards_moved : (x : Text) (s : Scope) → first_outwards (binder same_tagged among (i, x)) (moved_scope m.scopes s) ≡ moved_node m (first_outwards (binder same_name ps x) s)
  unfolding all_open
  outwards_moved x [] = refl
  outwards_moved x (n ∷ s) = go (binder same_name ps x (n ∷ s)) (binder same_tagged among (i, x) (moved_scope m.scopes (n ∷ s))) (binder_moved x (n ∷ s)) (outwards_moved x s)
    where
      go : (o p : Option ℕ) → p ≡ moved_node m o → first_outwards (binder same_tagged among (i, x)) (moved_scope m.scopes s) ≡ moved_node m (first_outwards (binder same_name ps x) s)
          → elim p as (λ _. Option ℕ) [ Some k ↦ Some k | None ↦ first_outwards (binder same_tagged among (i, x)) (moved_scope m.scopes s) ]
          ≡ moved_node m (elim o as (λ _. Option ℕ) [ Some k ↦ Some k | None ↦ first_outwards (binder same_name ps x) s ])
      go None None e r = r
      go None (Some k) e r = absurd (cc)
      go (Some k) None e r = absurd (cc)
      go (Some k) (Some l) e r = e

  pub binding_moved : (p : Place) → binding same_tagged among (tag i m p) ≡ moved_node m (binding same_name ps p)
  unfolding all_open
  binding_moved p = go (refers p.site) (names_function p.site) (declares p.site) _ _ _ _
      (outwards_moved p.name p.site.setting.scope)
      (ap (plain_binder same_tagged among (i, p.name)) (home_moved m p.site) ∙ plain_binder_moved p.name (home p.site))
    where
      go : (a b c : Bool) (x y x' y' : Option ℕ) → x ≡ moved_node m x' → y ≡ moved_node m y'
          → cond a x (cond b (Some (m.nodes + p.site.node)) (cond c y None)) ≡ moved_node m (cond a x' (cond b (Some p.site.node) (cond c y' None)))
      go true b c x y x' y' e f = e
      go false true c x y x' y' e f = refl
      go false false true x y x' y' e f = f
      go false false false x y x' y' e f = refl

  -- ---- private names

  private_binder_moved : (x : Text) (cs : List ℕ) → private_binder same_tagged among (i, x) (map (λ c. m.bodies + c) cs) ≡ moved_node m (private_binder same_name ps x cs)
  unfolding all_open
  private_binder_moved x [] = refl
  private_binder_moved x (c ∷ cs) = go (node_of (find (declares_private_name same_name x c) ps)) (node_of (find (declares_private_name same_tagged (i, x) (m.bodies + c)) among))
      (found (declares_private_name same_tagged (i, x) (m.bodies + c)) (declares_private_name same_name x c) (λ q e. and_right _ _ (and_left _ _ e)) own) (private_binder_moved x cs)
    where
      own : (p : Place) → declares_private_name same_tagged (i, x) (m.bodies + c) (tag i m p) ≡ declares_private_name same_name x c p
      own p = ap₂ (λ (a b : Bool). p.site.private && is_member_key p.site.setting.role && a && b) (innermost_moved m c p.site.setting.classes) (named_here p.name x)

      go : (o q : Option ℕ) → q ≡ moved_node m o → private_binder same_tagged among (i, x) (map (λ k. m.bodies + k) cs) ≡ moved_node m (private_binder same_name ps x cs)
          → elim q as (λ _. Option ℕ) [ Some n ↦ Some n | None ↦ private_binder same_tagged among (i, x) (map (λ k. m.bodies + k) cs) ]
          ≡ moved_node m (elim o as (λ _. Option ℕ) [ Some n ↦ Some n | None ↦ private_binder same_name ps x cs ])
      go None None e r = r
      go None (Some k) e r = absurd (cc)
      go (Some k) None e r = absurd (cc)
      go (Some k) (Some l) e r = e

  pub private_binding_moved : (p : Place) → private_binding same_tagged among (tag i m p) ≡ moved_node m (private_binding same_name ps p)
  unfolding all_open
  private_binding_moved p = go p.site.private _ _ (private_binder_moved p.name p.site.setting.classes)
    where
      go : (b : Bool) (x x' : Option ℕ) → x ≡ moved_node m x' → cond b x None ≡ moved_node m (cond b x' None)
      go true x x' e = e
      go false x x' e = refl
