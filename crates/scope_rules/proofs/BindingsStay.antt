-- Where new names keep apart what the old ones did, each place has the binding that it had.
use Rattle.std.specs.Prelude.{◌≡◌, ◌⊎◌, ℕ, Bool, true, false, not, ◌&&◌, List, [], ◌∷◌, map, find, Option, Some, None}
use Rattle.std.proofs.Common.{refl, sym, ap, ◌∙◌, subst, inl, inr}
use Rattle.std.proofs.lemmas.Bool.{or_cases, or_left, or_right, and_parts, and_from, both_ways, eq-eqb}
use Rattle.std.proofs.lemmas.Simd.{map-map}
use Rattle.list_laws.proofs.AnyOf.{any_from}
use Rattle.list_laws.proofs.FirstOf.{First, find_first, find_map, find_none, find_same_first}
use Rattle.list_laws.proofs.Mapped.{map_same}
use Rattle.list_laws.proofs.Members.{In, contains_from_in, in_from_Contains}
use Rattle.list_laws.proofs.Tests.{none_some, some_one, tested, told}
use Rattle.tree_nodes.specs.declared.table.Role.{Role}
use Rattle.tree_nodes.specs.declared.table.Role.TheVariants.{Called, Declares, MemberKey, Plain, Read, ReadWrite, Write}
use Rattle.tree_places.proofs.Outwards.{inside_parent, inside_refl, same_scope_eq, same_scope_refl}
use Rattle.tree_places.specs.Places.{Named, Site}
use Rattle.tree_places.specs.Scopes.{Scope, first_outwards, is_inside, same_scope}
use Rattle.scope_rules.proofs.PlacesRise.{one_place}
use Rattle.scope_rules.specs.Bindings.{at_home, binder, binding, bindings, declares_at, is_node, names_function_at, node, node_of, or_else, plain_binder}
use Rattle.scope_rules.specs.Homes.{declares, declares_plainly, home, is_declaring, is_function_name, is_reference, names_function, refers}
use Rattle.scope_rules.specs.Open.{all_open}
use Rattle.scope_rules.specs.Renamings.{IsBindingOf, KeepsApart, TellsSame, all_under, is_bound_inside, is_live_in, under}

-- ---- what a site may be

role_one : (r : Role) → is_declaring r ≡ true → is_reference r ≡ false
unfolding all_open
role_one (Declares d) h = refl
role_one Plain h = refl
role_one MemberKey h = refl
role_one Read h = absurd (both_ways false refl h)
role_one Write h = absurd (both_ways false refl h)
role_one ReadWrite h = absurd (both_ways false refl h)
role_one Called h = absurd (both_ways false refl h)

and_false : (a b c : Bool) → (b ≡ true → c ≡ false) → (a && b) ≡ true → (a && c) ≡ false
and_false true b c f h = f h
and_false false b c f h = refl

-- what declares doesn't refer
pub declares_one : (s : Site) → declares s ≡ true → refers s ≡ false
unfolding all_open
declares_one s h = and_false (not s.private) (is_declaring s.setting.role) (is_reference s.setting.role) (role_one s.setting.role) h

pub plainly : (s : Site) → declares_plainly s ≡ true → (declares s ≡ true) × (names_function s ≡ false)
unfolding all_open
plainly s h = (let p : (declares s ≡ true) × (not (is_function_name s.setting.role) ≡ true) = and_parts _ _ h in (p.0, rw p.0 (flip (is_function_name s.setting.role) p.1)))
  where
    flip : (b : Bool) → not b ≡ true → b ≡ false
    flip true e = sym e
    flip false e = refl

pub names_declares : (s : Site) → names_function s ≡ true → declares s ≡ true
unfolding all_open
names_declares s h = (and_parts _ _ h).0

pub declares_plain : (s : Site) → declares s ≡ true → names_function s ≡ false → declares_plainly s ≡ true
unfolding all_open
declares_plain s d f = rw d (flip (is_function_name s.setting.role) (rest (declares s) (is_function_name s.setting.role) d f))
  where
    flip : (b : Bool) → b ≡ false → not b ≡ true
    flip true e = sym e
    flip false e = refl

    rest : (a b : Bool) → a ≡ true → (a && b) ≡ false → b ≡ false
    rest true b e h = h
    rest false b e h = absurd (both_ways false refl e)

-- ---- what binders find

module _ {N : Type 0} (same : N → N → Bool) (tells : TellsSame same) (ps : List (Named N)) where
  pub same_self : (x : N) → same x x ≡ true
  same_self x = (tells x x).1 refl

  pub record At (x : N) (h : Scope) (c : Named N) : Type 0 where
    pub among : In c ps
    pub homed : home c.site ≡ h
    pub named : c.name ≡ x

  at_from : (x : N) (h : Scope) (c : Named N) → In c ps → at_home same x h c ≡ true → At x h c
  unfolding all_open
  at_from x h c i e =
      let two : (same_scope (home c.site) h ≡ true) × (same c.name x ≡ true) = and_parts _ _ e in
      record { among = i; homed = same_scope_eq (home c.site) h two.0; named = (tells c.name x).0 two.1 }

  at_to : (x : N) (h : Scope) (c : Named N) → home c.site ≡ h → c.name ≡ x → at_home same x h c ≡ true
  unfolding all_open
  at_to x h c e n = and_from _ _ (subst (λ (s : Scope). same_scope (home c.site) s ≡ true) e (same_scope_refl (home c.site))) ((tells c.name x).1 n)

  pub plain_at : (x : N) (h : Scope) (c : Named N) → In c ps → declares_at same x h c ≡ true → (declares_plainly c.site ≡ true) × At x h c
  unfolding all_open
  plain_at x h c i e = let two : (declares_plainly c.site ≡ true) × (at_home same x h c ≡ true) = and_parts _ _ e in (two.0, at_from x h c i two.1)

  pub plain_to : (x : N) (h : Scope) (c : Named N) → declares_plainly c.site ≡ true → home c.site ≡ h → c.name ≡ x → declares_at same x h c ≡ true
  unfolding all_open
  plain_to x h c d e n = and_from _ _ d (at_to x h c e n)

  pub function_at : (x : N) (h : Scope) (c : Named N) → In c ps → names_function_at same x h c ≡ true → (names_function c.site ≡ true) × At x h c
  unfolding all_open
  function_at x h c i e = let two : (names_function c.site ≡ true) × (at_home same x h c ≡ true) = and_parts _ _ e in (two.0, at_from x h c i two.1)

  pub function_to : (x : N) (h : Scope) (c : Named N) → names_function c.site ≡ true → home c.site ≡ h → c.name ≡ x → names_function_at same x h c ≡ true
  unfolding all_open
  function_to x h c d e n = and_from _ _ d (at_to x h c e n)

  -- ---- bindings of what declares

  pub binding_plain : (q : Named N) → declares_plainly q.site ≡ true → binding same ps q ≡ plain_binder same ps q.name (home q.site)
  unfolding all_open
  binding_plain q d = let two : (declares q.site ≡ true) × (names_function q.site ≡ false) = plainly q.site d in rw (declares_one q.site two.0, two.1, two.0) refl

  pub binding_function : (q : Named N) → names_function q.site ≡ true → binding same ps q ≡ Some (node q)
  unfolding all_open
  binding_function q f = rw (declares_one q.site (names_declares q.site f), f) refl

  pub binding_refers : (q : Named N) → refers q.site ≡ true → binding same ps q ≡ first_outwards (binder same ps q.name) q.site.setting.scope
  unfolding all_open
  binding_refers q r = rw r refl

  -- the first that declares a name in a home plainly is its own binding
  pub first_own : (x : N) (h : Scope) (c : Named N) → find (declares_at same x h) ps ≡ Some c → IsBindingOf same ps c × (declares_plainly c.site ≡ true) × At x h c
  unfolding all_open
  first_own x h c e =
      let f : First (declares_at same x h) ps c = find_first (declares_at same x h) ps c e in
      let a : (declares_plainly c.site ≡ true) × At x h c = plain_at x h c f.among f.passes in
      let again : find (declares_at same c.name (home c.site)) ps ≡ Some c = subst (λ (y : N). find (declares_at same y (home c.site)) ps ≡ Some c) (sym a.1.named) (subst (λ (s : Scope). find (declares_at same x s) ps ≡ Some c) (sym a.1.homed) e) in
      (record { among = contains_from_in ps c f.among; declares = (plainly c.site a.0).0; own = binding_plain c a.0 ∙ ap node_of again }, a.0, a.1)

  function_own : (c : Named N) → In c ps → names_function c.site ≡ true → IsBindingOf same ps c
  unfolding all_open
  function_own c i f = record { among = contains_from_in ps c i; declares = names_declares c.site f; own = binding_function c f }

  -- the binding of what declares
  pub record Owner (q c : Named N) : Type 0 where
    pub is : IsBindingOf same ps c
    pub bound : binding same ps q ≡ Some (node c)
    pub homed : home c.site ≡ home q.site
    pub named : c.name ≡ q.name

  plain_owner : (q : Named N) → In q ps → declares_plainly q.site ≡ true → (c : Named N) × Owner q c
  unfolding all_open
  plain_owner q i d = told (find (declares_at same q.name (home q.site)) ps)
      (λ n. absurd (find_none (declares_at same q.name (home q.site)) ps q n i (plain_to q.name (home q.site) q d refl refl)))
      (λ c e. let o : IsBindingOf same ps c × (declares_plainly c.site ≡ true) × At q.name (home q.site) c = first_own q.name (home q.site) c e in
      (c, record { is = o.0; bound = binding_plain q d ∙ ap node_of e; homed = o.2.homed; named = o.2.named }))

  pub owner : (q : Named N) → In q ps → declares q.site ≡ true → (c : Named N) × Owner q c
  unfolding all_open
  owner q i d = tested (names_function q.site)
      (λ f. (q, record { is = function_own q i f; bound = binding_function q f; homed = refl; named = refl }))
      (λ f. plain_owner q i (declares_plain q.site d f))

  -- ---- and of references: the binder of a scope, and the nearest one that has one

  pub binder_source : (x : N) (h : Scope) (n : ℕ) → binder same ps x h ≡ Some n → (b : Named N) × (node b ≡ n) × IsBindingOf same ps b × At x h b
  unfolding all_open
  binder_source x h n e = told (find (declares_at same x h) ps)
      (λ no. told (find (names_function_at same x h) ps)
      (λ none. absurd (none_some n (sym (ap (λ o. or_else (node_of o) (node_of (find (names_function_at same x h) ps))) no ∙ ap node_of none) ∙ e)))
      (λ c f. let g : First (names_function_at same x h) ps c = find_first (names_function_at same x h) ps c f in
      let a : (names_function c.site ≡ true) × At x h c = function_at x h c g.among g.passes in
      (c, some_one (node c) n (sym (ap (λ o. or_else (node_of o) (node_of (find (names_function_at same x h) ps))) no ∙ ap node_of f) ∙ e), function_own c g.among a.0, a.1)))
      (λ c f. let o : IsBindingOf same ps c × (declares_plainly c.site ≡ true) × At x h c = first_own x h c f in
      (c, some_one (node c) n (sym (ap (λ q. or_else (node_of q) (node_of (find (names_function_at same x h) ps))) f) ∙ e), o.0, o.2))

  pub outwards_source : (x : N) (s : Scope) (n : ℕ) → first_outwards (binder same ps x) s ≡ Some n
      → (b : Named N) × (node b ≡ n) × IsBindingOf same ps b × At x (home b.site) b × (is_inside s (home b.site) ≡ true)
  unfolding all_open
  outwards_source x [] n e = absurd (none_some n e)
  outwards_source x (k ∷ ks) n e = told (binder same ps x (k ∷ ks))
      (λ no. let r : (b : Named N) × (node b ≡ n) × IsBindingOf same ps b × At x (home b.site) b × (is_inside ks (home b.site) ≡ true) = outwards_source x ks n (sym (ap (outer x k ks) no) ∙ e) in
      (r.0, r.1, r.2, r.3, or_right _ _ r.4))
      (λ m yes. let r : (b : Named N) × (node b ≡ m) × IsBindingOf same ps b × At x (k ∷ ks) b = binder_source x (k ∷ ks) m yes in
      let same_number : m ≡ n = some_one m n (sym (ap (outer x k ks) yes) ∙ e) in (
        r.0,
        r.1 ∙ same_number,
        r.2,
        record { among = r.3.among; homed = refl; named = r.3.named },
        subst (λ (h : Scope). is_inside (k ∷ ks) h ≡ true) (sym r.3.homed) (inside_refl (k ∷ ks)),
      ))
    where
      outer : N → ℕ → Scope → Option ℕ → Option ℕ
      outer x k ks o = elim o [ Some m ↦ Some m | None ↦ first_outwards (binder same ps x) ks ]

module _ {N : Type 0} (same : N → N → Bool) (tells : TellsSame same) (ps : List (Named N)) where
  -- where a binding comes from
  pub binding_source : (p : Named N) → In p ps → (n : ℕ) → binding same ps p ≡ Some n → (b : Named N) × (node b ≡ n) × IsBindingOf same ps b × (b.name ≡ p.name)
  unfolding all_open
  binding_source p i n e = tested (refers p.site)
      (λ r. let s : (b : Named N) × (node b ≡ n) × IsBindingOf same ps b × At same tells ps p.name (home b.site) b × (is_inside p.site.setting.scope (home b.site) ≡ true) =
      outwards_source same tells ps p.name p.site.setting.scope n (sym (binding_refers same tells ps p r) ∙ e) in
      (s.0, s.1, s.2, s.3.named))
      (λ r. tested (declares p.site)
      (λ d. let c : (b : Named N) × Owner same tells ps p b = owner same tells ps p i d in
      (c.0, some_one (node c.0) n (sym c.1.bound ∙ e), c.1.is, c.1.named))
      (λ d. absurd (none_some n (sym (nothing p.site r d p refl) ∙ e))))
    where
      nothing : (s : Site) → refers s ≡ false → declares s ≡ false → (q : Named N) → q.site ≡ s → binding same ps q ≡ None
      nothing s r d q w = rw (w, r, d) refl

  -- what a scope outwards binds, where nothing is found
  nothing_outwards : (x : N) (h : Scope) → (h ≡ [] → ⊥) → (s : Scope) → first_outwards (binder same ps x) s ≡ None → is_inside s h ≡ true → binder same ps x h ≡ None
  unfolding all_open
  nothing_outwards x h root [] e inside = absurd (root (sym (same_scope_eq [] h inside)))
  nothing_outwards x h root (k ∷ ks) e inside = told (binder same ps x (k ∷ ks))
      (λ none. go none (or_cases _ _ inside) (nothing_outwards x h root ks (sym (ap further none) ∙ e)))
      (λ m f. absurd (none_some m (sym e ∙ ap further f)))
    where
      further : Option ℕ → Option ℕ
      further o = elim o [ Some j ↦ Some j | None ↦ first_outwards (binder same ps x) ks ]

      go : binder same ps x (k ∷ ks) ≡ None → (same_scope (k ∷ ks) h ≡ true) ⊎ (is_inside ks h ≡ true) → (is_inside ks h ≡ true → binder same ps x h ≡ None) → binder same ps x h ≡ None
      go none (inl q) ih = subst (λ (r : Scope). binder same ps x r ≡ None) (same_scope_eq (k ∷ ks) h q) none
      go none (inr q) ih = ih q

  pub binds : (b : Named N) → In b ps → declares b.site ≡ true → binder same ps b.name (home b.site) ≡ None → ⊥
  unfolding all_open
  binds b i d e = told (find (declares_at same b.name (home b.site)) ps)
      (λ none. told (find (names_function_at same b.name (home b.site)) ps)
      (λ nor. tested (names_function b.site)
      (λ f. find_none (names_function_at same b.name (home b.site)) ps b nor i (function_to same tells ps b.name (home b.site) b f refl refl))
      (λ f. find_none (declares_at same b.name (home b.site)) ps b none i (plain_to same tells ps b.name (home b.site) b (declares_plain b.site d f) refl refl)))
      (λ c g. none_some (node c) (sym e ∙ ap (λ o. or_else (node_of o) (node_of (find (names_function_at same b.name (home b.site)) ps))) none ∙ ap node_of g)))
      (λ c g. none_some (node c) (sym e ∙ ap (λ o. or_else (node_of o) (node_of (find (names_function_at same b.name (home b.site)) ps))) g))

  -- a reference without a binding lies in no home where its name is declared
  pub unbound_nothing : (p b : Named N) → refers p.site ≡ true → binding same ps p ≡ None → In b ps → declares b.site ≡ true → (home b.site ≡ [] → ⊥) → is_inside p.site.setting.scope (home b.site) ≡ true → b.name ≡ p.name → ⊥
  unfolding all_open
  unbound_nothing p b r e i d root inside n =
      binds b i d (subst (λ (x : N). binder same ps x (home b.site) ≡ None) (sym n)
      (nothing_outwards p.name (home b.site) root p.site.setting.scope (sym (binding_refers same tells ps p r) ∙ e) inside))

-- ---- two columns of names

module _ {A B : Type 0} (same : A → A → Bool) (same' : B → B → Bool) (tells : TellsSame same) (tells' : TellsSame same')
    (ps : List (Named A)) (new : Named A → B) (k : KeepsApart same ps new) where
  -- the binding's new name is that of each of its places
  named_so : (p b : Named A) → In p ps → In b ps → binding same ps p ≡ Some (node b) → new p ≡ new b
  named_so p b i j e = k.constant p b (contains_from_in ps p i) (contains_from_in ps b j) e

  -- what declares, in a home where the binding b is live, and has the new name of b, had the name of b
  pub was_named : (b q : Named A) → IsBindingOf same ps b → In q ps → declares q.site ≡ true → is_live_in same ps b (home q.site) ≡ true → new q ≡ new b → q.name ≡ b.name
  unfolding all_open
  was_named b q ib i d live e =
      let c : (c : Named A) × Owner same tells ps q c = owner same tells ps q i d in
      let n : new q ≡ new c.0 = named_so q c.0 i (in_from_Contains ps c.0 c.1.is.among) c.1.bound in
      sym c.1.named ∙ sym (k.no_new_equality b c.0 ib c.1.is (subst (λ (s : Scope). is_live_in same ps b s ≡ true) (sym c.1.homed) live) (sym e ∙ n))

  -- what the new names find in a scope h where b is live: the first of them is b's own, if there is one
  find_plain : (b : Named A) (x : A) (y : B) (h : Scope) → IsBindingOf same ps b → b.name ≡ x → y ≡ new b → is_live_in same ps b h ≡ true
      → ((c : Named A) → find (declares_at same x h) ps ≡ Some c → node c ≡ node b)
      → find (λ q. declares_at same' y h (under new q)) ps ≡ find (declares_at same x h) ps
  unfolding all_open
  find_plain b x y h ib n m live first = find_same_first (declares_at same x h) (λ q. declares_at same' y h (under new q)) ps
      (λ q i e.
      let two : (declares_plainly q.site ≡ true) × (at_home same' y h (under new q) ≡ true) = and_parts _ _ e in
      let both : (same_scope (home q.site) h ≡ true) × (same' (new q) y ≡ true) = and_parts _ _ two.1 in
      let at : home q.site ≡ h = same_scope_eq (home q.site) h both.0 in
      plain_to same tells ps x h q two.0 at
      (was_named b q ib i (plainly q.site two.0).0 (subst (λ (s : Scope). is_live_in same ps b s ≡ true) (sym at) live) ((tells' (new q) y).0 both.1 ∙ m) ∙ n))
      (λ c f.
      let g : First (declares_at same x h) ps c = find_first (declares_at same x h) ps c f in
      let a : (declares_plainly c.site ≡ true) × At same tells ps x h c = plain_at same tells ps x h c g.among g.passes in
      let own : binding same ps c ≡ Some (node c) = (first_own same tells ps x h c f).0.own in
      let e : new c ≡ new b = named_so c b g.among (in_from_Contains ps b ib.among) (own ∙ ap Some (first c f)) in
      and_from _ _ a.0 (and_from _ _ (subst (λ (s : Scope). same_scope (home c.site) s ≡ true) a.1.homed (same_scope_refl (home c.site))) ((tells' (new c) y).1 (e ∙ sym m))))

  find_function : (b : Named A) (x : A) (y : B) (h : Scope) → IsBindingOf same ps b → b.name ≡ x → y ≡ new b → is_live_in same ps b h ≡ true
      → ((c : Named A) → find (names_function_at same x h) ps ≡ Some c → node c ≡ node b)
      → find (λ q. names_function_at same' y h (under new q)) ps ≡ find (names_function_at same x h) ps
  unfolding all_open
  find_function b x y h ib n m live first = find_same_first (names_function_at same x h) (λ q. names_function_at same' y h (under new q)) ps
      (λ q i e.
      let two : (names_function q.site ≡ true) × (at_home same' y h (under new q) ≡ true) = and_parts _ _ e in
      let both : (same_scope (home q.site) h ≡ true) × (same' (new q) y ≡ true) = and_parts _ _ two.1 in
      let at : home q.site ≡ h = same_scope_eq (home q.site) h both.0 in
      function_to same tells ps x h q two.0 at
      (was_named b q ib i (names_declares q.site two.0) (subst (λ (s : Scope). is_live_in same ps b s ≡ true) (sym at) live) ((tells' (new q) y).0 both.1 ∙ m) ∙ n))
      (λ c f.
      let g : First (names_function_at same x h) ps c = find_first (names_function_at same x h) ps c f in
      let a : (names_function c.site ≡ true) × At same tells ps x h c = function_at same tells ps x h c g.among g.passes in
      let e : new c ≡ new b = named_so c b g.among (in_from_Contains ps b ib.among) (binding_function same tells ps c a.0 ∙ ap Some (first c f)) in
      and_from _ _ a.0 (and_from _ _ (subst (λ (s : Scope). same_scope (home c.site) s ≡ true) a.1.homed (same_scope_refl (home c.site))) ((tells' (new c) y).1 (e ∙ sym m))))

  -- a place that is found stands under its new name
  node_under : (o : Option (Named A)) → node_of (elim o as (λ q. Option (Named B)) [ None ↦ None | Some p ↦ Some (under new p) ]) ≡ node_of o
  unfolding all_open
  node_under None = refl
  node_under (Some p) = refl

  node_find : (test : Named B → Bool) → node_of (find test (map (under new) ps)) ≡ node_of (find (λ q. test (under new q)) ps)
  unfolding all_open
  node_find test = ap node_of (find_map (under new) test ps) ∙ node_under (find (λ q. test (under new q)) ps)

  plain_same : (b : Named A) (x : A) (y : B) (h : Scope) → IsBindingOf same ps b → b.name ≡ x → y ≡ new b → is_live_in same ps b h ≡ true
      → ((c : Named A) → find (declares_at same x h) ps ≡ Some c → node c ≡ node b)
      → plain_binder same' (map (under new) ps) y h ≡ plain_binder same ps x h
  unfolding all_open
  plain_same b x y h ib n m live first = node_find (declares_at same' y h) ∙ ap node_of (find_plain b x y h ib n m live first)

  -- what a scope where b is live binds: b, or nothing
  binder_same : (b : Named A) (x : A) (y : B) (h : Scope) → IsBindingOf same ps b → b.name ≡ x → y ≡ new b → is_live_in same ps b h ≡ true
      → ((n : ℕ) → binder same ps x h ≡ Some n → n ≡ node b)
      → binder same' (map (under new) ps) y h ≡ binder same ps x h
  unfolding all_open
  binder_same b x y h ib n m live only =
      ap (λ o. or_else o (node_of (find (names_function_at same' y h) (map (under new) ps))))
      (plain_same b x y h ib n m live (λ c f. only (node c) (ap (λ o. or_else (node_of o) (node_of (find (names_function_at same x h) ps))) f)))
      ∙ told (find (declares_at same x h) ps)
      (λ none. ap (or_else (plain_binder same ps x h)) (node_find (names_function_at same' y h) ∙ ap node_of (find_function b x y h ib n m live
      (λ c f. only (node c) (ap (λ o. or_else (node_of o) (node_of (find (names_function_at same x h) ps))) none ∙ ap node_of f)))))
      (λ c f. ap (λ o. or_else (node_of o) (node_of (find (names_function_at same' y h) (map (under new) ps)))) f
      ∙ sym (ap (λ o. or_else (node_of o) (node_of (find (names_function_at same x h) ps))) f))

  -- ---- a reference with a binding

  abbrev outer : (Scope → Option ℕ) → Scope → Option ℕ → Option ℕ
  outer f ks o = elim o [ Some m ↦ Some m | None ↦ first_outwards f ks ]

  bound_stays : (p b : Named A) → In p ps → IsBindingOf same ps b → binding same ps p ≡ Some (node b) → b.name ≡ p.name → new p ≡ new b
      → (s : Scope) → is_inside p.site.setting.scope s ≡ true → first_outwards (binder same ps p.name) s ≡ Some (node b)
      → first_outwards (binder same' (map (under new) ps) (new p)) s ≡ first_outwards (binder same ps p.name) s
  unfolding all_open
  bound_stays p b i ib e n m [] inside f = refl
  bound_stays p b i ib e n m (h ∷ hs) inside f =
      let source : (c : Named A) × (node c ≡ node b) × IsBindingOf same ps c × At same tells ps p.name (home c.site) c × (is_inside (h ∷ hs) (home c.site) ≡ true) = outwards_source same tells ps p.name (h ∷ hs) (node b) f in
      let is_b : source.0 ≡ b = one_place 0 ps source.0 b k.in_order source.3.among (in_from_Contains ps b ib.among) source.1 in
      let within : is_inside (h ∷ hs) (home b.site) ≡ true = subst (λ (c : Named A). is_inside (h ∷ hs) (home c.site) ≡ true) is_b source.4 in
      let reached : is_bound_inside same ps b (h ∷ hs) ≡ true = any_from (λ q. is_node (binding same ps q) (node b) && is_inside q.site.setting.scope (h ∷ hs)) ps p i
      (and_from _ _ (ap (λ o. is_node o (node b)) e ∙ eq-eqb (node b) (node b) refl) inside) in
      let live : is_live_in same ps b (h ∷ hs) ≡ true = or_right _ _ (and_from _ _ within reached) in
      let here : binder same' (map (under new) ps) (new p) (h ∷ hs) ≡ binder same ps p.name (h ∷ hs) =
      binder_same b p.name (new p) (h ∷ hs) ib n m live (λ j g. some_one j (node b) (sym (ap (outer (binder same ps p.name) hs) g) ∙ f)) in
      ap (outer (binder same' (map (under new) ps) (new p)) hs) here
      ∙ told (binder same ps p.name (h ∷ hs))
      (λ none. ap (outer (binder same' (map (under new) ps) (new p)) hs) none
      ∙ bound_stays p b i ib e n m hs (inside_parent p.site.setting.scope h hs inside) (sym (ap (outer (binder same ps p.name) hs) none) ∙ f)
      ∙ sym (ap (outer (binder same ps p.name) hs) none))
      (λ j g. ap (outer (binder same' (map (under new) ps) (new p)) hs) g ∙ sym (ap (outer (binder same ps p.name) hs) g))

  -- ---- a reference without one

  find_nothing : (t u : Named A → Bool) → find t ps ≡ None → ((q : Named A) → In q ps → u q ≡ true → ⊥) → find u ps ≡ find t ps
  find_nothing t u none f = find_same_first t u ps (λ q i e. absurd (f q i e)) (λ c g. absurd (none_some c (sym none ∙ g)))

  unbound_here : (p : Named A) (h : Scope) → In p ps → refers p.site ≡ true → binding same ps p ≡ None → is_inside p.site.setting.scope h ≡ true
      → binder same ps p.name h ≡ None → binder same' (map (under new) ps) (new p) h ≡ None
  unfolding all_open
  unbound_here p h i r e inside none =
      told (find (λ q. declares_at same' (new p) h (under new q)) ps)
      (λ no. told (find (λ q. names_function_at same' (new p) h (under new q)) ps)
      (λ nor. ap (λ o. or_else o (node_of (find (names_function_at same' (new p) h) (map (under new) ps)))) (node_find (declares_at same' (new p) h) ∙ ap node_of no)
      ∙ node_find (names_function_at same' (new p) h) ∙ ap node_of nor)
      (λ c f. let g : First (λ q. names_function_at same' (new p) h (under new q)) ps c = find_first (λ q. names_function_at same' (new p) h (under new q)) ps c f in
      let two : (names_function c.site ≡ true) × (at_home same' (new p) h (under new c) ≡ true) = and_parts _ _ g.passes in
      absurd (captured c g.among (names_declares c.site two.0) two.1)))
      (λ c f. let g : First (λ q. declares_at same' (new p) h (under new q)) ps c = find_first (λ q. declares_at same' (new p) h (under new q)) ps c f in
      let two : (declares_plainly c.site ≡ true) × (at_home same' (new p) h (under new c) ≡ true) = and_parts _ _ g.passes in
      absurd (captured c g.among (plainly c.site two.0).0 two.1))
    where
      captured : (c : Named A) → In c ps → declares c.site ≡ true → at_home same' (new p) h (under new c) ≡ true → ⊥
      captured c j d a =
          let both : (same_scope (home c.site) h ≡ true) × (same' (new c) (new p) ≡ true) = and_parts _ _ a in
          let o : (b : Named A) × Owner same tells ps c b = owner same tells ps c j d in
          let n : new c ≡ new o.0 = named_so c o.0 j (in_from_Contains ps o.0 o.1.is.among) o.1.bound in
          let at : home o.0.site ≡ h = o.1.homed ∙ same_scope_eq (home c.site) h both.0 in
          k.no_capture p o.0 (contains_from_in ps p i) r e o.1.is (subst (λ (s : Scope). is_inside p.site.setting.scope s ≡ true) (sym at) inside) (sym ((tells' (new c) (new p)).0 both.1) ∙ n)

  unbound_stays : (p : Named A) → In p ps → refers p.site ≡ true → binding same ps p ≡ None → (s : Scope) → is_inside p.site.setting.scope s ≡ true
      → first_outwards (binder same ps p.name) s ≡ None → first_outwards (binder same' (map (under new) ps) (new p)) s ≡ None
  unfolding all_open
  unbound_stays p i r e [] inside f = refl
  unbound_stays p i r e (h ∷ hs) inside f = told (binder same ps p.name (h ∷ hs))
      (λ none. ap (outer (binder same' (map (under new) ps) (new p)) hs) (unbound_here p (h ∷ hs) i r e inside none)
      ∙ unbound_stays p i r e hs (inside_parent p.site.setting.scope h hs inside) (sym (ap (outer (binder same ps p.name) hs) none) ∙ f))
      (λ j g. absurd (none_some j (sym f ∙ ap (outer (binder same ps p.name) hs) g)))

  -- ---- all places

  refers_stays : (p : Named A) → In p ps → refers p.site ≡ true → binding same' (map (under new) ps) (under new p) ≡ binding same ps p
  unfolding all_open
  refers_stays p i r = binding_refers same' tells' (map (under new) ps) (under new p) r ∙ go (binding_refers same tells ps p r)
    where
      go : binding same ps p ≡ first_outwards (binder same ps p.name) p.site.setting.scope → first_outwards (binder same' (map (under new) ps) (new p)) p.site.setting.scope ≡ binding same ps p
      go was = told (first_outwards (binder same ps p.name) p.site.setting.scope)
          (λ none. unbound_stays p i r (was ∙ none) p.site.setting.scope (inside_refl p.site.setting.scope) none ∙ sym (was ∙ none))
          (λ n f. let source : (b : Named A) × (node b ≡ n) × IsBindingOf same ps b × At same tells ps p.name (home b.site) b × (is_inside p.site.setting.scope (home b.site) ≡ true) = outwards_source same tells ps p.name p.site.setting.scope n f in
          let e : binding same ps p ≡ Some (node source.0) = was ∙ f ∙ ap Some (sym source.1) in
          bound_stays p source.0 i source.2 e source.3.named (named_so p source.0 i source.3.among e) p.site.setting.scope (inside_refl p.site.setting.scope) (f ∙ ap Some (sym source.1)) ∙ sym was)

  plainly_stays : (p : Named A) → In p ps → declares_plainly p.site ≡ true → binding same' (map (under new) ps) (under new p) ≡ binding same ps p
  unfolding all_open
  plainly_stays p i d =
      let o : (b : Named A) × Owner same tells ps p b = plain_owner same tells ps p i d in
      let among : In o.0 ps = in_from_Contains ps o.0 o.1.is.among in
      let live : is_live_in same ps o.0 (home p.site) ≡ true = or_left _ _ (subst (λ (s : Scope). same_scope (home p.site) s ≡ true) (sym o.1.homed) (same_scope_refl (home p.site))) in
      let was : binding same ps p ≡ plain_binder same ps p.name (home p.site) = binding_plain same tells ps p d in
      binding_plain same' tells' (map (under new) ps) (under new p) d
      ∙ plain_same o.0 p.name (new p) (home p.site) o.1.is o.1.named (named_so p o.0 i among o.1.bound) live
      (λ c f. some_one (node c) (node o.0) (sym (ap node_of f) ∙ sym was ∙ o.1.bound))
      ∙ sym was

  neither : (p : Site) → refers p ≡ false → names_function p ≡ false → declares p ≡ false → {N : Type 0} (s : N → N → Bool) (qs : List (Named N)) (q : Named N) → q.site ≡ p → binding s qs q ≡ None
  unfolding all_open
  neither p r f d s qs q e = rw (e, r, f, d) refl

  stays : (p : Named A) → In p ps → binding same' (map (under new) ps) (under new p) ≡ binding same ps p
  unfolding all_open
  stays p i = tested (refers p.site) (λ r. refers_stays p i r)
      (λ r. tested (names_function p.site)
      (λ f. binding_function same' tells' (map (under new) ps) (under new p) f ∙ sym (binding_function same tells ps p f))
      (λ f. tested (declares p.site)
      (λ d. plainly_stays p i (declares_plain p.site d f))
      (λ d. neither p.site r f d same' (map (under new) ps) (under new p) refl ∙ sym (neither p.site r f d same ps p refl))))

  pub bindings_stay : bindings same' (all_under new ps) ≡ bindings same ps
  unfolding all_open
  bindings_stay = map-map (binding same' (map (under new) ps)) (under new) ps ∙ map_same (λ p. binding same' (map (under new) ps) (under new p)) (binding same ps) ps stays

  -- each place alone
  pub binding_stays : (p : Named A) → In p ps → binding same' (all_under new ps) (under new p) ≡ binding same ps p
  unfolding all_open
  binding_stays p i = stays p i
