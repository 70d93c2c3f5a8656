-- No rival uses fewer names: groups that are live in one scope have different names in it.
use Rattle.std.specs.List.{list_any}
use Rattle.std.specs.Prelude.{◌≡◌, ◌⊎◌, ◌≤◌, ℕ, Bool, true, false, cond, not, ◌||◌, ◌&&◌, List, [], ◌∷◌, length, map, filter, find, nat_eq, Option, Some, None, is_none, is_some}
use Rattle.std.proofs.Common.{refl, sym, ap, ◌∙◌, subst, arith, inl, inr}
use Rattle.std.proofs.lemmas.Bool.{or_cases, or_left, or_right, or_parts, and_parts, and_from, both_ways, eq-eqb, eqb-true}
use Rattle.std.proofs.lemmas.List.{length-map}
use Rattle.list_laws.proofs.AnyOf.{any_from, any_some}
use Rattle.list_laws.proofs.Counting.{no_more}
use Rattle.list_laws.proofs.FirstOf.{First, find_first, find_none}
use Rattle.list_laws.proofs.Mapped.{first_or, past_first}
use Rattle.list_laws.proofs.Members.{In, contains_from_in, in_from_Contains, from_filter, from_map}
use Rattle.list_laws.proofs.PairsOf.{PairsOf_weaken, PairsOf_filter, different_map, PairsOf}
use Rattle.list_laws.proofs.Tests.{none_some, some_one, tested, told}
use Rattle.tree_nodes.specs.Tree.{Parts, Text}
use Rattle.tree_places.proofs.Blind.{sites_renamed}
use Rattle.tree_places.proofs.Outwards.{inside_antisym, same_scope_eq, same_scope_refl}
use Rattle.tree_places.proofs.Rising.{numbers_rise}
use Rattle.tree_places.specs.Places.{Place, Site, named_by, names, places, scopes, sites, withs}
use Rattle.tree_places.specs.Scopes.{Scope, first_outwards, is_inside, same_scope}
use Rattle.scope_rules.proofs.BindingsStay.{At, binder_source, binding_function, binding_plain, binding_refers, binding_source, declares_plain, first_own, plainly}
use Rattle.scope_rules.proofs.FunctionNames.{function_home}
use Rattle.scope_rules.proofs.NamesSeparate.{names_separate}
use Rattle.scope_rules.proofs.PlacesRise.{one_of_number}
use Rattle.scope_rules.proofs.SameNames.{same_name_tells, in_distinct}
use Rattle.scope_rules.specs.Bindings.{Bound, binder, binding, bound, declares_at, is_node, names_function_at, node, node_of, or_else, plain_binder, same_name, shadower}
use Rattle.scope_rules.specs.Faults.{has_crossing}
use Rattle.scope_rules.specs.Homes.{declares, declares_plainly, home, names_function, refers}
use Rattle.scope_rules.specs.PrivateNames.{distinct}
use Rattle.scope_rules.specs.Renamings.{IsBindingOf, is_bound_inside, is_live_in}
use Rattle.scope_rules.specs.Separation.{IsShadowedBy, function_names_apart}
use Rattle.name_rules.proofs.Greatest.{greatest_at_most}
use Rattle.name_rules.proofs.LiveTogether.{live_together}
use Rattle.name_rules.proofs.Mangling.{from_leading}
use Rattle.name_rules.proofs.SlotNamesKeepApart.{Leader, group_own, leader_of, member_at, members_at, not_kept}
use Rattle.name_rules.proofs.SlotsAreUsed.{leaders_apart}
use Rattle.name_rules.specs.Groups.{Group, Member, greatest_width, group_at, group_led_by, group_of, groups_of, is_live, leads, members, reaches, width}
use Rattle.name_rules.specs.Kept.{kept_alone}
use Rattle.name_rules.specs.Mangled.{IsRival, changes, implied, names_where}
use Rattle.name_rules.specs.Open.{all_open}
use Rattle.name_rules.specs.Options.{Options}
use Rattle.name_rules.specs.Rivals.{NoRivalUsesFewer}
use Rattle.name_rules.specs.SlotNames.{group_in}

-- ---- the same places under two columns of names

Beside : Place → Place → List Place → List Place → Type 0
Beside p q [] ys = ⊥
Beside p q (x ∷ xs) [] = ⊥
Beside p q (x ∷ xs) (y ∷ ys) = ((x ≡ p) × (y ≡ q)) ⊎ Beside p q xs ys

partner : (ss : List Site) (xs ys : List Text) (p : Place) → length ys ≡ length ss → In p (named_by ss xs) → (q : Place) × Beside p q (named_by ss xs) (named_by ss ys) × (q.site ≡ p.site)
unfolding all_open Beside
partner [] xs ys p h i = absurd (none xs i)
  where
    none : (zs : List Text) → In p (named_by [] zs) → ⊥
    none [] j = j
    none (z ∷ zs) j = j
partner (s ∷ ss) [] ys p h i = absurd i
partner (s ∷ ss) (x ∷ xs) [] p h i = absurd (omega (arith, h))
partner (s ∷ ss) (x ∷ xs) (y ∷ ys) p h i = go i (partner ss xs ys p (omega (arith, h)))
  where
    go : (record { site = s; name = x } ≡ p) ⊎ In p (named_by ss xs) → (In p (named_by ss xs) → (q : Place) × Beside p q (named_by ss xs) (named_by ss ys) × (q.site ≡ p.site))
        → (q : Place) × (((record { site = s; name = x } ≡ p) × (record { site = s; name = y } ≡ q)) ⊎ Beside p q (named_by ss xs) (named_by ss ys)) × (q.site ≡ p.site)
    go (inl e) ih = (record { site = s; name = y }, inl (e, refl), ap (λ (z : Place). z.site) e)
    go (inr j) ih = let r : (q : Place) × Beside p q (named_by ss xs) (named_by ss ys) × (q.site ≡ p.site) = ih j in (r.0, inr r.1, r.2)

beside_in : (p q : Place) (ps qs : List Place) → Beside p q ps qs → In q qs
unfolding Beside
beside_in p q [] ys b = absurd b
beside_in p q (x ∷ xs) [] b = absurd b
beside_in p q (x ∷ xs) (y ∷ ys) b = go b (beside_in p q xs ys)
  where
    go : ((x ≡ p) × (y ≡ q)) ⊎ Beside p q xs ys → (Beside p q xs ys → In q ys) → In q (y ∷ ys)
    go (inl e) ih = inl e.1
    go (inr c) ih = inr (ih c)

beside_same : {Y : Type 0} (f g : Place → Y) (p q : Place) (ps qs : List Place) → map f ps ≡ map g qs → Beside p q ps qs → f p ≡ g q
unfolding Beside first_or past_first
beside_same f g p q [] ys e b = absurd b
beside_same f g p q (x ∷ xs) [] e b = absurd b
beside_same {Y} f g p q (x ∷ xs) (y ∷ ys) e b = go b (beside_same f g p q xs ys (ap past_first e))
  where
    go : ((x ≡ p) × (y ≡ q)) ⊎ Beside p q xs ys → (Beside p q xs ys → f p ≡ g q) → f p ≡ g q
    go (inl s) ih = sym (ap f s.0) ∙ ap (first_or (f x)) e ∙ ap g s.1
    go (inr c) ih = ih c

beside_implied : (f g : Place → Bool) (p q : Place) (ps qs : List Place) → implied (map f ps) (map g qs) ≡ true → Beside p q ps qs → f p ≡ true → g q ≡ true
unfolding all_open Beside
beside_implied f g p q [] ys e b h = absurd b
beside_implied f g p q (x ∷ xs) [] e b h = absurd b
beside_implied f g p q (x ∷ xs) (y ∷ ys) e b h = go b (and_parts _ _ e) (beside_implied f g p q xs ys)
  where
    says : (a c : Bool) → (not a || c) ≡ true → a ≡ true → c ≡ true
    says true c k l = k
    says false c k l = absurd (both_ways false refl l)

    go : ((x ≡ p) × (y ≡ q)) ⊎ Beside p q xs ys → ((not (f x) || g y) ≡ true) × (implied (map f xs) (map g ys) ≡ true) → (implied (map f xs) (map g ys) ≡ true → Beside p q xs ys → f p ≡ true → g q ≡ true) → g q ≡ true
    go (inl s) two ih = subst (λ (z : Place). g z ≡ true) s.1 (says (f x) (g y) two.0 (subst (λ (z : Place). f z ≡ true) (sym s.0) h))
    go (inr c) two ih = ih two.1 c h

beside_named : (test : Member → Bool) (f : Place → Member) (p q : Place) (ps qs : List Place) → Beside p q ps qs → test (f p) ≡ true → In q.name (names_where test (map f ps) qs)
unfolding all_open Beside
beside_named test f p q [] ys b h = absurd b
beside_named test f p q (x ∷ xs) [] b h = absurd b
beside_named test f p q (x ∷ xs) (y ∷ ys) b h = go (test (f x)) refl b (beside_named test f p q xs ys)
  where
    go : (t : Bool) → test (f x) ≡ t → ((x ≡ p) × (y ≡ q)) ⊎ Beside p q xs ys → (Beside p q xs ys → test (f p) ≡ true → In q.name (names_where test (map f xs) ys))
        → In q.name (cond t (y.name ∷ names_where test (map f xs) ys) (names_where test (map f xs) ys))
    go true k (inl s) ih = inl (ap (λ (z : Place). z.name) s.1)
    go true k (inr c) ih = inr (ih c h)
    go false k (inl s) ih = absurd (both_ways _ k (subst (λ (z : Place). test (f z) ≡ true) (sym s.0) h))
    go false k (inr c) ih = ih c h

-- ---- a shadowed function-name is the binding of itself alone

module _ (t : Parts) where
  abbrev Binding : Place → Type 0
  Binding b = IsBindingOf same_name (places t) b

  among : (b : Place) → Binding b → In b (places t)
  among b ib = in_from_Contains (places t) b ib.among

  record Shadowed (f : Place) (l : ℕ) : Type 0 where
    function_name : names_function f.site ≡ true
    by : plain_binder same_name (places t) f.name (home f.site) ≡ Some l

  shadowed : (f : Place) (l : ℕ) → shadower same_name (places t) f ≡ Some l → Shadowed f l
  unfolding all_open
  shadowed f l s = go (names_function f.site) refl s
    where
      go : (b : Bool) → names_function f.site ≡ b → cond b (plain_binder same_name (places t) f.name (home f.site)) None ≡ Some l → Shadowed f l
      go true q e = record { function_name = q; by = e }
      go false q e = absurd (none_some l e)

  -- the shadower is no function-name
  shadower_plain : (f : Place) (l : ℕ) → Binding f → Shadowed f l → l ≡ node f → ⊥
  unfolding all_open
  shadower_plain f l fi s e = told (find (declares_at same_name f.name (home f.site)) (places t))
      (λ none. none_some l (sym (ap node_of none) ∙ s.by))
      (λ c g.
      let o : IsBindingOf same_name (places t) c × (declares_plainly c.site ≡ true) × At same_name same_name_tells (places t) f.name (home f.site) c = first_own same_name same_name_tells (places t) f.name (home f.site) c g in
      let q : c ≡ f = one_of_number t c f (among c o.0) (among f fi) (some_one (node c) l (sym (ap node_of g) ∙ s.by) ∙ e) in
      both_ways _ (plainly f.site (subst (λ (x : Place). declares_plainly x.site ≡ true) q o.1)).1 s.function_name)

  -- where what is found outwards is found
  outwards_at : (f : Scope → Option ℕ) (s : Scope) (n : ℕ) → first_outwards f s ≡ Some n → (r : Scope) × (f r ≡ Some n)
  unfolding all_open
  outwards_at f [] n e = absurd (none_some n e)
  outwards_at f (k ∷ ks) n e = told (f (k ∷ ks))
      (λ none. outwards_at f ks n (sym (ap further none) ∙ e))
      (λ m g. (k ∷ ks, g ∙ sym (ap further g) ∙ e))
    where
      further : Option ℕ → Option ℕ
      further o = elim o [ Some j ↦ Some j | None ↦ first_outwards f ks ]

  itself_alone : (p f : Place) (l : ℕ) → In p (places t) → Binding f → Shadowed f l → binding same_name (places t) p ≡ Some (node f) → p ≡ f
  unfolding all_open
  itself_alone p f l i fi s e = tested (refers p.site)
      (λ r.
      let w : (h : Scope) × (binder same_name (places t) p.name h ≡ Some (node f)) = outwards_at (binder same_name (places t) p.name) p.site.setting.scope (node f) (sym (binding_refers same_name same_name_tells (places t) p r) ∙ e) in
      let b : (b : Place) × (node b ≡ node f) × Binding b × At same_name same_name_tells (places t) p.name w.0 b = binder_source same_name same_name_tells (places t) p.name w.0 (node f) w.1 in
      let q : b.0 ≡ f = one_of_number t b.0 f (among b.0 b.2) (among f fi) b.1 in
      let name : f.name ≡ p.name = sym (ap (λ (x : Place). x.name) q) ∙ b.3.named in
      let at : home f.site ≡ w.0 = sym (ap (λ (x : Place). home x.site) q) ∙ b.3.homed in
      let by : plain_binder same_name (places t) p.name w.0 ≡ Some l = subst (λ (h : Scope). plain_binder same_name (places t) p.name h ≡ Some l) at (subst (λ (x : Text). plain_binder same_name (places t) x (home f.site) ≡ Some l) name s.by) in
      absurd (shadower_plain f l fi s (some_one l (node f) (sym (ap (λ o. or_else o (node_of (find (names_function_at same_name p.name w.0) (places t)))) by) ∙ w.1))))
      (λ r. tested (names_function p.site)
      (λ n. one_of_number t p f i (among f fi) (some_one (node p) (node f) (sym (binding_function same_name same_name_tells (places t) p n) ∙ e)))
      (λ n. tested (declares p.site)
      (λ d. told (find (declares_at same_name p.name (home p.site)) (places t))
      (λ none. absurd (none_some (node f) (sym (ap node_of none) ∙ sym (binding_plain same_name same_name_tells (places t) p (declares_plain p.site d n)) ∙ e)))
      (λ c g.
      let o : IsBindingOf same_name (places t) c × (declares_plainly c.site ≡ true) × At same_name same_name_tells (places t) p.name (home p.site) c = first_own same_name same_name_tells (places t) p.name (home p.site) c g in
      let q : c ≡ f = one_of_number t c f (among c o.0) (among f fi) (some_one (node c) (node f) (sym (ap node_of g) ∙ sym (binding_plain same_name same_name_tells (places t) p (declares_plain p.site d n)) ∙ e)) in
      absurd (both_ways _ (plainly f.site (subst (λ (x : Place). declares_plainly x.site ≡ true) q o.1)).1 s.function_name)))
      (λ d. absurd (none_some (node f) (sym (nothing p.site r n d p refl) ∙ e)))))
    where
      nothing : (x : Site) → refers x ≡ false → names_function x ≡ false → declares x ≡ false → (q : Place) → q.site ≡ x → binding same_name (places t) q ≡ None
      nothing x r n d q w = rw (w, r, n, d) refl

-- ---- a live group's leader is live

abbrev pub Other : Group → Group → Type 0
Other g h = g ≡ h → ⊥

module _ (o : Options) (t : Parts) where
  abbrev ps : List Place
  ps = places t

  abbrev bs : List (Bound Text)
  bs = bound same_name (places t)

  abbrev kept : List ℕ
  kept = kept_alone o (withs t) (places t) (bound same_name (places t))

  -- the place that leads a group
  pub record Led (g : Group) : Type 0 where
    pub leader : Place
    pub is : IsBindingOf same_name (places t) leader
    pub group : group_in o t leader ≡ Some (node leader)
    pub number : g.leader ≡ node leader
    pub homed : g.home ≡ home leader.site

  node_told : (x : Option ℕ) (n : ℕ) → is_node x n ≡ true → x ≡ Some n
  unfolding all_open
  node_told None n h = absurd (both_ways false refl h)
  node_told (Some m) n h = ap Some (eqb-true m n h)

  pub led : (g : Group) → In g (groups_of o t) → Led g
  unfolding all_open member_at
  led g i =
      let w : (m : Member) × In m (members o t) × (leads m ≡ true) × (group_led_by m ≡ g) = from_leading (scopes t) (members o t) g i in
      let p : (p : Place) × In p (places t) × (member_at o t p ≡ w.0) = from_map (member_at o t) (places t) w.0 (subst (In w.0) (members_at o t) w.1) in
      let l : leads (member_at o t p.0) ≡ true = subst (λ (m : Member). leads m ≡ true) (sym p.2) w.2 in
      let two : ((declares p.0.site && is_node (binding same_name (places t) p.0) (node p.0)) ≡ true) × (is_node (group_in o t p.0) (node p.0) ≡ true) = and_parts _ _ l in
      let three : (declares p.0.site ≡ true) × (is_node (binding same_name (places t) p.0) (node p.0) ≡ true) = and_parts _ _ two.0 in
      let same : group_led_by (member_at o t p.0) ≡ g = ap group_led_by p.2 ∙ w.3 in
      record {
        leader = p.0;
        is = record { among = contains_from_in (places t) p.0 p.1; declares = three.0; own = node_told (binding same_name (places t) p.0) (node p.0) three.1 };
        group = node_told (group_in o t p.0) (node p.0) two.1;
        number = sym (ap (λ (x : Group). x.leader) same);
        homed = sym (ap (λ (x : Group). x.home) same);
      }

  live_leader : (g : Group) (d : Led g) (s : Scope) → is_live (members o t) s g ≡ true → is_live_in same_name (places t) d.leader s ≡ true
  unfolding all_open member_at
  live_leader g d s live = go (or_cases _ _ live)
    where
      here : s ≡ home d.leader.site → is_live_in same_name (places t) d.leader s ≡ true
      here e = or_left _ _ (subst (λ (x : Scope). same_scope s x ≡ true) e (same_scope_refl s))

      go : (same_scope s g.home ≡ true) ⊎ ((is_inside s g.home && list_any (reaches g s) (members o t)) ≡ true) → is_live_in same_name (places t) d.leader s ≡ true
      go (inl e) = here (same_scope_eq s g.home e ∙ d.homed)
      go (inr e) =
          let two : (is_inside s g.home ≡ true) × (list_any (reaches g s) (members o t) ≡ true) = and_parts _ _ e in
          let inside : is_inside s (home d.leader.site) ≡ true = subst (λ (x : Scope). is_inside s x ≡ true) d.homed two.0 in
          let w : (m : Member) × In m (members o t) × (reaches g s m ≡ true) = any_some (reaches g s) (members o t) two.1 in
          let q : (q : Place) × In q (places t) × (member_at o t q ≡ w.0) = from_map (member_at o t) (places t) w.0 (subst (In w.0) (members_at o t) w.1) in
          let three : (is_node (group_in o t q.0) g.leader ≡ true) × (is_inside q.0.site.setting.scope s ≡ true) = and_parts _ _ (subst (λ (m : Member). reaches g s m ≡ true) (sym q.2) w.2) in
          let group : group_in o t q.0 ≡ Some (node d.leader) = node_told (group_in o t q.0) g.leader three.0 ∙ ap Some d.number in
          told (binding same_name (places t) q.0)
          (λ none. absurd (none_some (node d.leader) (sym (ap (group_at kept ps bs) none) ∙ group)))
          (λ n f. by_binding q.0 n q.1 f group inside three.1 (binding_source same_name same_name_tells (places t) q.0 q.1 n f))
        where
          by_binding : (q : Place) (n : ℕ) → In q (places t) → binding same_name (places t) q ≡ Some n → group_in o t q ≡ Some (node d.leader) → is_inside s (home d.leader.site) ≡ true → is_inside q.site.setting.scope s ≡ true
              → (b : Place) × (node b ≡ n) × IsBindingOf same_name (places t) b × (b.name ≡ q.name) → is_live_in same_name (places t) d.leader s ≡ true
          by_binding q n i f group inside deep (b, e, ib, nm) =
              let to : binding same_name (places t) q ≡ Some (node b) = f ∙ ap Some (sym e) in
              let own : group_in o t b ≡ Some (node d.leader) = ap (group_at kept ps bs) (ib.own ∙ sym to) ∙ group in
              told (shadower same_name (places t) b)
              (λ none.
              let k : node b ≡ node d.leader = (not_kept o t (node b) None (node d.leader) (sym (ap (group_of kept (node b)) none) ∙ sym (group_own o t b ib) ∙ own)).1 in
              or_right _ _ (and_from _ _ inside (any_from (λ p. is_node (binding same_name (places t) p) (node d.leader) && is_inside p.site.setting.scope s) (places t) q i
              (and_from _ _ (ap (λ x. is_node x (node d.leader)) to ∙ eq-eqb (node b) (node d.leader) k) deep))))
              (λ l sh.
              let a : q ≡ b = itself_alone t q b l i ib (shadowed t b l sh) to in
              let c : (c : Place) × Leader o t b c (node d.leader) = leader_of o t b (node d.leader) ib own in
              let z : c.0 ≡ d.leader = one_of_number t c.0 d.leader (in_from_Contains (places t) c.0 c.1.is.among) (in_from_Contains (places t) d.leader d.is.among) c.1.number in
              let at : home d.leader.site ≡ b.site.setting.scope = sym (ap (λ (x : Place). home x.site) z) ∙ c.1.homed ∙ function_home b.site (shadowed t b l sh).function_name in
              here (inside_antisym s (home d.leader.site) inside (subst (λ (x : Scope). is_inside x s ≡ true) (ap (λ (x : Place). x.site.setting.scope) a ∙ sym at) deep)))

  -- no group comes twice
  pub groups_differ : PairsOf Other (groups_of o t)
  groups_differ = PairsOf_weaken (λ (g h : Group). g.leader ≡ h.leader → ⊥) Other (λ g h f e. f (ap (λ (x : Group). x.leader) e)) (groups_of o t) (leaders_apart o t)

  -- ---- a rival

  module _ (w : Parts) (alone : function_names_apart (sites t) ≡ true) (r : IsRival t o w) where
    same_sites : sites w ≡ sites t
    same_sites = sites_renamed t w r.renamed

    places_w : places w ≡ named_by (sites t) (names w)
    unfolding all_open
    places_w = ap (λ ss. named_by ss (names w)) same_sites

    record Under (p : Place) : Type 0 where
      place : Place
      beside : Beside p place (places t) (places w)
      site : place.site ≡ p.site
      among : In place (places w)

    under_w : (p : Place) → In p (places t) → Under p
    unfolding all_open
    under_w p i =
        let h : length (names w) ≡ length (sites t) = (numbers_rise w).2 ∙ ap length same_sites in
        let q : (q : Place) × Beside p q (named_by (sites t) (names t)) (named_by (sites t) (names w)) × (q.site ≡ p.site) = partner (sites t) (names t) (names w) p h i in
        let b : Beside p q.0 (places t) (places w) = subst (Beside p q.0 (places t)) (sym places_w) q.1 in
        record { place = q.0; beside = b; site = q.2; among = beside_in p q.0 (places t) (places w) b }

    same_binding : (p : Place) (u : Under p) → binding same_name (places w) u.place ≡ binding same_name (places t) p
    unfolding all_open
    same_binding p u = sym (beside_same (binding same_name (places t)) (binding same_name (places w)) p u.place (places t) (places w) (sym r.bound) u.beside)

    same_node : (p : Place) (u : Under p) → node u.place ≡ node p
    unfolding all_open
    same_node p u = ap (λ (s : Site). s.node) u.site

    binding_w : (b : Place) (u : Under b) → IsBindingOf same_name (places t) b → IsBindingOf same_name (places w) u.place
    binding_w b u ib = record {
      among = contains_from_in (places w) u.place u.among;
      declares = subst (λ (s : Site). declares s ≡ true) (sym u.site) ib.declares;
      own = same_binding b u ∙ ib.own ∙ ap Some (sym (same_node b u));
    }

    live_w : (b : Place) (u : Under b) (s : Scope) → is_live_in same_name (places t) b s ≡ true → is_live_in same_name (places w) u.place s ≡ true
    unfolding all_open
    live_w b u s live = go (or_cases _ _ live)
      where
        at : home b.site ≡ home u.place.site
        at = ap home (sym u.site)

        go : (same_scope s (home b.site) ≡ true) ⊎ ((is_inside s (home b.site) && is_bound_inside same_name (places t) b s) ≡ true) → is_live_in same_name (places w) u.place s ≡ true
        go (inl e) = or_left _ _ (subst (λ (x : Scope). same_scope s x ≡ true) at e)
        go (inr e) =
            let two : (is_inside s (home b.site) ≡ true) × (is_bound_inside same_name (places t) b s ≡ true) = and_parts _ _ e in
            let p : (p : Place) × In p (places t) × ((is_node (binding same_name (places t) p) (node b) && is_inside p.site.setting.scope s) ≡ true) =
            any_some (λ p. is_node (binding same_name (places t) p) (node b) && is_inside p.site.setting.scope s) (places t) two.1 in
            let three : (is_node (binding same_name (places t) p.0) (node b) ≡ true) × (is_inside p.0.site.setting.scope s ≡ true) = and_parts _ _ p.2 in
            let v : Under p.0 = under_w p.0 p.1 in
            let to : binding same_name (places w) v.place ≡ Some (node u.place) = same_binding p.0 v ∙ node_told (binding same_name (places t) p.0) (node b) three.0 ∙ ap Some (sym (same_node b u)) in
            or_right _ _ (and_from _ _ (subst (λ (x : Scope). is_inside s x ≡ true) at two.0)
            (any_from (λ q. is_node (binding same_name (places w) q) (node u.place) && is_inside q.site.setting.scope s) (places w) v.place v.among
            (and_from _ _ (ap (λ x. is_node x (node u.place)) to ∙ eq-eqb (node u.place) (node u.place) refl)
            (subst (λ (x : Site). is_inside x.setting.scope s ≡ true) (sym v.site) three.1))))

    no_crossing : has_crossing same_name (places w) ≡ false
    unfolding all_open
    no_crossing = (or_parts _ _ (or_parts _ _ (or_parts _ _ (or_parts _ _ r.sound).0).0).0).1

    -- what leads a group isn't newly shadowed
    not_shadowed : (g : Group) (d : Led g) (u : Under d.leader) (n : ℕ) → shadower same_name (places w) u.place ≡ Some n → ⊥
    unfolding all_open
    not_shadowed g d u n s = told (shadower same_name (places t) d.leader)
        (λ none.
        let f : names_function u.place.site ≡ true = (shadowed w u.place n s).function_name in
        let was : names_function d.leader.site ≡ true = subst (λ (x : Site). names_function x ≡ true) u.site f in
        let now : (names_function u.place.site && is_none (shadower same_name (places w) u.place)) ≡ true =
        beside_implied (λ p. names_function p.site && is_none (shadower same_name (places t) p)) (λ p. names_function p.site && is_none (shadower same_name (places w) p)) d.leader u.place (places t) (places w) r.shadows u.beside
        (and_from _ _ was (ap is_none none)) in
        both_ways _ (ap is_none s) (and_parts _ _ now).1)
        (λ l e.
        let k : l ≡ node d.leader = (not_kept o t (node d.leader) (Some l) (node d.leader) (sym (ap (group_of kept (node d.leader)) e) ∙ sym (group_own o t d.leader d.is) ∙ d.group)).1 in
        shadower_plain t d.leader l d.is (shadowed t d.leader l e) k)

    -- leaders that are live together have different names
    names_differ : (g h : Group) (d : Led g) (e : Led h) (u : Under d.leader) (v : Under e.leader) → is_live (members o t) h.home g ≡ true → u.place.name ≡ v.place.name → node d.leader ≡ node e.leader
    unfolding all_open
    names_differ g h d e u v live n =
        let l : is_live_in same_name (places t) d.leader (home e.leader.site) ≡ true = subst (λ (s : Scope). is_live_in same_name (places t) d.leader s ≡ true) e.homed (live_leader g d h.home live) in
        let m : is_live_in same_name (places w) u.place (home v.place.site) ≡ true = live_w d.leader u (home v.place.site) (subst (λ (s : Site). is_live_in same_name (places t) d.leader (home s) ≡ true) (sym v.site) l) in
        go (names_separate w (subst (λ (ss : List Site). function_names_apart ss ≡ true) (sym same_sites) alone) no_crossing u.place v.place (binding_w d.leader u d.is) (binding_w e.leader v e.is) m n)
      where
        go : (u.place ≡ v.place) ⊎ (IsShadowedBy (places w) u.place v.place ⊎ IsShadowedBy (places w) v.place u.place) → node d.leader ≡ node e.leader
        go (inl q) = sym (same_node d.leader u) ∙ ap node q ∙ same_node e.leader v
        go (inr (inl s)) = absurd (not_shadowed g d u (node v.place) s)
        go (inr (inr s)) = absurd (not_shadowed h e v (node u.place) s)

    -- the name of a group in w
    name_at : ℕ → Text
    name_at n = elim (find (λ q. nat_eq (node q) n) (places w)) [ None ↦ [] | Some q ↦ q.name ]

    name_found : (q : Place) → In q (places w) → name_at (node q) ≡ q.name
    unfolding name_at
    name_found q i = told (find (λ x. nat_eq (node x) (node q)) (places w))
        (λ none. absurd (find_none (λ x. nat_eq (node x) (node q)) (places w) q none i (eq-eqb (node q) (node q) refl)))
        (λ x f.
        let g : First (λ x. nat_eq (node x) (node q)) (places w) x = find_first (λ x. nat_eq (node x) (node q)) (places w) x f in
        ap (λ y. elim y as (λ z. Text) [ None ↦ [] | Some z ↦ z.name ]) f ∙ ap (λ (y : Place). y.name) (one_of_number w x q g.among i (eqb-true (node x) (node q) g.passes)))

    name_of : Group → Text
    name_of g = name_at g.leader

    named : (g : Group) (d : Led g) (u : Under d.leader) → name_of g ≡ u.place.name
    unfolding name_of
    named g d u = ap name_at (d.number ∙ sym (same_node d.leader u)) ∙ name_found u.place u.among

    one_group : (s : Scope) (g h : Group) → In g (filter (is_live (members o t) s) (groups_of o t)) → In h (filter (is_live (members o t) s) (groups_of o t)) → name_of g ≡ name_of h → g ≡ h
    unfolding all_open
    one_group s g h i j e =
        let a : In g (groups_of o t) × (is_live (members o t) s g ≡ true) = from_filter (is_live (members o t) s) (groups_of o t) g i in
        let b : In h (groups_of o t) × (is_live (members o t) s h ≡ true) = from_filter (is_live (members o t) s) (groups_of o t) h j in
        let d : Led g = led g a.0 in
        let f : Led h = led h b.0 in
        let u : Under d.leader = under_w d.leader (in_from_Contains (places t) d.leader d.is.among) in
        let v : Under f.leader = under_w f.leader (in_from_Contains (places t) f.leader f.is.among) in
        let n : u.place.name ≡ v.place.name = sym (named g d u) ∙ e ∙ named h f v in
        let m : node d.leader ≡ node f.leader = together d f u v n (live_together (members o t) g h s a.1 b.1) in
        let p : d.leader ≡ f.leader = one_of_number t d.leader f.leader (in_from_Contains (places t) d.leader d.is.among) (in_from_Contains (places t) f.leader f.is.among) m in
        same (d.number ∙ m ∙ sym f.number) (d.homed ∙ ap (λ (x : Place). home x.site) p ∙ sym f.homed)
      where
        together : (d : Led g) (f : Led h) (u : Under d.leader) (v : Under f.leader) → u.place.name ≡ v.place.name → (is_live (members o t) h.home g ≡ true) ⊎ (is_live (members o t) g.home h ≡ true) → node d.leader ≡ node f.leader
        together d f u v n (inl l) = names_differ g h d f u v l n
        together d f u v n (inr l) = sym (names_differ h g f d v u l (sym n))

        same : g.leader ≡ h.leader → g.home ≡ h.home → g ≡ h
        same x y = ap (λ (k : ℕ). record { leader = k; home = g.home }) x ∙ ap (λ (z : Scope). record { leader = h.leader; home = z }) y

    used : List Text
    used = distinct (names_where changes (members o t) (places w))

    each_used : (g : Group) → In g (groups_of o t) → In (name_of g) used
    unfolding all_open used member_at
    each_used g i =
        let d : Led g = led g i in
        let u : Under d.leader = under_w d.leader (in_from_Contains (places t) d.leader d.is.among) in
        subst (λ (x : Text). In x used) (sym (named g d u))
        (in_distinct (names_where changes (members o t) (places w)) u.place.name
        (subst (λ (ms : List Member). In u.place.name (names_where changes ms (places w))) (sym (members_at o t))
        (beside_named changes (member_at o t) d.leader u.place (places t) (places w) u.beside (ap is_some d.group))))

    narrow : (s : Scope) → width (members o t) (groups_of o t) s ≤ length used
    unfolding all_open
    narrow s =
        let live : List Group = filter (is_live (members o t) s) (groups_of o t) in
        subst (λ (n : ℕ). n ≤ length used) (length-map live name_of)
        (no_more same_name same_name_tells (map name_of live) used
        (different_map name_of live (PairsOf_filter Other (is_live (members o t) s) (groups_of o t) groups_differ) (one_group s))
        (λ x i. let y : (g : Group) × In g live × (name_of g ≡ x) = from_map name_of live x i in
        subst (λ (z : Text). In z used) y.2 (each_used y.0 (from_filter (is_live (members o t) s) (groups_of o t) y.0 y.1).0)))

    no_fewer : greatest_width o t ≤ length (distinct (names_where changes (members o t) (places w)))
    unfolding all_open used
    no_fewer = greatest_at_most (width (members o t) (groups_of o t)) (scopes t) (length used) narrow

pub no_rival_uses_fewer : NoRivalUsesFewer
no_rival_uses_fewer t o w alone r = no_fewer o t w alone r
