-- In a tree without a crossing two bindings that are in use together and have one name are a function-name and its shadower.
use Rattle.std.specs.List.{list_any}
use Rattle.std.specs.Prelude.{◌≡◌, ◌⊎◌, ℕ, Bool, true, false, cond, not, ◌||◌, ◌&&◌, List, [], ◌∷◌, map, Option, Some, None}
use Rattle.std.proofs.Common.{refl, sym, ap, ◌∙◌, subst, inl, inr}
use Rattle.std.proofs.lemmas.Bool.{or_cases, or_left, or_right, and_parts, and_from, both_ways, eqb-true}
use Rattle.list_laws.proofs.AnyOf.{any_from, any_some}
use Rattle.list_laws.proofs.Members.{In, in_from_Contains}
use Rattle.list_laws.proofs.Tests.{none_some, some_one, tested, told}
use Rattle.tree_nodes.specs.declared.table.Declared.TheVariants.{Function, FunctionName, Param, Var}
use Rattle.tree_nodes.specs.declared.table.Role.{Role}
use Rattle.tree_nodes.specs.declared.table.Role.TheVariants.{Declares}
use Rattle.tree_places.proofs.Outwards.{inside_antisym, same_scope_eq, same_scope_refl}
use Rattle.tree_places.specs.Laws.{RiseFrom}
use Rattle.tree_places.specs.Places.{Named, Place, Site, places, sites}
use Rattle.tree_places.specs.Scopes.{Scope, any_below, first_outwards, is_inside, same_scope}
use Rattle.scope_rules.proofs.BindingsStay.{At, Owner, binder_source, binding_plain, binding_refers, binding_source, binds, declares_plain, owner}
use Rattle.scope_rules.proofs.PlacesRise.{one_place, places_rise, site_in}
use Rattle.scope_rules.proofs.SameNames.{same_name_tells}
use Rattle.scope_rules.proofs.VarScopes.{Pinned, hoisted, is_pinned, pinned}
use Rattle.scope_rules.specs.Bindings.{binder, binding, is_node, node, plain_binder, same_name, shadower}
use Rattle.scope_rules.specs.Faults.{crosses, has_crossing, is_single_at}
use Rattle.scope_rules.specs.Homes.{declares, home, is_declaring, is_function_name, is_single, is_var, joins, names_function, refers}
use Rattle.scope_rules.specs.Open.{all_open}
use Rattle.scope_rules.specs.Renamings.{IsBindingOf, TellsSame, is_bound_inside, is_live_in}
use Rattle.scope_rules.specs.Separation.{IsShadowedBy, NamesSeparate, function_names_apart}

-- ---- what declares is single, or has a var scope as its home

homed_by : (p : Bool) (r : Role) (l : Bool) (s v : Scope) → (p && is_declaring r) ≡ true → (l ≡ true → s ≡ v) → (is_pinned r ≡ true → s ≡ v)
    → ((((p && is_declaring r) && not (is_function_name r)) && not (joins r l)) ≡ true) ⊎ (cond (is_var r) v s ≡ v)
unfolding all_open
homed_by true (Declares Var) l s v d lies pin = inr refl
homed_by true (Declares Param) l s v d lies pin = inr (pin refl)
homed_by true (Declares (FunctionName special)) l s v d lies pin = inr (pin refl)
homed_by true (Declares (Function special)) true s v d lies pin = inr (lies refl)
homed_by true (Declares (Function special)) false s v d lies pin = inl refl
homed_by true (Declares _) l s v d lies pin = inl refl
homed_by true _ l s v d lies pin = absurd (both_ways false refl d)
homed_by false r l s v d lies pin = absurd (both_ways false refl d)

single_or_hoisted : (q : Site) → declares q ≡ true → Pinned q.setting → (is_single q ≡ true) ⊎ (home q ≡ q.setting.var_scope)
unfolding all_open
single_or_hoisted q d pin =
    homed_by (not q.private) q.setting.role (same_scope q.setting.scope q.setting.var_scope) q.setting.scope q.setting.var_scope d (same_scope_eq q.setting.scope q.setting.var_scope) pin

-- what is found on the way outwards lies at or inside a scope that has something
nearest_inside : (f : Scope → Option ℕ) (h s : Scope) (n : ℕ) → (f h ≡ None → ⊥) → is_inside s h ≡ true → first_outwards f s ≡ Some n → (r : Scope) × (f r ≡ Some n) × (is_inside r h ≡ true)
unfolding all_open
nearest_inside f h [] n some i e = absurd (none_some n e)
nearest_inside f h (k ∷ ks) n some i e = told (f (k ∷ ks))
    (λ none. at none (or_cases _ _ i) (nearest_inside f h ks n some) (sym (ap further none) ∙ e))
    (λ m g. (k ∷ ks, g ∙ sym (ap further g) ∙ e, i))
  where
    further : Option ℕ → Option ℕ
    further o = elim o [ Some j ↦ Some j | None ↦ first_outwards f ks ]

    at : f (k ∷ ks) ≡ None → (same_scope (k ∷ ks) h ≡ true) ⊎ (is_inside ks h ≡ true) → (is_inside ks h ≡ true → first_outwards f ks ≡ Some n → (r : Scope) × (f r ≡ Some n) × (is_inside r h ≡ true))
        → first_outwards f ks ≡ Some n → (r : Scope) × (f r ≡ Some n) × (is_inside r h ≡ true)
    at none (inl q) ih g = absurd (some (subst (λ (r : Scope). f r ≡ None) (same_scope_eq (k ∷ ks) h q) none))
    at none (inr q) ih g = ih q g

-- a test that a scope passes, strictly inside a home
below_from : (test : Scope → Bool) (h r s : Scope) → is_inside s r ≡ true → is_inside r h ≡ true → (r ≡ h → ⊥) → (r ≡ [] → ⊥) → test r ≡ true → any_below test h s ≡ true
unfolding all_open
below_from test h r [] i j n e t = absurd (e (sym (same_scope_eq [] r i)))
below_from test h r (k ∷ ks) i j n e t = and_from _ _ (other (same_scope (k ∷ ks) h) refl) (at (or_cases _ _ i) (below_from test h r ks))
  where
    other : (b : Bool) → same_scope (k ∷ ks) h ≡ b → not b ≡ true
    other true q = absurd (n (inside_antisym r h j (subst (λ (x : Scope). is_inside x r ≡ true) (same_scope_eq (k ∷ ks) h q) i)))
    other false q = refl

    at : (same_scope (k ∷ ks) r ≡ true) ⊎ (is_inside ks r ≡ true) → (is_inside ks r ≡ true → is_inside r h ≡ true → (r ≡ h → ⊥) → (r ≡ [] → ⊥) → test r ≡ true → any_below test h ks ≡ true)
        → (test (k ∷ ks) || any_below test h ks) ≡ true
    at (inl q) ih = or_left _ _ (subst (λ (x : Scope). test x ≡ true) (sym (same_scope_eq (k ∷ ks) r q)) t)
    at (inr q) ih = or_right _ _ (ih q j n e t)

node_told : (x : Option ℕ) (n : ℕ) → is_node x n ≡ true → x ≡ Some n
unfolding all_open
node_told None n h = absurd (both_ways false refl h)
node_told (Some m) n h = ap Some (eqb-true m n h)

-- ---- one home

module _ {N : Type 0} (same : N → N → Bool) (tells : TellsSame same) (ps : List (Named N)) (order : RiseFrom 0 (map node ps))
    (hoists : (p q : Named N) → In p ps → In q ps → is_inside p.site.setting.scope q.site.setting.var_scope ≡ true → is_inside p.site.setting.var_scope q.site.setting.var_scope ≡ true)
    (pins : (q : Named N) → In q ps → Pinned q.site.setting) (free : has_crossing same ps ≡ false) where
  among : (b : Named N) → IsBindingOf same ps b → In b ps
  among b ib = in_from_Contains ps b ib.among

  one_of : (a b : Named N) → In a ps → In b ps → node a ≡ node b → a ≡ b
  one_of a b i j e = one_place 0 ps a b order i j e

  -- a reference to a that lies in the home of b
  by_reference : (a b p : Named N) → IsBindingOf same ps a → IsBindingOf same ps b → In p ps → refers p.site ≡ true → binding same ps p ≡ Some (node a) → is_inside p.site.setting.scope (home b.site) ≡ true
      → a.name ≡ b.name → p.name ≡ a.name → is_inside (home a.site) (home b.site) ≡ true
  unfolding all_open
  by_reference a b p ia ib i r e inside n m =
      let w : (s : Scope) × (binder same ps p.name s ≡ Some (node a)) × (is_inside s (home b.site) ≡ true) =
      nearest_inside (binder same ps p.name) (home b.site) p.site.setting.scope (node a)
      (λ none. binds same tells ps b (among b ib) ib.declares (subst (λ (x : N). binder same ps x (home b.site) ≡ None) (m ∙ n) none))
      inside (sym (binding_refers same tells ps p r) ∙ e) in
      let c : (c : Named N) × (node c ≡ node a) × IsBindingOf same ps c × At same tells ps p.name w.0 c = binder_source same tells ps p.name w.0 (node a) w.1 in
      let q : c.0 ≡ a = one_of c.0 a (among c.0 c.2) (among a ia) c.1 in
      subst (λ (x : Named N). is_inside (home x.site) (home b.site) ≡ true) q (subst (λ (s : Scope). is_inside s (home b.site) ≡ true) (sym c.3.homed) w.2)

  not_crossed : (p b : Named N) → In p ps → In b ps → declares p.site ≡ true → is_var p.site.setting.role ≡ true → is_single b.site ≡ true → p.name ≡ b.name
      → is_inside p.site.setting.scope (home b.site) ≡ true → is_inside (home b.site) (home p.site) ≡ true → (home b.site ≡ home p.site → ⊥) → (home b.site ≡ [] → ⊥) → ⊥
  unfolding all_open
  not_crossed p b i j d v s n inside within apart root =
      both_ways _ free (any_from (crosses same ps) ps p i (and_from _ _ (and_from _ _ d v)
      (below_from (λ r. list_any (is_single_at same p.name r) ps) (home p.site) (home b.site) p.site.setting.scope inside within apart root
      (any_from (is_single_at same p.name (home b.site)) ps b j (and_from _ _ s (and_from _ _ (same_scope_refl (home b.site)) ((tells b.name p.name).1 (sym n))))))))

  -- a place that declares a and lies in the home of b
  by_declaration : (a b p : Named N) → IsBindingOf same ps a → IsBindingOf same ps b → In p ps → declares p.site ≡ true → home a.site ≡ home p.site → p.name ≡ b.name
      → is_inside p.site.setting.scope (home b.site) ≡ true → is_inside (home b.site) (home a.site) ≡ true → (home b.site ≡ home a.site → ⊥) → (home b.site ≡ [] → ⊥) → is_inside (home a.site) (home b.site) ≡ true
  unfolding all_open
  by_declaration a b p ia ib i d h n inside within apart root = tested (is_var p.site.setting.role)
      (λ v. go v (single_or_hoisted b.site ib.declares (pins b (among b ib))))
      (λ v. subst (λ (s : Scope). is_inside s (home b.site) ≡ true) (sym (h ∙ ap (λ c. cond c p.site.setting.var_scope p.site.setting.scope) v)) inside)
    where
      go : is_var p.site.setting.role ≡ true → (is_single b.site ≡ true) ⊎ (home b.site ≡ b.site.setting.var_scope) → is_inside (home a.site) (home b.site) ≡ true
      go v (inl s) = absurd (not_crossed p b i (among b ib) d v s n inside (subst (λ (x : Scope). is_inside (home b.site) x ≡ true) h within) (λ e. apart (e ∙ sym h)) root)
      go v (inr e) =
          let at : home a.site ≡ p.site.setting.var_scope = h ∙ ap (λ c. cond c p.site.setting.var_scope p.site.setting.scope) v in
          subst (λ (s : Scope). is_inside s (home b.site) ≡ true) (sym at)
          (subst (λ (s : Scope). is_inside p.site.setting.var_scope s ≡ true) (sym e) (hoists p b i (among b ib) (subst (λ (s : Scope). is_inside p.site.setting.scope s ≡ true) e inside)))

  named_as : (a p : Named N) → IsBindingOf same ps a → In p ps → declares p.site ≡ true → binding same ps p ≡ Some (node a) → (home a.site ≡ home p.site) × (a.name ≡ p.name)
  unfolding all_open
  named_as a p ia i d e =
      let o : (c : Named N) × Owner same tells ps p c = owner same tells ps p i d in
      let q : o.0 ≡ a = one_of o.0 a (among o.0 o.1.is) (among a ia) (some_one (node o.0) (node a) (sym o.1.bound ∙ e)) in
      (sym (ap (λ (x : Named N). home x.site) q) ∙ o.1.homed, sym (ap (λ (x : Named N). x.name) q) ∙ o.1.named)

  -- where a is live in the home of b and both have one name, they have one home
  one_home : (a b : Named N) → IsBindingOf same ps a → IsBindingOf same ps b → is_live_in same ps a (home b.site) ≡ true → a.name ≡ b.name → home a.site ≡ home b.site
  unfolding all_open
  one_home a b ia ib live n = go (or_cases _ _ live)
    where
      go : (same_scope (home b.site) (home a.site) ≡ true) ⊎ ((is_inside (home b.site) (home a.site) && is_bound_inside same ps a (home b.site)) ≡ true) → home a.site ≡ home b.site
      go (inl e) = sym (same_scope_eq (home b.site) (home a.site) e)
      go (inr e) = tested (same_scope (home b.site) (home a.site))
          (λ q. sym (same_scope_eq (home b.site) (home a.site) q))
          (λ q.
          let two : (is_inside (home b.site) (home a.site) ≡ true) × (is_bound_inside same ps a (home b.site) ≡ true) = and_parts _ _ e in
          let apart : home b.site ≡ home a.site → ⊥ = λ f. both_ways _ q (subst (λ (x : Scope). same_scope (home b.site) x ≡ true) f (same_scope_refl (home b.site))) in
          let root : home b.site ≡ [] → ⊥ = λ f. apart (f ∙ same_scope_eq [] (home a.site) (subst (λ (x : Scope). is_inside x (home a.site) ≡ true) f two.0)) in
          let w : (p : Named N) × In p ps × ((is_node (binding same ps p) (node a) && is_inside p.site.setting.scope (home b.site)) ≡ true) =
          any_some (λ p. is_node (binding same ps p) (node a) && is_inside p.site.setting.scope (home b.site)) ps two.1 in
          let three : (is_node (binding same ps w.0) (node a) ≡ true) × (is_inside w.0.site.setting.scope (home b.site) ≡ true) = and_parts _ _ w.2 in
          let to : binding same ps w.0 ≡ Some (node a) = node_told (binding same ps w.0) (node a) three.0 in
          inside_antisym (home a.site) (home b.site)
          (tested (refers w.0.site)
          (λ r. by_reference a b w.0 ia ib w.1 r to three.1 n (reference_name w.0 w.1 r to ia))
          (λ r. tested (declares w.0.site)
          (λ d. let both : (home a.site ≡ home w.0.site) × (a.name ≡ w.0.name) = named_as a w.0 ia w.1 d to in
          by_declaration a b w.0 ia ib w.1 d both.0 (sym both.1 ∙ n) three.1 two.0 apart root)
          (λ d. absurd (none_some (node a) (sym (nothing w.0.site r d w.0 refl) ∙ to)))))
          two.0)
        where
          nothing : (s : Site) → refers s ≡ false → declares s ≡ false → (x : Named N) → x.site ≡ s → binding same ps x ≡ None
          nothing s r d x f = rw (f, r, d) refl

          reference_name : (p : Named N) → In p ps → refers p.site ≡ true → binding same ps p ≡ Some (node a) → IsBindingOf same ps a → p.name ≡ a.name
          reference_name p i r to ia' =
              let s : (c : Named N) × (node c ≡ node a) × IsBindingOf same ps c × (c.name ≡ p.name) = binding_source same tells ps p i (node a) to in
              sym s.3 ∙ ap (λ (x : Named N). x.name) (one_of s.0 a (among s.0 s.2) (among a ia') s.1)

  -- two bindings of one home and name: one, or both function-names, or one of them shadows the other
  one_name : (a b : Named N) → IsBindingOf same ps a → IsBindingOf same ps b → home a.site ≡ home b.site → a.name ≡ b.name
      → (a ≡ b) ⊎ (((names_function a.site ≡ true) × (names_function b.site ≡ true)) ⊎ ((shadower same ps a ≡ Some (node b)) ⊎ (shadower same ps b ≡ Some (node a))))
  unfolding all_open
  one_name a b ia ib h n =
      tested (names_function a.site)
      (λ f. tested (names_function b.site)
      (λ g. inr (inl (f, g)))
      (λ g. inr (inr (inl (ap (λ c. cond c (plain_binder same ps a.name (home a.site)) None) f ∙ like ∙ own b ib g)))))
      (λ f. tested (names_function b.site)
      (λ g. inr (inr (inr (ap (λ c. cond c (plain_binder same ps b.name (home b.site)) None) g ∙ sym like ∙ own a ia f))))
      (λ g. inl (one_of a b (among a ia) (among b ib) (some_one (node a) (node b) (sym (own a ia f) ∙ like ∙ own b ib g)))))
    where
      like : plain_binder same ps a.name (home a.site) ≡ plain_binder same ps b.name (home b.site)
      like = ap (λ (x : N). plain_binder same ps x (home a.site)) n ∙ ap (λ (s : Scope). plain_binder same ps b.name s) h

      own : (c : Named N) → IsBindingOf same ps c → names_function c.site ≡ false → plain_binder same ps c.name (home c.site) ≡ Some (node c)
      own c ic f = sym (binding_plain same tells ps c (declares_plain c.site ic.declares f)) ∙ ic.own

-- ---- a tree

apart_sites : (ss : List Site) (p q : Site) → function_names_apart ss ≡ true → In p ss → In q ss → names_function p ≡ true → names_function q ≡ true → home p ≡ home q → p ≡ q
unfolding function_names_apart
apart_sites [] p q h i j f g e = absurd i
apart_sites (s ∷ ss) p q h i j f g e = go i j (apart_sites ss p q (and_parts _ _ h).1)
  where
    no : (r : Site) → In r ss → names_function s ≡ true → names_function r ≡ true → home r ≡ home s → ⊥
    no r k f' g' e' = clash (names_function s && list_any (λ x. names_function x && same_scope (home x) (home s)) ss) (and_parts _ _ h).0
        (and_from _ _ f' (any_from (λ x. names_function x && same_scope (home x) (home s)) ss r k (and_from _ _ g' (subst (λ (x : Scope). same_scope (home r) x ≡ true) e' (same_scope_refl (home r))))))
      where
        clash : (b : Bool) → not b ≡ true → b ≡ true → ⊥
        clash true x y = both_ways false refl x
        clash false x y = both_ways false refl y

    go : (s ≡ p) ⊎ In p ss → (s ≡ q) ⊎ In q ss → (In p ss → In q ss → names_function p ≡ true → names_function q ≡ true → home p ≡ home q → p ≡ q) → p ≡ q
    go (inl a) (inl b) ih = sym a ∙ b
    go (inl a) (inr b) ih = absurd (no q b (subst (λ (x : Site). names_function x ≡ true) (sym a) f) g (sym e ∙ ap home (sym a)))
    go (inr a) (inl b) ih = absurd (no p a (subst (λ (x : Site). names_function x ≡ true) (sym b) g) f (e ∙ ap home (sym b)))
    go (inr a) (inr b) ih = ih a b f g e

pub names_separate : NamesSeparate
unfolding all_open
names_separate t alone free a b ia ib live n =
    let ja : In a (places t) = in_from_Contains (places t) a ia.among in
    let jb : In b (places t) = in_from_Contains (places t) b ib.among in
    let hoists : (p q : Place) → In p (places t) → In q (places t) → is_inside p.site.setting.scope q.site.setting.var_scope ≡ true → is_inside p.site.setting.var_scope q.site.setting.var_scope ≡ true =
    λ p q i j. hoisted t p.site q.site (site_in t p i) (site_in t q j) in
    let pins : (q : Place) → In q (places t) → Pinned q.site.setting = λ q i. pinned t q.site (site_in t q i) in
    let h : home a.site ≡ home b.site = one_home same_name same_name_tells (places t) (places_rise t) hoists pins free a b ia ib live n in
    go ja jb h (one_name same_name same_name_tells (places t) (places_rise t) hoists pins free a b ia ib h n)
  where
    go : In a (places t) → In b (places t) → home a.site ≡ home b.site
        → (a ≡ b) ⊎ (((names_function a.site ≡ true) × (names_function b.site ≡ true)) ⊎ ((shadower same_name (places t) a ≡ Some (node b)) ⊎ (shadower same_name (places t) b ≡ Some (node a))))
        → (a ≡ b) ⊎ (IsShadowedBy (places t) a b ⊎ IsShadowedBy (places t) b a)
    go ja jb h (inl e) = inl e
    go ja jb h (inr (inl f)) =
        let e : a.site ≡ b.site = apart_sites (sites t) a.site b.site alone (site_in t a ja) (site_in t b jb) f.0 f.1 h in
        inl (one_place 0 (places t) a b (places_rise t) ja jb (ap (λ (s : Site). s.node) e))
    go ja jb h (inr (inr s)) = inr s
