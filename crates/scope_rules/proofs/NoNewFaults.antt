-- Where new names keep apart what the old ones did, no fault is new.
use Rattle.std.specs.List.{list_any}
use Rattle.std.specs.Prelude.{◌≡◌, ◌⊎◌, ℕ, Bool, true, false, not, ◌||◌, ◌&&◌, List, [], ◌∷◌, map, Option, Some, None, is_some}
use Rattle.std.proofs.Common.{refl, sym, ap, ◌∙◌, subst, inl, inr}
use Rattle.std.proofs.lemmas.Bool.{or_cases, or_left, or_right, and_parts, and_from, both_ways, eq-eqb}
use Rattle.std.proofs.lemmas.Simd.{map-map}
use Rattle.list_laws.proofs.AnyOf.{any_from, any_map, any_same, any_some}
use Rattle.list_laws.proofs.Mapped.{map_same, maps_agree}
use Rattle.list_laws.proofs.Members.{In, contains_from_in}
use Rattle.tree_places.proofs.Outwards.{inside_parent, inside_refl, same_scope_eq}
use Rattle.tree_places.specs.Places.{Named}
use Rattle.tree_places.specs.Scopes.{Scope, any_below, is_inside, same_scope}
use Rattle.scope_rules.proofs.BindingsStay.{Owner, binding_stays, owner, plainly, was_named}
use Rattle.scope_rules.specs.Bindings.{Bound, at_home, binding, bound, declares_at, is_node, node}
use Rattle.scope_rules.specs.Faults.{binds_in, crosses, declares_in_head, has_crossing, has_reach, has_redeclaration, has_sloppy_function, has_undeclared, is_of_body, is_single_at, is_sloppy_function, is_undeclared, reaches_body, redeclares}
use Rattle.scope_rules.specs.Homes.{declares, declares_plainly, home, is_joinable, is_single, is_var, refers}
use Rattle.scope_rules.specs.Open.{all_open}
use Rattle.scope_rules.specs.PrivateNames.{private_binding, private_bindings}
use Rattle.scope_rules.specs.Renamings.{HomesLieOutside, KeepsApart, NoNewFault, TellsSame, all_under, is_bound_inside, is_live_in, under}

module _ {A B : Type 0} (same : A → A → Bool) (same' : B → B → Bool) (tells : TellsSame same) (tells' : TellsSame same')
    (ps : List (Named A)) (new : Named A → B) (k : KeepsApart same ps new) where
  -- what declares in the home of p, or where p's binding is live, and has the new name of p, had the name of p
  was_same : (p q b : Named A) → In p ps → In q ps → Owner same tells ps p b → declares q.site ≡ true → is_live_in same ps b (home q.site) ≡ true → same' (new q) (new p) ≡ true → same q.name p.name ≡ true
  unfolding all_open
  was_same p q b i j o d live e =
      (tells q.name p.name).1 (was_named same same' tells tells' ps new k b q o.is j d live ((tells' (new q) (new p)).0 e ∙ k.constant p b (contains_from_in ps p i) o.is.among o.bound) ∙ o.named)

  -- ---- a name is declared again

  redeclares_before : (p q : Named A) → In p ps → In q ps → redeclares same' (under new p) (under new q) ≡ true → redeclares same p q ≡ true
  unfolding all_open
  redeclares_before p q i j e =
      let one : ((declares_plainly p.site && declares_at same' (new p) (home p.site) (under new q)) ≡ true) × (not (is_joinable p.site && is_joinable q.site) ≡ true) = and_parts _ _ e in
      let two : (declares_plainly p.site ≡ true) × (declares_at same' (new p) (home p.site) (under new q) ≡ true) = and_parts _ _ one.0 in
      let three : (declares_plainly q.site ≡ true) × (at_home same' (new p) (home p.site) (under new q) ≡ true) = and_parts _ _ two.1 in
      let four : (same_scope (home q.site) (home p.site) ≡ true) × (same' (new q) (new p) ≡ true) = and_parts _ _ three.1 in
      let o : (b : Named A) × Owner same tells ps p b = owner same tells ps p i (plainly p.site two.0).0 in
      let live : is_live_in same ps o.0 (home q.site) ≡ true = or_left _ _ (subst (λ (s : Scope). same_scope (home q.site) s ≡ true) (sym o.1.homed) four.0) in
      and_from _ _ (and_from _ _ two.0 (and_from _ _ three.0 (and_from _ _ four.0 (was_same p q o.0 i j o.1 (plainly q.site three.0).0 live four.1)))) one.1

  redeclaration_before : (qs : List (Named A)) → ((q : Named A) → In q qs → In q ps) → has_redeclaration same' (map (under new) qs) ≡ true → has_redeclaration same qs ≡ true
  unfolding all_open
  redeclaration_before [] f e = e
  redeclaration_before (p ∷ qs) f e = go (or_cases _ _ e) (redeclaration_before qs (λ q i. f q (inr i)))
    where
      go : (list_any (redeclares same' (under new p)) (map (under new) qs) ≡ true) ⊎ (has_redeclaration same' (map (under new) qs) ≡ true)
          → (has_redeclaration same' (map (under new) qs) ≡ true → has_redeclaration same qs ≡ true) → has_redeclaration same (p ∷ qs) ≡ true
      go (inl h) ih =
          let w : (q : Named A) × In q qs × (redeclares same' (under new p) (under new q) ≡ true) = any_some (λ q. redeclares same' (under new p) (under new q)) qs (sym (any_map (under new) (redeclares same' (under new p)) qs) ∙ h) in
          or_left _ _ (any_from (redeclares same p) qs w.0 w.1 (redeclares_before p w.0 (f p (inl refl)) (f w.0 (inr w.1)) w.2))
      go (inr h) ih = or_right _ _ (ih h)

  -- ---- a `var` crosses a single place

  below_before : (test' test : Scope → Bool) (s₀ h : Scope) → ((r : Scope) → is_inside s₀ r ≡ true → is_inside r h ≡ true → test' r ≡ true → test r ≡ true)
      → (s : Scope) → is_inside s₀ s ≡ true → is_inside s h ≡ true → any_below test' h s ≡ true → any_below test h s ≡ true
  unfolding all_open
  below_before test' test s₀ h f [] i j e = e
  below_before test' test s₀ h f (n ∷ ns) i j e =
      let one : (not (same_scope (n ∷ ns) h) ≡ true) × ((test' (n ∷ ns) || any_below test' h ns) ≡ true) = and_parts _ _ e in
      and_from _ _ one.0 (go (or_cases _ _ one.1) (or_cases _ _ j) (below_before test' test s₀ h f ns (inside_parent s₀ n ns i)) one.0)
    where
      not_both : (b : Bool) → not b ≡ true → b ≡ true → ⊥
      not_both true p q = both_ways false refl p
      not_both false p q = both_ways false refl q

      go : (test' (n ∷ ns) ≡ true) ⊎ (any_below test' h ns ≡ true) → (same_scope (n ∷ ns) h ≡ true) ⊎ (is_inside ns h ≡ true)
          → (is_inside ns h ≡ true → any_below test' h ns ≡ true → any_below test h ns ≡ true) → not (same_scope (n ∷ ns) h) ≡ true → (test (n ∷ ns) || any_below test h ns) ≡ true
      go (inl t) w ih x = or_left _ _ (f (n ∷ ns) i j t)
      go (inr t) (inl w) ih x = absurd (not_both (same_scope (n ∷ ns) h) x w)
      go (inr t) (inr w) ih x = or_right _ _ (ih w t)

  crosses_before : HomesLieOutside ps → (p : Named A) → In p ps → crosses same' (all_under new ps) (under new p) ≡ true → crosses same ps p ≡ true
  unfolding all_open
  crosses_before homes p i e =
      let one : ((declares p.site && is_var p.site.setting.role) ≡ true) × (any_below (λ s. list_any (is_single_at same' (new p) s) (map (under new) ps)) (home p.site) p.site.setting.scope ≡ true) = and_parts _ _ e in
      let o : (b : Named A) × Owner same tells ps p b = owner same tells ps p i (and_parts _ _ one.0).0 in
      and_from _ _ one.0 (below_before
      (λ s. list_any (is_single_at same' (new p) s) (map (under new) ps)) (λ s. list_any (is_single_at same p.name s) ps) p.site.setting.scope (home p.site)
      (λ r from to t.
      let w : (q : Named A) × In q ps × (is_single_at same' (new p) r (under new q) ≡ true) = any_some (λ q. is_single_at same' (new p) r (under new q)) ps (sym (any_map (under new) (is_single_at same' (new p) r) ps) ∙ t) in
      let three : (is_single w.0.site ≡ true) × (at_home same' (new p) r (under new w.0) ≡ true) = and_parts _ _ w.2 in
      let four : (same_scope (home w.0.site) r ≡ true) × (same' (new w.0) (new p) ≡ true) = and_parts _ _ three.1 in
      let at : home w.0.site ≡ r = same_scope_eq (home w.0.site) r four.0 in
      let reached : is_bound_inside same ps o.0 r ≡ true = any_from (λ q. is_node (binding same ps q) (node o.0) && is_inside q.site.setting.scope r) ps p i
      (and_from _ _ (ap (λ x. is_node x (node o.0)) o.1.bound ∙ eq-eqb (node o.0) (node o.0) refl) from) in
      let live : is_live_in same ps o.0 r ≡ true = or_right _ _ (and_from _ _ (subst (λ (s : Scope). is_inside r s ≡ true) (sym o.1.homed) to) reached) in
      any_from (is_single_at same p.name r) ps w.0 w.1
      (and_from _ _ three.0 (and_from _ _ four.0
      (was_same p w.0 o.0 i w.1 o.1 (plainly w.0.site (and_parts _ _ three.0).0).0 (subst (λ (s : Scope). is_live_in same ps o.0 s ≡ true) (sym at) live) four.1))))
      p.site.setting.scope (inside_refl p.site.setting.scope) (homes p (contains_from_in ps p i)) one.1)

  crossing_before : HomesLieOutside ps → has_crossing same' (all_under new ps) ≡ true → has_crossing same ps ≡ true
  unfolding all_open
  crossing_before homes e =
      let w : (p : Named A) × In p ps × (crosses same' (all_under new ps) (under new p) ≡ true) = any_some (λ p. crosses same' (all_under new ps) (under new p)) ps (sym (any_map (under new) (crosses same' (all_under new ps)) ps) ∙ e) in
      any_from (crosses same ps) ps w.0 w.1 (crosses_before homes w.0 w.1 w.2)

  -- ---- the others are at the same places

  sloppy_before : has_sloppy_function (all_under new ps) ≡ has_sloppy_function ps
  unfolding all_open
  sloppy_before = any_map (under new) (λ p. is_sloppy_function p.site) ps

  undeclared_before : private_bindings same' (all_under new ps) ≡ private_bindings same ps → has_undeclared same' (all_under new ps) ≡ has_undeclared same ps
  unfolding all_open
  undeclared_before e = any_map (under new) (is_undeclared same' (all_under new ps)) ps
      ∙ any_same (λ p. is_undeclared same' (all_under new ps) (under new p)) (is_undeclared same ps) ps
      (λ p i. ap (λ o. p.site.private && not (is_some o)) (maps_agree (λ p. private_binding same' (all_under new ps) (under new p)) (private_binding same ps) ps (sym (map-map (private_binding same' (all_under new ps)) (under new) ps) ∙ e) p i))

  -- a place with the binding that it had, under either name
  old_bound : Named A → Bound A
  old_bound p = record { place = p; binding = binding same ps p }

  new_bound : Named A → Bound B
  new_bound p = record { place = under new p; binding = binding same ps p }

  bound_before : bound same' (all_under new ps) ≡ map new_bound ps
  unfolding all_open new_bound
  bound_before = map-map (λ p. record { place = p; binding = binding same' (all_under new ps) p }) (under new) ps
      ∙ map_same (λ p. record { place = under new p; binding = binding same' (all_under new ps) (under new p) }) new_bound ps
      (λ p i. ap (λ o. record { place = under new p; binding = o }) (binding_stays same same' tells tells' ps new k p i))

  body_before : (n f : ℕ) → is_of_body (map new_bound ps) n f ≡ is_of_body (map old_bound ps) n f
  unfolding all_open old_bound new_bound
  body_before n f =
      ap (λ b. b && not (list_any (declares_in_head f n) (map new_bound ps))) (any_map new_bound (binds_in f n) ps ∙ sym (any_map old_bound (binds_in f n) ps))
      ∙ ap (λ b. list_any (binds_in f n) (map old_bound ps) && not b) (any_map new_bound (declares_in_head f n) ps ∙ sym (any_map old_bound (declares_in_head f n) ps))

  reaches_before : (p : Named A) → reaches_body (map new_bound ps) (new_bound p) ≡ reaches_body (map old_bound ps) (old_bound p)
  unfolding all_open old_bound new_bound
  reaches_before p = ap (λ b. refers p.site && b) (go (binding same ps p))
    where
      go : (o : Option ℕ) → (elim o as (λ q. Bool) [ None ↦ false | Some n ↦ list_any (is_of_body (map new_bound ps) n) p.site.setting.heads ]) ≡ (elim o as (λ q. Bool) [ None ↦ false | Some n ↦ list_any (is_of_body (map old_bound ps) n) p.site.setting.heads ])
      go None = refl
      go (Some n) = any_same (is_of_body (map new_bound ps) n) (is_of_body (map old_bound ps) n) p.site.setting.heads (λ f i. body_before n f)

  reach_before : has_reach (bound same' (all_under new ps)) ≡ has_reach (bound same ps)
  unfolding all_open old_bound
  reach_before = ap has_reach bound_before
      ∙ any_map new_bound (reaches_body (map new_bound ps)) ps
      ∙ any_same (λ p. reaches_body (map new_bound ps) (new_bound p)) (λ p. reaches_body (map old_bound ps) (old_bound p)) ps (λ p i. reaches_before p)
      ∙ sym (any_map old_bound (reaches_body (map old_bound ps)) ps)

  pub faults_are_never_new : HomesLieOutside ps → private_bindings same' (all_under new ps) ≡ private_bindings same ps → NoNewFault same ps same' (all_under new ps)
  unfolding all_open
  faults_are_never_new homes e =
      let first : has_redeclaration same' (all_under new ps) ≡ true → has_redeclaration same ps ≡ true = redeclaration_before ps (λ q i. i) in
      let second : has_crossing same' (all_under new ps) ≡ true → has_crossing same ps ≡ true = crossing_before homes in
      let third : has_sloppy_function (all_under new ps) ≡ has_sloppy_function ps = sloppy_before in
      let fourth : has_undeclared same' (all_under new ps) ≡ has_undeclared same ps = undeclared_before e in
      let fifth : has_reach (bound same' (all_under new ps)) ≡ has_reach (bound same ps) = reach_before in
      record {
        redeclaration = first;
        crossing = second;
        sloppy_function = λ h. sym third ∙ h;
        undeclared = λ h. sym fourth ∙ h;
        reach = λ h. sym fifth ∙ h;
        all = either _ _ _ _ (either _ _ _ _ (either _ _ _ _ (either _ _ _ _ first second) (λ g. sym third ∙ g)) (λ g. sym fourth ∙ g)) (λ g. sym fifth ∙ g);
      }
    where
      either : (a b c d : Bool) → (a ≡ true → b ≡ true) → (c ≡ true → d ≡ true) → (a || c) ≡ true → (b || d) ≡ true
      either a b c d f g h = join (or_cases a c h)
        where
          join : (a ≡ true) ⊎ (c ≡ true) → (b || d) ≡ true
          join (inl x) = or_left b d (f x)
          join (inr x) = or_right b d (g x)
