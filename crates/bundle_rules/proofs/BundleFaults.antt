-- Joined modules have no fault where none of them has one.
use Rattle.std.proofs.Common.{◌≡◌, ℕ, suc, ◌+◌, Bool, true, false, cond, ◌||◌, List, [], ◌∷◌, ◌++◌, map, Some, slice_get, refl, sym, ap, subst, ◌∙◌, arith, inl, inr}
use Rattle.std.proofs.lemmas.Bool.{both_ways, ne_eqb, or_from, or_parts}
use Rattle.std.specs.List.{AllByRecursion, list_any}
use Rattle.bundle_rules.proofs.BundlePlaces.{moves_at, new, tagged}
use Rattle.bundle_rules.proofs.JointFaults.{crosses_moved, reaches_moved, redeclared_none, sloppy_moved, undeclared_moved}
use Rattle.bundle_rules.proofs.KeptApart.{Src, ds, joint, keeps_apart, new_names, rises, split, src, tags_from, tree_of_part, whole}
use Rattle.bundle_rules.proofs.NewNamesApart.{Part}
use Rattle.bundle_rules.proofs.PrivateKept.{private_kept}
use Rattle.bundle_rules.proofs.TaggedPlaces.{Tagged, same_tagged, tag, tagged_tells}
use Rattle.bundle_rules.specs.Bundles.{AreParts, modules_of}
use Rattle.bundle_rules.specs.Joined.{joined}
use Rattle.bundle_rules.specs.Laws.{AreFaultless, BundlesHaveNoFault}
use Rattle.bundle_rules.specs.Moves.{IsBare, Moves, moves_after, no_moves}
use Rattle.list_laws.proofs.AllOf.{of_each}
use Rattle.list_laws.proofs.AnyOf.{any_from, any_map, any_none}
use Rattle.list_laws.proofs.Members.{In, in_from_Contains, in_left, in_map, in_right}
use Rattle.list_laws.proofs.Tests.{tested}
use Rattle.scope_rules.proofs.BindingsStay as stay
use Rattle.scope_rules.proofs.NoNewFaults.{faults_are_never_new}
use Rattle.scope_rules.proofs.PlacesRise.{one_place, site_in}
use Rattle.scope_rules.proofs.SameNames.{same_name_tells}
use Rattle.scope_rules.specs.Bindings.{Bound, binding, bound, node, same_name}
use Rattle.scope_rules.specs.Faults.{crosses, has_crossing, has_fault, has_reach, has_redeclaration, has_sloppy_function, has_undeclared, is_sloppy_function, is_undeclared, reaches_body}
use Rattle.scope_rules.specs.Homes.{home, is_var}
use Rattle.scope_rules.specs.Renamings.{HomesLieOutside, NoNewFault, all_under, under}
use Rattle.tree_nodes.specs.Tree.{Text, Tree, alone}
use Rattle.tree_places.proofs.Homed.{var_scopes_lie_outside}
use Rattle.tree_places.proofs.Outwards.{inside_refl}
use Rattle.tree_places.specs.Places.{Named, Place, Site, places, sites}
use Rattle.tree_places.specs.Scopes.{is_inside}

not_any : {X : Type 0} (test : X → Bool) (xs : List X) (x : X) → list_any test xs ≡ false → In x xs → test x ≡ false
not_any test xs x h i = tested (test x) (λ e. absurd (both_ways _ h (any_from test xs x i e))) (λ e. e)

record None (ps : List Place) : Type 0 where
  redeclaration : has_redeclaration same_name ps ≡ false
  crossing : has_crossing same_name ps ≡ false
  sloppy : has_sloppy_function ps ≡ false
  undeclared : has_undeclared same_name ps ≡ false
  reach : has_reach (bound same_name ps) ≡ false

faults_apart : (ps : List Place) → has_fault same_name ps ≡ false → None ps
unfolding has_fault
faults_apart ps e =
    let one : ((has_redeclaration same_name ps || has_crossing same_name ps || has_sloppy_function ps || has_undeclared same_name ps) ≡ false) × (has_reach (bound same_name ps) ≡ false) = or_parts _ _ e in
    let two : ((has_redeclaration same_name ps || has_crossing same_name ps || has_sloppy_function ps) ≡ false) × (has_undeclared same_name ps ≡ false) = or_parts _ _ one.0 in
    let three : ((has_redeclaration same_name ps || has_crossing same_name ps) ≡ false) × (has_sloppy_function ps ≡ false) = or_parts _ _ two.0 in
    let four : (has_redeclaration same_name ps ≡ false) × (has_crossing same_name ps ≡ false) = or_parts _ _ three.0 in
    record { redeclaration = four.0; crossing = four.1; sloppy = three.1; undeclared = two.1; reach = one.1 }

each_faultless : (ts : List Tree) → AreFaultless ts → (t : Tree) → In t ts → None (places (alone t))
each_faultless [] f t i = absurd i
each_faultless (u ∷ ts) f t (inl e) = subst (λ (v : Tree). None (places (alone v))) e (faults_apart (places (alone u)) f.0)
each_faultless (u ∷ ts) f t (inr i) = each_faultless ts f.1 t i

-- ---- a name is declared again

nothing : has_redeclaration same_tagged [] ≡ false
unfolding has_redeclaration
nothing = refl

no_redeclaration : (i : ℕ) (m : Moves) (ds : List Part) → ((k : ℕ) (d : Part) → slice_get ds k ≡ Some d → has_redeclaration same_name (places (alone d.tree)) ≡ false) → has_redeclaration same_tagged (tagged i m ds) ≡ false
no_redeclaration i m [] h = nothing
no_redeclaration i m (d ∷ ds) h =
    redeclared_none i m (places (alone d.tree)) (tagged (suc i) (moves_after m d.tree) ds)
    (λ q j. ne_eqb q.name.0 i (λ e. omega (arith, e, tags_from (suc i) (moves_after m d.tree) ds q j)))
    (h 0 d refl)
    (no_redeclaration (suc i) (moves_after m d.tree) ds (λ k f e. h (suc k) f e))

module _ (ts us : List Tree) (given : List Text) (a : AreParts (modules_of ts) [] [] ts us given) (bare : AllByRecursion IsBare ts) (faultless : AreFaultless ts) where
  abbrev js : List (Named Tagged)
  js = joint ts us given a bare

  abbrev parts : List Part
  parts = ds ts us given a bare

  abbrev moves : ℕ → Moves
  moves k = moves_at no_moves parts k

  abbrev called : Named Tagged → Text
  called = new (whole ts us given a bare)

  none : (k : ℕ) (d : Part) → slice_get parts k ≡ Some d → None (places (alone d.tree))
  none k d e = each_faultless ts faultless d.tree (tree_of_part ts us given a bare k d e)

  -- ---- each test at a place of the k-th module

  crosses_at : (k : ℕ) (d : Part) (q : Place) → slice_get parts k ≡ Some d → crosses same_tagged js (tag (0 + k) (moves k) q) ≡ crosses same_name (places (alone d.tree)) q
  crosses_at k d q e =
      let s = split 0 no_moves parts k d e in
      subst (λ (qs : List (Named Tagged)). crosses same_tagged qs (tag (0 + k) (moves k) q) ≡ crosses same_name (places (alone d.tree)) q) (sym s.is)
      (crosses_moved (0 + k) (moves k) (places (alone d.tree)) s.front s.back s.before s.after q)

  undeclared_at : (k : ℕ) (d : Part) (q : Place) → slice_get parts k ≡ Some d → is_undeclared same_tagged js (tag (0 + k) (moves k) q) ≡ is_undeclared same_name (places (alone d.tree)) q
  undeclared_at k d q e =
      let s = split 0 no_moves parts k d e in
      subst (λ (qs : List (Named Tagged)). is_undeclared same_tagged qs (tag (0 + k) (moves k) q) ≡ is_undeclared same_name (places (alone d.tree)) q) (sym s.is)
      (undeclared_moved (0 + k) (moves k) (places (alone d.tree)) s.front s.back s.before s.after q)

  there : (k : ℕ) (d : Part) (r : Place) → slice_get parts k ≡ Some d → In r (places (alone d.tree)) → In (tag (0 + k) (moves k) r) js
  there k d r e i =
      let s = split 0 no_moves parts k d e in
      let own = map (tag (0 + k) (moves k)) (places (alone d.tree)) in
      subst (In (tag (0 + k) (moves k) r)) (sym s.is) (in_right s.front (own ++ s.back) _ (in_left own s.back _ (in_map (tag (0 + k) (moves k)) (places (alone d.tree)) r i)))

  by_node : (k : ℕ) (d : Part) → slice_get parts k ≡ Some d → (q : Named Tagged) → In q js → (r : Place) → In r (places (alone d.tree)) → node q ≡ (moves k).nodes + node r → q.name.0 ≡ 0 + k
  unfolding node
  by_node k d e q iq r ir h = ap (λ (p : Named Tagged). p.name.0) (one_place 0 js q (tag (0 + k) (moves k) r) (rises ts us given a bare) iq (there k d r e ir) h)

  by_binding : (k : ℕ) (d : Part) → slice_get parts k ≡ Some d → (q : Named Tagged) → In q js → (r : Place) → In r (places (alone d.tree)) → binding same_tagged js q ≡ Some ((moves k).nodes + node r) → q.name.0 ≡ 0 + k
  by_binding k d e q iq r ir h =
      let f = stay.binding_source same_tagged tagged_tells js q iq ((moves k).nodes + node r) h in
      ap (λ (t : Tagged). t.0) (sym f.3) ∙ by_node k d e f.0 (in_from_Contains js f.0 f.2.among) r ir f.1

  sources : (d : Part) (p : Place) → In p (places (alone d.tree)) → (n : ℕ) → binding same_name (places (alone d.tree)) p ≡ Some n → (r : Place) × In r (places (alone d.tree)) × (node r ≡ n)
  sources d p ip n e =
      let f = stay.binding_source same_name same_name_tells (places (alone d.tree)) p ip n e in
      (f.0, in_from_Contains (places (alone d.tree)) f.0 f.2.among, f.1)

  abbrev reaches : List (Named Tagged) → Named Tagged → Bool
  reaches qs p = reaches_body (bound same_tagged qs) (record { place = p; binding = binding same_tagged qs p })

  abbrev reaches_own : List Place → Place → Bool
  reaches_own ps p = reaches_body (bound same_name ps) (record { place = p; binding = binding same_name ps p })

  reaches_at : (k : ℕ) (d : Part) (q : Place) → slice_get parts k ≡ Some d → In q (places (alone d.tree)) → reaches js (tag (0 + k) (moves k) q) ≡ reaches_own (places (alone d.tree)) q
  reaches_at k d q e i =
      let s = split 0 no_moves parts k d e in
      let ps = places (alone d.tree) in
      subst (λ (qs : List (Named Tagged)). ((p : Named Tagged) → In p qs → (r : Place) → In r ps → node p ≡ (moves k).nodes + node r → p.name.0 ≡ 0 + k)
      → ((p : Named Tagged) → In p qs → (r : Place) → In r ps → binding same_tagged qs p ≡ Some ((moves k).nodes + node r) → p.name.0 ≡ 0 + k)
      → reaches qs (tag (0 + k) (moves k) q) ≡ reaches_own ps q) (sym s.is)
      (λ n b. reaches_moved (0 + k) (moves k) ps s.front s.back s.before s.after n b (sources d) q i)
      (by_node k d e) (by_binding k d e)

  -- ---- none tells anything

  no_crossing : has_crossing same_tagged js ≡ false
  unfolding has_crossing
  no_crossing = any_none (crosses same_tagged js) js (λ p i.
      let s : Src ts us given a bare p = src ts us given a bare p i in
      ap (crosses same_tagged js) s.is ∙ crosses_at s.k s.part s.place s.at ∙ not_any (crosses same_name (places (alone s.part.tree))) (places (alone s.part.tree)) s.place (none s.k s.part s.at).crossing s.among)

  no_sloppy : has_sloppy_function js ≡ false
  unfolding has_sloppy_function
  no_sloppy = any_none (λ (p : Named Tagged). is_sloppy_function p.site) js (λ p i.
      let s : Src ts us given a bare p = src ts us given a bare p i in
      ap (λ (q : Named Tagged). is_sloppy_function q.site) s.is ∙ sloppy_moved (moves s.k) s.place.site
      ∙ not_any (λ (q : Place). is_sloppy_function q.site) (places (alone s.part.tree)) s.place (none s.k s.part s.at).sloppy s.among)

  no_undeclared : has_undeclared same_tagged js ≡ false
  unfolding has_undeclared
  no_undeclared = any_none (is_undeclared same_tagged js) js (λ p i.
      let s : Src ts us given a bare p = src ts us given a bare p i in
      ap (is_undeclared same_tagged js) s.is ∙ undeclared_at s.k s.part s.place s.at ∙ not_any (is_undeclared same_name (places (alone s.part.tree))) (places (alone s.part.tree)) s.place (none s.k s.part s.at).undeclared s.among)

  bound_any : {N : Type 0} (same : N → N → Bool) (test : Bound N → Bool) (ps : List (Named N)) → list_any test (bound same ps) ≡ list_any (λ p. test (record { place = p; binding = binding same ps p })) ps
  unfolding bound
  bound_any same test ps = any_map (λ p. record { place = p; binding = binding same ps p }) test ps

  no_reach : has_reach (bound same_tagged js) ≡ false
  unfolding has_reach
  no_reach = bound_any same_tagged (reaches_body (bound same_tagged js)) js ∙ any_none (reaches js) js (λ p i.
      let s : Src ts us given a bare p = src ts us given a bare p i in
      let ps = places (alone s.part.tree) in
      ap (reaches js) s.is ∙ reaches_at s.k s.part s.place s.at s.among
      ∙ not_any (reaches_own ps) ps s.place (sym (bound_any same_name (reaches_body (bound same_name ps)) ps) ∙ (none s.k s.part s.at).reach) s.among)

  no_fault : has_fault same_tagged js ≡ false
  unfolding has_fault
  no_fault = or_from _ _ (or_from _ _ (or_from _ _ (or_from _ _ (no_redeclaration 0 no_moves parts (λ k d e. (none k d e).redeclaration)) no_crossing) no_sloppy) no_undeclared) no_reach

  -- ---- and so none under the new names

  homes : HomesLieOutside js
  unfolding all_under under home
  homes p c =
      let i : In p js = in_from_Contains js p c in
      let w : In (under called p) (whole ts us given a bare) = subst (In (under called p)) (new_names ts us given a bare) (in_map (under called) js p i) in
      go (is_var p.site.setting.role) (of_each (λ (s : Site). is_inside s.setting.scope s.setting.var_scope ≡ true) (sites (alone (joined us))) p.site (var_scopes_lie_outside (alone (joined us))) (site_in (alone (joined us)) (under called p) w))
    where
      go : (b : Bool) → is_inside p.site.setting.scope p.site.setting.var_scope ≡ true → is_inside p.site.setting.scope (cond b p.site.setting.var_scope p.site.setting.scope) ≡ true
      go true w = w
      go false w = inside_refl p.site.setting.scope

  never : NoNewFault same_tagged js same_name (all_under called js)
  never = faults_are_never_new same_tagged same_name tagged_tells same_name_tells js called (keeps_apart ts us given a bare) homes (private_kept ts us given a bare)

  pub bundle_faultless : has_fault same_name (whole ts us given a bare) ≡ false
  bundle_faultless = tested (has_fault same_name (whole ts us given a bare))
      (λ e. absurd (both_ways _ no_fault (never.all (subst (λ (ps : List Place). has_fault same_name ps ≡ true) (sym (new_names ts us given a bare)) e)))) (λ e. e)

pub bundles_have_no_fault : BundlesHaveNoFault
bundles_have_no_fault ts w bare f b = ap (λ (t : Tree). has_fault same_name (places (alone t))) b.3 ∙ bundle_faultless ts b.0 b.1 b.2 bare f
