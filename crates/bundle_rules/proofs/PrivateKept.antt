-- Joined modules keep their private names: class bodies are of one module, and no private place has a new name.
use Rattle.std.proofs.Common.{◌≡◌, ◌<◌, ◌≤◌, ℕ, ◌+◌, Bool, true, false, cond, ◌&&◌, not, nat_eq, List, [], ◌∷◌, map, Option, Some, None, find, slice_get, refl, sym, ap, ap₂, subst, ◌∙◌, arith, inl, inr, ◌⊎◌}
use Rattle.std.proofs.lemmas.Bool.{and_from, and_parts, both_ways, cases_order, eq-eqb, eqb-true}
use Rattle.std.specs.List.{AllByRecursion}
use Rattle.bundle_rules.proofs.BundlePlaces.{moves_at, new}
use Rattle.bundle_rules.proofs.ClassesLie.{Below, bodies_rise, classes_in, classes_lie}
use Rattle.bundle_rules.proofs.KeptApart.{Src, bare_part, ds, joint, old, src, whole}
use Rattle.bundle_rules.proofs.NewNamesApart.{Part}
use Rattle.bundle_rules.proofs.TaggedPlaces.{Tagged, same_tagged}
use Rattle.bundle_rules.specs.Bundles.{AreParts, modules_of}
use Rattle.bundle_rules.specs.Moves.{IsBare, Moves, no_moves}
use Rattle.bundle_rules.specs.NewNames.{name_given}
use Rattle.list_laws.proofs.FirstOf.{find_map, find_same}
use Rattle.list_laws.proofs.Members.{In}
use Rattle.list_laws.proofs.Tests.{tests_agree}
use Rattle.scope_rules.proofs.PlacesRise.{site_in}
use Rattle.scope_rules.specs.Bindings.{binding, node_of, same_name}
use Rattle.scope_rules.specs.Open.{all_open}
use Rattle.scope_rules.specs.PrivateNames.{declares_private, declares_private_name, is_innermost, is_member_key, private_binder, private_binding, private_bindings}
use Rattle.scope_rules.specs.Renamings.{all_under, under}
use Rattle.tree_nodes.specs.Tree.{Text, Tree, alone}
use Rattle.tree_places.specs.Chosen.{or_own}
use Rattle.tree_places.specs.Places.{Named, Place, Site}

-- a private place is no variable place
unbound : (ps : List Place) (q : Place) → q.site.private ≡ true → binding same_name ps q ≡ None
unfolding all_open
unbound ps q e = go q.site.private _ _ _ _ _ _ e
  where
    go : (b x y z : Bool) (o n p : Option ℕ) → b ≡ true → cond (not b && x) o (cond ((not b && y) && z) n (cond (not b && y) p None)) ≡ None
    go true x y z o n p e = refl
    go false x y z o n p e = absurd (cc)

declaring : (c : ℕ) (s : Site) → declares_private c s ≡ true → (s.private ≡ true) × (is_innermost c s.setting.classes ≡ true)
unfolding declares_private
declaring c s e =
    let p : ((s.private && is_member_key s.setting.role) ≡ true) × (is_innermost c s.setting.classes ≡ true) = and_parts _ _ e in
    ((and_parts s.private (is_member_key s.setting.role) p.0).0, p.1)

-- the innermost class body of a list that was moved
innermost : (d c : ℕ) (ks : List ℕ) (n : ℕ) → Below n ks → is_innermost c (map (λ k. d + k) ks) ≡ true → (d ≤ c) × (c < d + n)
unfolding all_open
innermost d c [] n b e = absurd (both_ways false refl e)
innermost d c (k ∷ ks) n b e = let f : d + k ≡ c = eqb-true _ _ e in let l : k < n = b.0 in (omega (arith, f), omega (arith, f, l))

module _ (ts us : List Tree) (given : List Text) (a : AreParts (modules_of ts) [] [] ts us given) (bare : AllByRecursion IsBare ts) where
  abbrev js : List (Named Tagged)
  js = joint ts us given a bare

  abbrev called : Named Tagged → Text
  called = new (whole ts us given a bare)

  abbrev moves : ℕ → Moves
  moves k = moves_at no_moves (ds ts us given a bare) k

  abbrev Source : Named Tagged → Type 0
  Source p = Src ts us given a bare p

  keeps_name : (p : Named Tagged) → In p js → p.site.private ≡ true → called p ≡ p.name.1
  unfolding or_own name_given
  keeps_name p i e =
      let s : Source p = src ts us given a bare p i in
      let f : s.place.site.private ≡ true = subst (λ (q : Named Tagged). q.site.private ≡ true) s.is e in
      s.named ∙ ap (λ (o : Option ℕ). or_own (name_given s.part.needing s.part.xs o) s.place.name) (unbound (old ts us given a bare s.part) s.place f)
      ∙ ap (λ (q : Named Tagged). q.name.1) (sym s.is)

  -- class bodies around a place are those of its module
  around : (k : ℕ) (d : Part) (q : Place) → slice_get (ds ts us given a bare) k ≡ Some d → In q (old ts us given a bare d) → Below (classes_in d.tree) q.site.setting.classes
  around k d q e i = classes_lie d.tree (bare_part ts us given a bare k d e) q.site (site_in (alone d.tree) q i)

  -- of which only one has a class body of this number
  one_module : (k j : ℕ) (d f : Part) (c : ℕ) → slice_get (ds ts us given a bare) k ≡ Some d → slice_get (ds ts us given a bare) j ≡ Some f → (moves k).bodies ≤ c → c < (moves k).bodies + classes_in d.tree → (moves j).bodies ≤ c → c < (moves j).bodies + classes_in f.tree → k ≡ j
  one_module k j d f c e g l h l' h' = go (cases_order k j)
    where
      go : (k ≡ j) ⊎ ((k < j) ⊎ (j < k)) → k ≡ j
      go (inl p) = p
      go (inr (inl p)) = absurd (omega (arith, bodies_rise no_moves (ds ts us given a bare) k j d p e, h, l'))
      go (inr (inr p)) = absurd (omega (arith, bodies_rise no_moves (ds ts us given a bare) j k f p g, h', l))

  -- a place declares a private name in a class body of the k-th module under the joined names exactly where it does under the tagged ones
  tests_same : (k : ℕ) (d : Part) (x : Text) (c : ℕ) → slice_get (ds ts us given a bare) k ≡ Some d → c < classes_in d.tree → (q : Named Tagged) → In q js
      → declares_private_name same_name x ((moves k).bodies + c) (under called q) ≡ declares_private_name same_tagged (0 + k, x) ((moves k).bodies + c) q
  unfolding all_open
  tests_same k d x c e l q i = tests_agree _ _ to from
    where
      s : Source q
      s = src ts us given a bare q i

      to : declares_private_name same_name x ((moves k).bodies + c) (under called q) ≡ true → declares_private_name same_tagged (0 + k, x) ((moves k).bodies + c) q ≡ true
      to h =
          let p : (declares_private ((moves k).bodies + c) q.site ≡ true) × (same_name (called q) x ≡ true) = and_parts _ _ h in
          let three = declaring ((moves k).bodies + c) q.site p.0 in
          let private : q.site.private ≡ true = three.0 in
          let inner : is_innermost ((moves k).bodies + c) q.site.setting.classes ≡ true = three.1 in
          let moved : is_innermost ((moves k).bodies + c) (map (λ n. (moves s.k).bodies + n) s.place.site.setting.classes) ≡ true = subst (λ (r : Named Tagged). is_innermost ((moves k).bodies + c) r.site.setting.classes ≡ true) s.is inner in
          let range = innermost (moves s.k).bodies ((moves k).bodies + c) s.place.site.setting.classes (classes_in s.part.tree) (around s.k s.part s.place s.at s.among) moved in
          let one : k ≡ s.k = one_module k s.k d s.part ((moves k).bodies + c) e s.at (omega arith) (omega (arith, l)) range.0 range.1 in
          let number : nat_eq q.name.0 (0 + k) ≡ true = eq-eqb _ _ (ap (λ (r : Named Tagged). r.name.0) s.is ∙ ap (λ (n : ℕ). 0 + n) (sym one)) in
          and_from _ _ p.0 (and_from _ _ number (subst (λ (y : Text). same_name y x ≡ true) (keeps_name q i private) p.1))

      from : declares_private_name same_tagged (0 + k, x) ((moves k).bodies + c) q ≡ true → declares_private_name same_name x ((moves k).bodies + c) (under called q) ≡ true
      from h =
          let p : (declares_private ((moves k).bodies + c) q.site ≡ true) × (same_tagged q.name (0 + k, x) ≡ true) = and_parts _ _ h in
          let private : q.site.private ≡ true = (declaring ((moves k).bodies + c) q.site p.0).0 in
          and_from _ _ p.0 (subst (λ (y : Text). same_name y x ≡ true) (sym (keeps_name q i private)) (and_parts (nat_eq q.name.0 (0 + k)) (same_name q.name.1 x) p.1).1)

  binder_same : (k : ℕ) (d : Part) (x : Text) (cs : List ℕ) → slice_get (ds ts us given a bare) k ≡ Some d → Below (classes_in d.tree) cs
      → private_binder same_name (all_under called js) x (map (λ c. (moves k).bodies + c) cs) ≡ private_binder same_tagged js (0 + k, x) (map (λ c. (moves k).bodies + c) cs)
  unfolding all_open
  binder_same k d x [] e b = refl
  binder_same k d x (c ∷ cs) e b =
      ap₂ (λ (o r : Option ℕ). elim o as (λ _. Option ℕ) [ Some n ↦ Some n | None ↦ r ]) first (binder_same k d x cs e b.1)
    where
      same_node : (o : Option (Named Tagged)) → node_of (elim o as (λ _. Option Place) [ None ↦ None | Some y ↦ Some (under called y) ]) ≡ node_of o
      same_node None = refl
      same_node (Some y) = refl

      first : node_of (find (declares_private_name same_name x ((moves k).bodies + c)) (all_under called js)) ≡ node_of (find (declares_private_name same_tagged (0 + k, x) ((moves k).bodies + c)) js)
      first =
          ap node_of (find_map (under called) (declares_private_name same_name x ((moves k).bodies + c)) js)
          ∙ same_node (find (λ q. declares_private_name same_name x ((moves k).bodies + c) (under called q)) js)
          ∙ ap node_of (find_same (λ q. declares_private_name same_name x ((moves k).bodies + c) (under called q)) (declares_private_name same_tagged (0 + k, x) ((moves k).bodies + c)) js (tests_same k d x c e b.0))

  one_same : (p : Named Tagged) → In p js → private_binding same_name (all_under called js) (under called p) ≡ private_binding same_tagged js p
  unfolding all_open
  one_same p i = go p.site.private refl
    where
      s : Source p
      s = src ts us given a bare p i

      there : private_binder same_name (all_under called js) p.name.1 p.site.setting.classes ≡ private_binder same_tagged js p.name p.site.setting.classes
      there = subst (λ (q : Named Tagged). private_binder same_name (all_under called js) q.name.1 q.site.setting.classes ≡ private_binder same_tagged js q.name q.site.setting.classes) (sym s.is)
          (binder_same s.k s.part s.place.name s.place.site.setting.classes s.at (around s.k s.part s.place s.at s.among))

      go : (b : Bool) → p.site.private ≡ b → cond b (private_binder same_name (all_under called js) (called p) p.site.setting.classes) None ≡ cond b (private_binder same_tagged js p.name p.site.setting.classes) None
      go true e = ap (λ (y : Text). private_binder same_name (all_under called js) y p.site.setting.classes) (keeps_name p i e) ∙ there
      go false e = refl

  each_same : (qs : List (Named Tagged)) → ((q : Named Tagged) → In q qs → In q js) → map (private_binding same_name (all_under called js)) (all_under called qs) ≡ map (private_binding same_tagged js) qs
  unfolding all_under
  each_same [] h = refl
  each_same (q ∷ qs) h = ap₂ (λ (o : Option ℕ) (os : List (Option ℕ)). o ∷ os) (one_same q (h q (inl refl))) (each_same qs (λ r i. h r (inr i)))

  pub private_kept : private_bindings same_name (all_under called js) ≡ private_bindings same_tagged js
  unfolding private_bindings
  private_kept = each_same js (λ q i. i)
