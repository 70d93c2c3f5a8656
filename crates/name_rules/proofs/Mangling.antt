-- A tree under its new names is mangled, and as sound as it was.
use Rattle.std.specs.List.{list_all}
use Rattle.std.specs.Prelude.{◌≡◌, ◌⊎◌, ◌≤◌, ◌<◌, ℕ, ◌+◌, Bool, true, false, cond, not, ◌||◌, List, [], ◌∷◌, length, map, filter, get_or, Option, Some, None, is_some}
use Rattle.std.proofs.Common.{refl, sym, ap, ◌∙◌, subst, arith, inl, inr}
use Rattle.std.proofs.lemmas.Bool.{or_cases, or_left, or_right, and_parts, and_from, both_ways, eqb-true}
use Rattle.std.proofs.lemmas.List.{length-map}
use Rattle.list_laws.proofs.AllOf.{AllOf, of_each}
use Rattle.list_laws.proofs.AnyOf.{all_map}
use Rattle.list_laws.proofs.Counting.{no_more}
use Rattle.list_laws.proofs.Members.{In, in_from_Contains, from_append, from_filter, from_map, in_map}
use Rattle.list_laws.proofs.PairsOf.{different_map, PairsOf}
use Rattle.list_laws.proofs.Tests.{tested, told}
use Rattle.tree_nodes.specs.Tree.{Parts, Text}
use Rattle.tree_places.proofs.Blind.{sites_renamed}
use Rattle.tree_places.specs.Places.{Place, Site, named_by, names, places, scopes, sites, withs}
use Rattle.tree_places.specs.Scopes.{Scope, same_scope}
use Rattle.scope_rules.proofs.BindingsStay.{binding_source, bindings_stay}
use Rattle.scope_rules.proofs.NoNewFaults.{faults_are_never_new}
use Rattle.scope_rules.proofs.PlacesRise.{one_of_number}
use Rattle.scope_rules.proofs.SameNames.{same_name_tells, among_in, from_distinct, in_among, to_distinct}
use Rattle.scope_rules.specs.Bindings.{binding, bindings, bound, is_node, node, same_name}
use Rattle.scope_rules.specs.Evals.{is_open}
use Rattle.scope_rules.specs.Faults.{has_fault, has_undeclared}
use Rattle.scope_rules.specs.Homes.{declares, home, refers}
use Rattle.scope_rules.specs.PrivateNames.{declaring_class, distinct, distinct_after, is_among, private_bindings, private_names}
use Rattle.scope_rules.specs.Renamings.{IsBindingOf, KeepsApart, NoNewFault, all_under, under}
use Rattle.name_rules.proofs.CountFrom.{count_apart, count_length, from_count}
use Rattle.name_rules.proofs.FirstUntaken.{free_spelled}
use Rattle.name_rules.proofs.GivenNamesFit.{given_name_in, given_names_fit}
use Rattle.name_rules.proofs.GivenNamesKeepBindings.{given_by_slot, named_under}
use Rattle.name_rules.proofs.GroupsInOrder.{slots_are_fewest}
use Rattle.name_rules.proofs.PrivateChains.{private_names_keep_bindings}
use Rattle.name_rules.proofs.Ranks.{in_count}
use Rattle.name_rules.proofs.SlotNamesKeepApart.{Placed, home_inside, keeps_apart, kept_name, member_at, members_at, placed}
use Rattle.name_rules.proofs.SlotsAreFewest.{slotted_groups}
use Rattle.name_rules.proofs.SlotsAreUsed.{slot_found, slot_used}
use Rattle.name_rules.specs.FreeNames.{is_free, is_spelled, is_taken, is_unchanged}
use Rattle.name_rules.specs.GivenNames.{count_from, free_names, names_of_slots}
use Rattle.name_rules.specs.Groups.{Group, Member, greatest_width, group_at, group_led_by, groups, groups_of, leads, members}
use Rattle.name_rules.specs.Kept.{kept_alone}
use Rattle.name_rules.specs.Mangled.{IsMangled, changes, is_one_name, is_with, names_where, same_number, stays}
use Rattle.name_rules.specs.MangledLaws.{HasNewNames}
use Rattle.name_rules.specs.Open.{all_open}
use Rattle.name_rules.specs.Options.{Options}
use Rattle.name_rules.specs.PrivateNumbers.{index_of, is_of_open_class, new_private_name, number_in, private_number, with_private}
use Rattle.name_rules.specs.ShortNames.{short}
use Rattle.name_rules.specs.SlotNames.{group_in, named_by_slot}
use Rattle.name_rules.specs.Slots.{Slotted, number_of_slots, slot_of, slots_of}

-- ---- lists

all_from : (test : Text → Bool) (xs : List Text) → AllOf (λ x. test x ≡ true) xs → list_all test xs ≡ true
all_from test [] a = refl
all_from test (x ∷ xs) a = and_from _ _ a.0 (all_from test xs a.1)

one_from : (v : Text) (xs : List Text) → AllOf (λ x. x ≡ v) xs → is_one_name xs ≡ true
unfolding all_open
one_from v [] a = refl
one_from v (x ∷ xs) a = go xs a.1
  where
    go : (ys : List Text) → AllOf (λ y. y ≡ v) ys → list_all (same_name x) ys ≡ true
    go [] b = refl
    go (y ∷ ys) b = and_from _ _ ((same_name_tells x y).1 (a.0 ∙ sym b.0)) (go ys b.1)

-- the names under `new` of the places whose member passes
where_all : (f : Place → Member) (new : Place → Text) (test : Member → Bool) (P : Text → Type 0) (ps : List Place) → ((p : Place) → In p ps → test (f p) ≡ true → P (new p)) → AllOf P (names_where test (map f ps) (map (under new) ps))
unfolding all_open
where_all f new test P [] h = tt
where_all f new test P (p ∷ ps) h = go (test (f p)) refl (where_all f new test P ps (λ q i. h q (inr i)))
  where
    go : (b : Bool) → test (f p) ≡ b → AllOf P (names_where test (map f ps) (map (under new) ps)) → AllOf P (cond b (new p ∷ names_where test (map f ps) (map (under new) ps)) (names_where test (map f ps) (map (under new) ps)))
    go true e ih = (h p (inl refl) e, ih)
    go false e ih = ih

where_in : (f : Place → Member) (new : Place → Text) (test : Member → Bool) (ps : List Place) (p : Place) → In p ps → test (f p) ≡ true → In (new p) (names_where test (map f ps) (map (under new) ps))
unfolding all_open
where_in f new test [] p i e = absurd i
where_in f new test (q ∷ qs) p i e = go (test (f q)) refl i (where_in f new test qs p)
  where
    go : (b : Bool) → test (f q) ≡ b → (q ≡ p) ⊎ In p qs → (In p qs → test (f p) ≡ true → In (new p) (names_where test (map f qs) (map (under new) qs)))
        → In (new p) (cond b (new q ∷ names_where test (map f qs) (map (under new) qs)) (names_where test (map f qs) (map (under new) qs)))
    go true k (inl s) ih = inl (ap new s)
    go true k (inr j) ih = inr (ih j e)
    go false k (inl s) ih = absurd (both_ways _ k (subst (λ (x : Place). test (f x) ≡ true) (sym s) e))
    go false k (inr j) ih = ih j e

where_same : (f : Place → Member) (new : Place → Text) (test : Member → Bool) (ps : List Place) → ((p : Place) → In p ps → test (f p) ≡ true → new p ≡ p.name) → names_where test (map f ps) (map (under new) ps) ≡ names_where test (map f ps) ps
unfolding all_open
where_same f new test [] h = refl
where_same f new test (p ∷ ps) h = go (test (f p)) refl (where_same f new test ps (λ q i. h q (inr i)))
  where
    go : (b : Bool) → test (f p) ≡ b → names_where test (map f ps) (map (under new) ps) ≡ names_where test (map f ps) ps
        → cond b (new p ∷ names_where test (map f ps) (map (under new) ps)) (names_where test (map f ps) (map (under new) ps)) ≡ cond b (p.name ∷ names_where test (map f ps) ps) (names_where test (map f ps) ps)
    go true e ih = ap (λ x. x ∷ names_where test (map f ps) (map (under new) ps)) (h p (inl refl) e) ∙ ap (λ xs. p.name ∷ xs) ih
    go false e ih = ih

-- the names of a list once each are all different, and those of the list
distinct_new : (before xs : List Text) (x : Text) → In x (distinct_after before xs) → is_among before x ≡ false
unfolding all_open
distinct_new before [] x i = absurd i
distinct_new before (y ∷ ys) x i = go (is_among before y) refl i (distinct_new before ys x) (distinct_new (y ∷ before) ys x)
  where
    second : (a b : Bool) → (a || b) ≡ false → b ≡ false
    second true b h = absurd (both_ways true h refl)
    second false b h = h

    go : (b : Bool) → is_among before y ≡ b → In x (elim b as (λ c. List Text) [ true ↦ distinct_after before ys | false ↦ y ∷ distinct_after (y ∷ before) ys ])
        → (In x (distinct_after before ys) → is_among before x ≡ false) → (In x (distinct_after (y ∷ before) ys) → (same_name x y || is_among before x) ≡ false) → is_among before x ≡ false
    go true e j ih jh = ih j
    go false e (inl s) ih jh = subst (λ (z : Text). is_among before z ≡ false) s e
    go false e (inr j) ih jh = second (same_name x y) (is_among before x) (jh j)

distinct_names_differ : (before xs : List Text) → PairsOf (λ x y. x ≡ y → ⊥) (distinct_after before xs)
unfolding all_open
distinct_names_differ before [] = tt
distinct_names_differ before (y ∷ ys) = go (is_among before y) (distinct_names_differ before ys) (distinct_names_differ (y ∷ before) ys)
  where
    other : (zs : List Text) → ((z : Text) → In z zs → is_among (y ∷ before) z ≡ false) → AllOf (λ z. y ≡ z → ⊥) zs
    other [] f = tt
    other (z ∷ zs) f = ((λ e. both_ways _ (f z (inl refl)) (or_left _ _ ((same_name_tells z y).1 (sym e)))), other zs (λ w i. f w (inr i)))

    go : (b : Bool) → PairsOf (λ x z. x ≡ z → ⊥) (distinct_after before ys) → PairsOf (λ x z. x ≡ z → ⊥) (distinct_after (y ∷ before) ys)
        → PairsOf (λ x z. x ≡ z → ⊥) (elim b as (λ c. List Text) [ true ↦ distinct_after before ys | false ↦ y ∷ distinct_after (y ∷ before) ys ])
    go true ih jh = ih
    go false ih jh = (other (distinct_after (y ∷ before) ys) (distinct_new (y ∷ before) ys), jh)

-- ---- what has a binding, and what keeps its name, isn't private

declares_open : (s : Site) → declares s ≡ true → s.private ≡ false
unfolding all_open
declares_open s h = flip s.private (and_parts _ _ h).0
  where
    flip : (b : Bool) → not b ≡ true → b ≡ false
    flip true e = sym e
    flip false e = refl

refers_open : (s : Site) → refers s ≡ true → s.private ≡ false
unfolding all_open
refers_open s h = flip s.private (and_parts _ _ h).0
  where
    flip : (b : Bool) → not b ≡ true → b ≡ false
    flip true e = sym e
    flip false e = refl

open_stays : (ps : List Place) (x : Text) (cs : List ℕ) (c : ℕ) → declaring_class ps x cs ≡ Some c → is_open ps c ≡ true → private_number ps x cs ≡ None
unfolding all_open
open_stays ps x [] c e f = refl
open_stays ps x (d ∷ ds) c e f = go (is_among (private_names ps d) x) e (λ k. open_stays ps x ds c k f)
  where
    some : Some d ≡ Some c → d ≡ c
    some q = ap (λ o. elim o as (λ z. ℕ) [ None ↦ d | Some z ↦ z ]) q

    go : (b : Bool) → cond b (Some d) (declaring_class ps x ds) ≡ Some c → (declaring_class ps x ds ≡ Some c → private_number ps x ds ≡ None)
        → cond b (cond (is_open ps d) None (Some (number_in ps ds (index_of x (private_names ps d))))) (private_number ps x ds) ≡ None
    go true q ih = ap (λ b. cond b None (Some (number_in ps ds (index_of x (private_names ps d))))) (subst (λ (n : ℕ). is_open ps n ≡ true) (sym (some q)) f)
    go false q ih = ih q

pub with_map : (ps : List Place) (f : Place → Text) (qs : List Place) → with_private ps qs (map f qs) ≡ map (λ p. cond p.site.private (new_private_name ps p) (f p)) qs
unfolding all_open
with_map ps f [] = refl
with_map ps f (q ∷ qs) = ap (λ xs. cond q.site.private (new_private_name ps q) (f q) ∷ xs) (with_map ps f qs)

-- a group is led by a member that leads
pub from_leading : (ss : List Scope) (ms : List Member) (g : Group) → In g (groups ss ms) → (m : Member) × In m ms × (leads m ≡ true) × (group_led_by m ≡ g)
unfolding all_open
from_leading [] ms g i = absurd i
from_leading (s ∷ ss) ms g i = go (from_append (map group_led_by (filter (λ m. same_scope (home m.place.site) s) (filter leads ms))) (groups ss ms) g i) (from_leading ss ms g)
  where
    go : In g (map group_led_by (filter (λ m. same_scope (home m.place.site) s) (filter leads ms))) ⊎ In g (groups ss ms) → (In g (groups ss ms) → (m : Member) × In m ms × (leads m ≡ true) × (group_led_by m ≡ g))
        → (m : Member) × In m ms × (leads m ≡ true) × (group_led_by m ≡ g)
    go (inl j) ih =
        let w : (m : Member) × In m (filter (λ m. same_scope (home m.place.site) s) (filter leads ms)) × (group_led_by m ≡ g) = from_map group_led_by (filter (λ m. same_scope (home m.place.site) s) (filter leads ms)) g j in
        let f : In w.0 ms × (leads w.0 ≡ true) = from_filter leads ms w.0 (from_filter (λ m. same_scope (home m.place.site) s) (filter leads ms) w.0 w.1).0 in
        (w.0, f.0, f.1, w.2)
    go (inr j) ih = ih j

-- ---- a tree under its new names

module _ (o : Options) (t u : Parts) (has : HasNewNames o t u) where
  abbrev pub name : ℕ → Text
  name k = get_or (names_of_slots o t) k []

  abbrev slotted : ℕ
  slotted = number_of_slots (slots_of o t)

  pub new : Place → Text
  new p = cond p.site.private (new_private_name (places t) p) (named_by_slot o t name p)

  pub new_open : (p : Place) → p.site.private ≡ false → new p ≡ named_by_slot o t name p
  unfolding new
  new_open p e = ap (λ b. cond b (new_private_name (places t) p) (named_by_slot o t name p)) e

  new_private : (p : Place) → p.site.private ≡ true → new p ≡ new_private_name (places t) p
  unfolding new
  new_private p e = ap (λ b. cond b (new_private_name (places t) p) (named_by_slot o t name p)) e

  pub places_new : places u ≡ map (under new) (places t)
  unfolding all_open new
  places_new =
      ap (λ ss. named_by ss (names u)) (sites_renamed t u has.renamed)
      ∙ ap (named_by (sites t)) (has.names ∙ ap (with_private (places t) (places t)) (given_by_slot o t) ∙ with_map (places t) (named_by_slot o t name) (places t))
      ∙ named_under new (sites t) (names t)

  -- ---- bindings

  bound_open : (p : Place) (n : ℕ) → binding same_name (places t) p ≡ Some n → p.site.private ≡ false
  unfolding all_open member_at
  bound_open p n e = tested p.site.private (λ k. absurd (none_some' (sym (none p.site k p refl) ∙ e))) (λ k. k)
    where
      none_some' : None ≡ Some n → ⊥
      none_some' q = both_ways false refl (ap (λ x. elim x as (λ y. Bool) [ None ↦ false | Some y ↦ true ]) q)

      none : (s : Site) → s.private ≡ true → (q : Place) → q.site ≡ s → binding same_name (places t) q ≡ None
      none s k q w = rw (w, k) refl

  keeps : KeepsApart same_name (places t) new
  keeps =
      let k : KeepsApart same_name (places t) (named_by_slot o t name) = keeps_apart o t name has.rooted (given_names_fit o t) in
      record {
        in_order = k.in_order;
        constant = λ p b i j e.
            let s : (c : Place) × (node c ≡ node b) × IsBindingOf same_name (places t) c × (c.name ≡ p.name) = binding_source same_name same_name_tells (places t) p (in_from_Contains (places t) p i) (node b) e in
            let q : s.0 ≡ b = one_of_number t s.0 b (in_from_Contains (places t) s.0 s.2.among) (in_from_Contains (places t) b j) s.1 in
            let own : binding same_name (places t) b ≡ Some (node b) = subst (λ (x : Place). binding same_name (places t) x ≡ Some (node x)) q s.2.own in
            new_open p (bound_open p (node b) e) ∙ k.constant p b i j e ∙ sym (new_open b (bound_open b (node b) own));
        no_new_equality = λ b c ib ic live e. k.no_new_equality b c ib ic live (sym (new_open b (declares_open b.site ib.declares)) ∙ e ∙ new_open c (declares_open c.site ic.declares));
        no_capture = λ p b i r e ib inside n. k.no_capture p b i r e ib inside (sym (new_open p (refers_open p.site r)) ∙ n ∙ new_open b (declares_open b.site ib.declares));
      }

  bound_same : bindings same_name (places u) ≡ bindings same_name (places t)
  unfolding all_open member_at
  bound_same = ap (bindings same_name) places_new ∙ bindings_stay same_name same_name same_name_tells same_name_tells (places t) new keeps

  private_same : has_undeclared same_name (places t) ≡ false → private_bindings same_name (places u) ≡ private_bindings same_name (places t)
  unfolding all_open member_at
  private_same sound = ap (private_bindings same_name) places_new ∙ private_names_keep_bindings t new (λ p i e. new_private p e) sound

  -- ---- names that stay

  unchanged_name : (p : Place) → In p (places t) → is_unchanged (member_at o t p) ≡ true → new p ≡ p.name
  unfolding all_open member_at
  unchanged_name p i e =
      let two : ((declares p.site || refers p.site) ≡ true) × (not (is_some (group_in o t p)) ≡ true) = and_parts _ _ e in
      new_open p (open_of (or_cases _ _ two.0)) ∙ kept_name o t name has.rooted (given_names_fit o t) p (none_of (group_in o t p) two.1)
    where
      open_of : (declares p.site ≡ true) ⊎ (refers p.site ≡ true) → p.site.private ≡ false
      open_of (inl d) = declares_open p.site d
      open_of (inr r) = refers_open p.site r

      none_of : (g : Option ℕ) → not (is_some g) ≡ true → g ≡ None
      none_of None h = refl
      none_of (Some n) h = absurd (both_ways false refl h)

  open_class_name : (p : Place) → is_of_open_class (places t) p ≡ true → new p ≡ p.name
  unfolding all_open member_at
  open_class_name p e = tested p.site.private
      (λ k. new_private p k ∙ ap (λ n. elim n as (λ x. Text) [ None ↦ p.name | Some j ↦ short j ]) (told (declaring_class (places t) p.name p.site.setting.classes)
      (λ none. absurd (both_ways false refl (sym (at k none) ∙ e)))
      (λ c f. open_stays (places t) p.name p.site.setting.classes c f (sym (at k f) ∙ e))))
      (λ k. absurd (both_ways false refl (sym (ap (λ b. cond b (elim (declaring_class (places t) p.name p.site.setting.classes) as (λ x. Bool) [ None ↦ false | Some c ↦ is_open (places t) c ]) false) k) ∙ e)))
    where
      at : p.site.private ≡ true → {d : Option ℕ} → declaring_class (places t) p.name p.site.setting.classes ≡ d
          → cond p.site.private (elim (declaring_class (places t) p.name p.site.setting.classes) as (λ x. Bool) [ None ↦ false | Some c ↦ is_open (places t) c ]) false ≡ (elim d as (λ x. Bool) [ None ↦ false | Some c ↦ is_open (places t) c ])
      at k f = ap (λ b. cond b (elim (declaring_class (places t) p.name p.site.setting.classes) as (λ x. Bool) [ None ↦ false | Some c ↦ is_open (places t) c ]) false) k ∙ ap (λ x. elim x as (λ y. Bool) [ None ↦ false | Some c ↦ is_open (places t) c ]) f

  staying : names_where (stays (places t)) (members o t) (places u) ≡ names_where (stays (places t)) (members o t) (places t)
  unfolding all_open member_at
  staying =
      ap (names_where (stays (places t)) (members o t)) places_new
      ∙ ap (λ ms. names_where (stays (places t)) ms (map (under new) (places t))) (members_at o t)
      ∙ where_same (member_at o t) new (stays (places t)) (places t) (λ p i e. go p i (or_cases _ _ e))
      ∙ ap (λ ms. names_where (stays (places t)) ms (places t)) (sym (members_at o t))
    where
      go : (p : Place) → In p (places t) → (is_unchanged (member_at o t p) ≡ true) ⊎ (is_of_open_class (places t) p ≡ true) → new p ≡ p.name
      go p i (inl e) = unchanged_name p i e
      go p i (inr e) = open_class_name p e

  -- ---- names that change

  -- a place of a group has the name of its slot
  pub slot_name_of : (p : Place) (g : ℕ) → In p (places t) → group_in o t p ≡ Some g → Placed o t name has.rooted (given_names_fit o t) p g
  slot_name_of p g i e = placed o t name has.rooted (given_names_fit o t) p g i e

  pub grouped_open : (p : Place) (g : ℕ) → group_in o t p ≡ Some g → p.site.private ≡ false
  unfolding all_open member_at
  grouped_open p g e = told (binding same_name (places t) p)
      (λ none. absurd (both_ways false refl (ap (λ x. elim x as (λ y. Bool) [ None ↦ false | Some y ↦ true ]) (sym (ap (group_at (kept_alone o (withs t) (places t) (bound same_name (places t))) (places t) (bound same_name (places t))) none) ∙ e))))
      (λ n b. bound_open p n b)

  some_of : (g : Option ℕ) → is_some g ≡ true → (n : ℕ) × (g ≡ Some n)
  some_of None h = absurd (both_ways false refl h)
  some_of (Some n) h = (n, refl)

  -- all places that change, by their new names
  pub changed_all : (P : Text → Type 0) → ((p : Place) (g : ℕ) (i : In p (places t)) (e : group_in o t p ≡ Some g) → P (name (slot_name_of p g i e).slotted.slot)) → AllOf P (names_where changes (members o t) (places u))
  unfolding all_open member_at
  changed_all P f = subst (λ (us : List Place). AllOf P (names_where changes (members o t) us)) (sym places_new)
      (subst (λ (ms : List Member). AllOf P (names_where changes ms (map (under new) (places t)))) (sym (members_at o t))
      (where_all (member_at o t) new changes P (places t) (λ p i e.
      let g : (n : ℕ) × (group_in o t p ≡ Some n) = some_of (group_in o t p) e in
      subst P (sym (new_open p (grouped_open p g.0 g.1) ∙ (slot_name_of p g.0 i g.1).called)) (f p g.0 i g.1))))

  one_name_each : list_all (λ m. is_one_name (names_where (is_with m) (members o t) (places u))) (members o t) ≡ true
  unfolding all_open member_at
  one_name_each = subst (λ (ms : List Member). list_all (λ m. is_one_name (names_where (is_with m) (members o t) (places u))) ms ≡ true) (sym (members_at o t))
      (all_map (member_at o t) (λ m. is_one_name (names_where (is_with m) (members o t) (places u))) (places t) (λ p i.
      ap (λ us. is_one_name (names_where (is_with (member_at o t p)) (members o t) us)) places_new
      ∙ ap (λ ms. is_one_name (names_where (is_with (member_at o t p)) ms (map (under new) (places t)))) (members_at o t)
      ∙ told (group_in o t p)
      (λ none. one_from [] (names_where (is_with (member_at o t p)) (map (member_at o t) (places t)) (map (under new) (places t)))
      (where_all (member_at o t) new (is_with (member_at o t p)) (λ x. x ≡ []) (places t)
      (λ q j e. absurd (both_ways false refl (sym (ap is_some none) ∙ (and_parts _ _ e).0)))))
      (λ g pg. one_from (name (slot_name_of p g i pg).slotted.slot) (names_where (is_with (member_at o t p)) (map (member_at o t) (places t)) (map (under new) (places t)))
      (where_all (member_at o t) new (is_with (member_at o t p)) (λ x. x ≡ name (slot_name_of p g i pg).slotted.slot) (places t)
      (λ q j e.
      let same : binding same_name (places t) p ≡ binding same_name (places t) q = same_told (binding same_name (places t) p) (binding same_name (places t) q) (and_parts _ _ e).1 in
      let qg : group_in o t q ≡ Some g = ap (group_at (kept_alone o (withs t) (places t) (bound same_name (places t))) (places t) (bound same_name (places t))) (sym same) ∙ pg in
      let slots_one : (slot_name_of q g j qg).slotted.slot ≡ (slot_name_of p g i pg).slotted.slot = some_one' (sym (slot_name_of q g j qg).found ∙ (slot_name_of p g i pg).found) in
      new_open q (grouped_open q g qg) ∙ (slot_name_of q g j qg).called ∙ ap name slots_one)))))
    where
      same_told : (x y : Option ℕ) → same_number x y ≡ true → x ≡ y
      same_told None None h = refl
      same_told None (Some n) h = absurd (both_ways false refl h)
      same_told (Some m) None h = absurd (both_ways false refl h)
      same_told (Some m) (Some n) h = ap Some (eqb-true m n h)

      some_one' : {m n : ℕ} → Some m ≡ Some n → m ≡ n
      some_one' {m} q = ap (λ x. elim x as (λ y. ℕ) [ None ↦ m | Some y ↦ y ]) q

  free_each : list_all (is_free o (members o t)) (names_where changes (members o t) (places u)) ≡ true
  unfolding all_open member_at
  free_each = all_from (is_free o (members o t)) (names_where changes (members o t) (places u)) (changed_all (λ x. is_free o (members o t) x ≡ true) (λ p g i e.
      let d : Placed o t name has.rooted (given_names_fit o t) p g = slot_name_of p g i e in
      and_from _ _ (of_each (λ x. is_spelled x ≡ true) (free_names o (members o t) slotted) (name d.slotted.slot) (free_spelled o (members o t) slotted) (given_name_in o t d.slotted.slot d.below))
      (flip (is_taken o (members o t) (name d.slotted.slot)) ((given_names_fit o t).untaken d.slotted.slot d.below))))
    where
      flip : (b : Bool) → b ≡ false → not b ≡ true
      flip true e = sym e
      flip false e = refl

  -- ---- as few as the slots

  abbrev pub changed : List Text
  changed = names_where changes (members o t) (places u)

  names_by_slots : List Text
  names_by_slots = map name (count_from slotted 0)

  names_apart : PairsOf (λ x y. x ≡ y → ⊥) names_by_slots
  unfolding names_by_slots
  names_apart = different_map name (count_from slotted 0) (count_apart slotted 0) (λ j k a b e.
      let p : j < slotted + 0 = from_count slotted 0 j a in
      let q : k < slotted + 0 = from_count slotted 0 k b in
      (given_names_fit o t).different j k (omega (arith, p)) (omega (arith, q)) e)

  in_names : (k : ℕ) → k < slotted → In (name k) names_by_slots
  unfolding names_by_slots
  in_names k h = in_map name (count_from slotted 0) k (subst (λ (m : ℕ). In m (count_from slotted 0)) (let e : k + 0 ≡ k = omega arith in e) (in_count slotted 0 k h))

  -- each name of a slot is that of the leader of a group with the slot
  pub used_name : (k : ℕ) → k < slotted → In (name k) changed
  unfolding all_open member_at
  used_name k h =
      let d : (d : Slotted) × In d (slots_of o t) × (d.slot ≡ k) = slot_used o t k h in
      let g : In d.0.group (groups_of o t) = subst (In d.0.group) (slotted_groups (members o t) [] (groups_of o t)) (in_map (λ (x : Slotted). x.group) (slots_of o t) d.0 d.1) in
      let m : (m : Member) × In m (members o t) × (leads m ≡ true) × (group_led_by m ≡ d.0.group) = from_leading (scopes t) (members o t) d.0.group g in
      let p : (p : Place) × In p (places t) × (member_at o t p ≡ m.0) = from_map (member_at o t) (places t) m.0 (subst (In m.0) (members_at o t) m.1) in
      let lead : leads (member_at o t p.0) ≡ true = subst (λ (x : Member). leads x ≡ true) (sym p.2) m.2 in
      let own : group_in o t p.0 ≡ Some (node p.0) = node_told (group_in o t p.0) (node p.0) (and_parts _ _ lead).1 in
      let number : node p.0 ≡ d.0.group.leader = ap (λ (x : Member). node x.place) p.2 ∙ ap (λ (x : Group). x.leader) m.3 in
      let s : Placed o t name has.rooted (given_names_fit o t) p.0 (node p.0) = slot_name_of p.0 (node p.0) p.1 own in
      let slot_k : s.slotted.slot ≡ k = some_one' (sym s.found ∙ ap (λ n. slot_of (slots_of o t) (Some n)) number ∙ slot_found o t d.0 d.1) ∙ d.2 in
      subst (λ (x : Text). In x (names_where changes (members o t) (places u))) (new_open p.0 (grouped_open p.0 (node p.0) own) ∙ s.called ∙ ap name slot_k)
      (subst (λ (us : List Place). In (new p.0) (names_where changes (members o t) us)) (sym places_new)
      (subst (λ (ms : List Member). In (new p.0) (names_where changes ms (map (under new) (places t)))) (sym (members_at o t))
      (where_in (member_at o t) new changes (places t) p.0 p.1 (ap is_some own))))
    where
      node_told : (x : Option ℕ) (n : ℕ) → is_node x n ≡ true → x ≡ Some n
      node_told None n q = absurd (both_ways false refl q)
      node_told (Some m) n q = ap Some (eqb-true m n q)

      some_one' : {m n : ℕ} → Some m ≡ Some n → m ≡ n
      some_one' {m} q = ap (λ x. elim x as (λ y. ℕ) [ None ↦ m | Some y ↦ y ]) q

  pub fewest_names : length (distinct (names_where changes (members o t) (places u))) ≡ greatest_width o t
  unfolding all_open names_by_slots
  fewest_names =
      let xs : List Text = names_where changes (members o t) (places u) in
      let most : length (distinct xs) ≤ length names_by_slots = no_more same_name same_name_tells (distinct xs) names_by_slots (distinct_names_differ [] xs)
      (λ x i. of_each (λ y. In y names_by_slots) xs x (changed_all (λ y. In y names_by_slots) (λ p g j e. in_names (slot_name_of p g j e).slotted.slot (slot_name_of p g j e).below))
      (among_in xs x (from_distinct [] xs x (in_among (distinct xs) x i)))) in
      let least : length names_by_slots ≤ length (distinct xs) = no_more same_name same_name_tells names_by_slots (distinct xs) names_apart
      (λ x i. let w : (k : ℕ) × In k (count_from slotted 0) × (name k ≡ x) = from_map name (count_from slotted 0) x i in
      let b : w.0 < slotted + 0 = from_count slotted 0 w.0 w.1 in
      among_in (distinct xs) x (to_distinct [] xs x (in_among xs x (subst (λ (y : Text). In y xs) w.2 (used_name w.0 (omega (arith, b))))) refl)) in
      let many : length names_by_slots ≡ slotted = length-map (count_from slotted 0) name ∙ count_length slotted 0 in
      omega (arith, most, least, many, slots_are_fewest o t)

  pub is_mangled : has_undeclared same_name (places t) ≡ false → IsMangled t o u
  is_mangled sound = record { renamed = has.renamed; bound = bound_same; private = private_same sound; stay = staying; one = one_name_each; free = free_each; fewest = fewest_names }

  pub is_sound : has_fault same_name (places t) ≡ false → has_fault same_name (places u) ≡ false
  unfolding all_open member_at
  is_sound sound = tested (has_fault same_name (places u)) (λ e. absurd (both_ways _ sound (never.all (subst (λ (us : List Place). has_fault same_name us ≡ true) places_new e)))) (λ e. e)
    where
      declared : has_undeclared same_name (places t) ≡ false
      declared = tested (has_undeclared same_name (places t)) (λ e. absurd (both_ways _ sound (or_left _ _ (or_right _ _ e)))) (λ e. e)

      never : NoNewFault same_name (places t) same_name (all_under new (places t))
      never = faults_are_never_new same_name same_name same_name_tells same_name_tells (places t) new keeps (λ p i. home_inside t p (in_from_Contains (places t) p i))
          (private_names_keep_bindings t new (λ p i e. new_private p e) declared)
