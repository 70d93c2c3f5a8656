-- The names of joined modules keep apart what the names of each module do, with its number.
use Rattle.std.proofs.Common.{◌≡◌, ◌<◌, ◌≤◌, ℕ, zero, suc, ◌+◌, Bool, true, false, ◌&&◌, ◌||◌, nat_eq, List, [], ◌∷◌, ◌++◌, map, not, Option, Some, None, is_some, option_map, slice_get, refl, sym, ap, ap₂, subst, ◌∙◌, arith, append_assoc, inl, inr, ◌⊎◌}
use Rattle.std.proofs.lemmas.Bool.{and_from, and_parts, both_ways, cases_eq, cases_order, eq-eqb, eqb-true, ne_eqb, or_cases, or_left, or_right}
use Rattle.std.specs.List.{AllByRecursion, Contains, list_any}
use Rattle.bundle_rules.proofs.BundlePlaces.{final, final_place, final_there, joined_places, moves_at, new, new_is, source, tagged, under_new}
use Rattle.bundle_rules.proofs.BundleScopes.{home_lies, moves_apart, scope_lies, scopes_in, shared_root}
use Rattle.bundle_rules.proofs.NewNamesApart.{Part, at_no_variable, named_after, named_elsewhere, of_one_binding, of_one_module, parts}
use Rattle.bundle_rules.proofs.ScopesLie.{Lies}
use Rattle.bundle_rules.proofs.TaggedPlaces.{Tagged, binding_moved, home_moved, moved_node, private_binding_moved, same_tagged, tag, tagged_tells}
use Rattle.bundle_rules.specs.Bundles.{AreParts, modules_of}
use Rattle.bundle_rules.specs.Joined.{joined}
use Rattle.bundle_rules.specs.Mentions.{Mention, is_root, mention, mentions, mentions_of}
use Rattle.bundle_rules.specs.Moves.{IsBare, Moves, moved_scope, moves_after, no_moves}
use Rattle.bundle_rules.specs.NewNames.{is_named, is_named_in, name_given}
use Rattle.list_laws.proofs.AnyOf.{any_from, any_some}
use Rattle.list_laws.proofs.Members.{In, from_append, from_map, in_from_Contains, in_map}
use Rattle.list_laws.proofs.Tests.{some_one}
use Rattle.tree_nodes.proofs.Cases.{none_some}
use Rattle.scope_rules.proofs.BindingsStay as stay
use Rattle.scope_rules.proofs.PlacesRise.{one_of_number, one_place, places_rise, site_in}
use Rattle.scope_rules.proofs.SameNames.{same_name_tells}
use Rattle.scope_rules.specs.Bindings.{binding, bindings, is_node, node, same_name}
use Rattle.scope_rules.specs.Homes.{declares, home, refers}
use Rattle.scope_rules.specs.Open.{all_open}
use Rattle.scope_rules.specs.PrivateNames.{private_binding}
use Rattle.scope_rules.specs.Renamings.{IsBindingOf, KeepsApart, all_under, is_bound_inside, is_live_in}
use Rattle.tree_nodes.specs.Tree.{Text, Tree, alone}
use Rattle.tree_places.proofs.Outwards.{inside_refl, same_scope_eq}
use Rattle.tree_places.specs.Chosen.{or_own}
use Rattle.tree_places.specs.Laws.{RiseFrom}
use Rattle.tree_places.specs.Places.{Named, Place, places}
use Rattle.tree_places.specs.Scopes.{Scope, is_inside, same_scope}

-- ---- a module among the others

-- tags rise
pub tags_from : (i : ℕ) (m : Moves) (ds : List Part) (q : Named Tagged) → In q (tagged i m ds) → i ≤ q.name.0
tags_from i m ds q h = let s = source i m ds q h in subst (λ (p : Named Tagged). i ≤ p.name.0) (sym s.is) (omega arith)

before_more : (i k : ℕ) (m : Moves) (ps : List Place) (front : List (Named Tagged)) → ((q : Named Tagged) → In q front → nat_eq q.name.0 (suc i + k) ≡ false)
    → (q : Named Tagged) → In q (map (tag i m) ps ++ front) → nat_eq q.name.0 (i + suc k) ≡ false
before_more i k m ps front h q j = go (from_append (map (tag i m) ps) front q j)
  where
    go : In q (map (tag i m) ps) ⊎ In q front → nat_eq q.name.0 (i + suc k) ≡ false
    go (inl o) = let f = from_map (tag i m) ps q o in ne_eqb q.name.0 (i + suc k) (λ e. let g : i ≡ q.name.0 = ap (λ (r : Named Tagged). r.name.0) f.2 in omega (arith, e, g))
    go (inr o) = ap (nat_eq q.name.0) (omega arith) ∙ h q o

pub record Split (i : ℕ) (m : Moves) (ds : List Part) (k : ℕ) (d : Part) : Type 0 where
  pub front : List (Named Tagged)
  pub back : List (Named Tagged)
  pub is : tagged i m ds ≡ front ++ (map (tag (i + k) (moves_at m ds k)) (places (alone d.tree)) ++ back)
  pub before : (q : Named Tagged) → In q front → nat_eq q.name.0 (i + k) ≡ false
  pub after : (q : Named Tagged) → In q back → nat_eq q.name.0 (i + k) ≡ false

pub split : (i : ℕ) (m : Moves) (ds : List Part) (k : ℕ) (d : Part) → slice_get ds k ≡ Some d → Split i m ds k d
split i m [] k d e = none_some d e
split i m (f ∷ ds) zero d e =
    let same : f ≡ d = some_one f d e in
    record {
      front = [];
      back = tagged (suc i) (moves_after m f.tree) ds;
      is = ap (λ (g : Part). map (tag i m) (places (alone g.tree)) ++ tagged (suc i) (moves_after m f.tree) ds) same
          ∙ ap (λ (n : ℕ). map (tag n m) (places (alone d.tree)) ++ tagged (suc i) (moves_after m f.tree) ds) (omega arith);
      before = λ q h. absurd h;
      after = λ q h. ne_eqb q.name.0 (i + zero) (λ p. omega (arith, p, tags_from (suc i) (moves_after m f.tree) ds q h));
    }
split i m (f ∷ ds) (suc k) d e =
    let s = split (suc i) (moves_after m f.tree) ds k d e in
    let own = map (tag i m) (places (alone f.tree)) in
    let number : suc i + k ≡ i + suc k = omega arith in
    record {
      front = own ++ s.front;
      back = s.back;
      is = ap (λ (qs : List (Named Tagged)). own ++ qs) s.is ∙ sym (append_assoc own s.front _)
          ∙ ap (λ (n : ℕ). (own ++ s.front) ++ (map (tag n (moves_at (moves_after m f.tree) ds k)) (places (alone d.tree)) ++ s.back)) number;
      before = before_more i k m (places (alone f.tree)) s.front s.before;
      after = λ q h. ap (nat_eq q.name.0) (sym number) ∙ s.after q h;
    }

part_in : (all before : _) (given : List Text) (ts us : List Tree) (last : List Text) (a : AreParts all before given ts us last) (k : ℕ) (d : Part)
    → slice_get (parts all before given ts us last a) k ≡ Some d → In d.tree ts
unfolding parts
part_in all before given [] [] last a k d e = none_some d e
part_in all before given [] (u ∷ us) last a k d e = absurd a
part_in all before given (t ∷ ts) [] last a k d e = absurd a
part_in all before given (t ∷ ts) (u ∷ us) last a zero d e = inl (ap (λ (p : Part). p.tree) (some_one _ _ e))
part_in all before given (t ∷ ts) (u ∷ us) last a (suc k) d e = inr (part_in all (before ++ mentions_of t ∷ []) (given ++ a.0) ts us last a.2 k d e)

bare_each : (ts : List Tree) → AllByRecursion IsBare ts → (t : Tree) → In t ts → IsBare t
bare_each [] b t i = absurd i
bare_each (u ∷ ts) b t (inl e) = subst IsBare e b.0
bare_each (u ∷ ts) b t (inr i) = bare_each ts b.1 t i

moved_some : (k n : ℕ) (o : Option ℕ) → option_map (λ i. k + i) o ≡ Some (k + n) → o ≡ Some n
moved_some k n None e = none_some _ e
moved_some k n (Some i) e = let h : k + i ≡ k + n = some_one _ _ e in ap Some (omega (arith, h))

moved_none : (k : ℕ) (o : Option ℕ) → option_map (λ i. k + i) o ≡ None → o ≡ None
moved_none k None e = refl
moved_none k (Some i) e = none_some _ (sym e)

nodes_under : {A B : Type 0} (f : Named A → B) (ps : List (Named A)) → map node (all_under f ps) ≡ map node ps
unfolding all_open
nodes_under f [] = refl
nodes_under f (p ∷ ps) = ap (λ (ns : List ℕ). node p ∷ ns) (nodes_under f ps)

-- a home that is moved to the root's is the root's
root_back : (d : ℕ) (s : Scope) → moved_scope d s ≡ 0 ∷ [] → is_root s ≡ true
unfolding is_root
root_back d [] e = absurd (cc)
root_back d (n ∷ []) e = refl
root_back d (n ∷ m ∷ s) e = absurd (cc)

module _ (ts us : List Tree) (given : List Text) (a : AreParts (modules_of ts) [] [] ts us given) (bare : AllByRecursion IsBare ts) where
  abbrev pub ds : List Part
  ds = parts (modules_of ts) [] [] ts us given a

  abbrev pub joint : List (Named Tagged)
  joint = tagged 0 no_moves ds

  abbrev pub whole : List Place
  whole = places (alone (joined us))

  is_final : whole ≡ final no_moves ds
  is_final = joined_places (modules_of ts) ts us given a bare

  whole_rises : RiseFrom 0 (map node whole)
  whole_rises = places_rise (alone (joined us))

  pub new_names : all_under (new whole) joint ≡ whole
  new_names = under_new ds whole whole_rises is_final

  pub rises : RiseFrom 0 (map node joint)
  rises = subst (RiseFrom 0) (ap (λ (ps : List Place). map node ps) (sym new_names) ∙ nodes_under (new whole) joint) whole_rises

  -- ---- a place and its module

  abbrev pub old : Part → List Place
  old d = places (alone d.tree)

  pub record Src (p : Named Tagged) : Type 0 where
    pub k : ℕ
    pub part : Part
    pub place : Place
    pub at : slice_get ds k ≡ Some part
    pub among : In place (old part)
    pub is : p ≡ tag (0 + k) (moves_at no_moves ds k) place
    pub named : new whole p ≡ or_own (name_given part.needing part.xs (binding same_name (old part) place)) place.name
    pub bound : binding same_tagged joint p ≡ moved_node (moves_at no_moves ds k) (binding same_name (old part) place)

  pub binding_at : (k : ℕ) (d : Part) (q : Place) → slice_get ds k ≡ Some d
      → binding same_tagged joint (tag (0 + k) (moves_at no_moves ds k) q) ≡ moved_node (moves_at no_moves ds k) (binding same_name (old d) q)
  binding_at k d q e =
      let s = split 0 no_moves ds k d e in
      subst (λ (js : List (Named Tagged)). binding same_tagged js (tag (0 + k) (moves_at no_moves ds k) q) ≡ moved_node (moves_at no_moves ds k) (binding same_name (old d) q)) (sym s.is)
      (binding_moved (0 + k) (moves_at no_moves ds k) (old d) s.front s.back s.before s.after q)

  pub private_binding_at : (k : ℕ) (d : Part) (q : Place) → slice_get ds k ≡ Some d
      → private_binding same_tagged joint (tag (0 + k) (moves_at no_moves ds k) q) ≡ moved_node (moves_at no_moves ds k) (private_binding same_name (old d) q)
  private_binding_at k d q e =
      let s = split 0 no_moves ds k d e in
      subst (λ (js : List (Named Tagged)). private_binding same_tagged js (tag (0 + k) (moves_at no_moves ds k) q) ≡ moved_node (moves_at no_moves ds k) (private_binding same_name (old d) q)) (sym s.is)
      (private_binding_moved (0 + k) (moves_at no_moves ds k) (old d) s.front s.back s.before s.after q)

  pub src : (p : Named Tagged) → In p joint → Src p
  src p i =
      let s = source 0 no_moves ds p i in
      let m = moves_at no_moves ds s.k in
      let there : In (final_place m s.part s.place) whole = subst (In (final_place m s.part s.place)) (sym is_final) (final_there no_moves ds s.k s.part s.place s.at s.among) in
      record {
        k = s.k;
        part = s.part;
        place = s.place;
        at = s.at;
        among = s.among;
        is = s.is;
        named = new_is whole whole_rises p (final_place m s.part s.place) there (ap (λ (q : Named Tagged). q.site) s.is);
        bound = ap (binding same_tagged joint) s.is ∙ binding_at s.k s.part s.place s.at;
      }

  pub tree_of_part : (k : ℕ) (d : Part) → slice_get ds k ≡ Some d → In d.tree ts
  tree_of_part k d e = part_in (modules_of ts) [] [] ts us given a k d e

  pub bare_part : (k : ℕ) (d : Part) → slice_get ds k ≡ Some d → IsBare d.tree
  bare_part k d e = bare_each ts bare d.tree (tree_of_part k d e)

  mention_in : (d : Part) (q : Place) → In q (old d) → In (mention q (binding same_name (old d) q)) (mentions_of d.tree)
  unfolding mentions
  mention_in d q i = in_map (λ (p : Place). mention p (binding same_name (old d) p)) (old d) q i

  named_somewhere : (test : Mention → Bool) (k : ℕ) (d : Part) (q : Place) → slice_get ds k ≡ Some d → In q (old d) → test (mention q (binding same_name (old d) q)) ≡ true → is_named_in test (modules_of ts) q.name ≡ true
  unfolding is_named_in is_named mention
  named_somewhere test k d q e i t =
      any_from (λ (ms : List Mention). is_named test ms q.name) (modules_of ts) (mentions_of d.tree) (in_map mentions_of ts d.tree (tree_of_part k d e))
      (any_from (λ (m : Mention). test m && same_name m.name q.name) (mentions_of d.tree) (mention q (binding same_name (old d) q)) (mention_in d q i)
      (and_from _ _ t ((same_name_tells q.name q.name).1 refl)))

  -- a new name is that of no variable place
  not_there : (k j : ℕ) (d f : Part) (o : Option ℕ) (q : Place) → slice_get ds k ≡ Some d → slice_get ds j ≡ Some f → In q (old f) → (declares q.site || refers q.site) ≡ true
      → name_given d.needing d.xs o ≡ Some q.name → ⊥
  unfolding mention
  not_there k j d f o q e g i v n =
      both_ways _ (at_no_variable (modules_of ts) [] [] ts us given a k d e o q.name n) (named_somewhere (λ m. m.variable) j f q g i v)

  -- ---- bindings

  record Own (k : ℕ) (d : Part) (q : Place) : Type 0 where
    at : slice_get ds k ≡ Some d
    among : In q (old d)
    declares : declares q.site ≡ true
    own : binding same_name (old d) q ≡ Some (node q)

  record OwnSrc (b : Named Tagged) : Type 0 where
    k : ℕ
    part : Part
    place : Place
    local : Own k part place
    is : b ≡ tag (0 + k) (moves_at no_moves ds k) place
    named : new whole b ≡ or_own (name_given part.needing part.xs (Some (node place))) place.name

  own_src : (b : Named Tagged) → IsBindingOf same_tagged joint b → OwnSrc b
  unfolding node declares
  own_src b h =
      let s = src b (in_from_Contains joint b h.among) in
      let node_is : node b ≡ (moves_at no_moves ds s.k).nodes + node s.place = ap (λ (q : Named Tagged). q.site.node) s.is in
      let own : binding same_name (old s.part) s.place ≡ Some (node s.place) = moved_some _ _ _ (sym s.bound ∙ h.own ∙ ap Some node_is) in
      record {
        k = s.k;
        part = s.part;
        place = s.place;
        is = s.is;
        local = record { at = s.at; among = s.among; declares = subst (λ (q : Named Tagged). declares q.site ≡ true) s.is h.declares; own = own };
        named = s.named ∙ ap (λ (o : Option ℕ). or_own (name_given s.part.needing s.part.xs o) s.place.name) own;
      }

  variable_place : (q : Place) → declares q.site ≡ true → (declares q.site || refers q.site) ≡ true
  variable_place q h = or_left _ _ h

  abbrev given_to : Part → Place → Option Text
  given_to d q = name_given d.needing d.xs (Some (node q))

  same_module : (k : ℕ) (d : Part) (q r : Place) → Own k d q → Own k d r → or_own (given_to d q) q.name ≡ or_own (given_to d r) r.name → q.name ≡ r.name
  unfolding or_own
  same_module k d q r x y e = go (given_to d q) (given_to d r) refl refl e
    where
      go : (o p : Option Text) → given_to d q ≡ o → given_to d r ≡ p → or_own o q.name ≡ or_own p r.name → q.name ≡ r.name
      go None None f g e = e
      go (Some n) None f g e = absurd (not_there k k d d (Some (node q)) r x.at y.at y.among (variable_place r y.declares) (f ∙ ap Some e))
      go None (Some n) f g e = absurd (not_there k k d d (Some (node r)) q y.at x.at x.among (variable_place q x.declares) (g ∙ ap Some (sym e)))
      go (Some n) (Some l) f g e =
          ap (λ (p : Place). p.name) (one_of_number (alone d.tree) q r x.among y.among (of_one_binding (modules_of ts) [] [] ts us given a k d x.at (node q) (node r) n f (g ∙ ap Some (sym e))))

  root_mention : (k : ℕ) (d : Part) (q : Place) → Own k d q → is_root (home q.site) ≡ true → (mention q (binding same_name (old d) q)).root ≡ true
  unfolding mention is_node
  root_mention k d q x h = and_from _ _ (and_from _ _ x.declares (ap (λ (o : Option ℕ). is_node o (node q)) x.own ∙ eq-eqb (node q) (node q) refl)) h

  -- two bindings of roots, of an earlier and of a later module, have different names
  in_turn : (k j : ℕ) (d f : Part) (q r : Place) → Own k d q → Own j f r → k < j → is_root (home q.site) ≡ true → is_root (home r.site) ≡ true → or_own (given_to d q) q.name ≡ or_own (given_to f r) r.name → ⊥
  unfolding or_own mention
  in_turn k j d f q r x y l hq hr e = go (given_to d q) (given_to f r) refl refl e
    where
      go : (o p : Option Text) → given_to d q ≡ o → given_to f r ≡ p → or_own o q.name ≡ or_own p r.name → ⊥
      go None None u v e = named_after (modules_of ts) [] [] ts us given a k j d f x.at y.at l (mention q (binding same_name (old d) q)) (mention r (binding same_name (old f) r))
          (mention_in d q x.among) (root_mention k d q x hq) (mention_in f r y.among) (root_mention j f r y hr) e v
      go (Some n) None u v e = not_there k j d f (Some (node q)) r x.at y.at y.among (variable_place r y.declares) (u ∙ ap Some e)
      go None (Some n) u v e = not_there j k f d (Some (node r)) q y.at x.at x.among (variable_place q x.declares) (v ∙ ap Some (sym e))
      go (Some n) (Some i) u v e = of_one_module (modules_of ts) [] [] ts us given a k j d f x.at y.at l (Some (node q)) (Some (node r)) n u (v ∙ ap Some (sym e))

  different_modules : (k j : ℕ) (d f : Part) (q r : Place) → Own k d q → Own j f r → (k ≡ j → ⊥) → is_root (home q.site) ≡ true → is_root (home r.site) ≡ true → or_own (given_to d q) q.name ≡ or_own (given_to f r) r.name → ⊥
  different_modules k j d f q r x y n hq hr e = go (cases_order k j)
    where
      go : (k ≡ j) ⊎ ((k < j) ⊎ (j < k)) → ⊥
      go (inl p) = n p
      go (inr (inl p)) = in_turn k j d f q r x y p hq hr e
      go (inr (inr p)) = in_turn j k f d r q y x p hr hq (sym e)

  -- ---- where scopes meet

  abbrev moved_home : ℕ → Place → Scope
  moved_home k q = moved_scope (moves_at no_moves ds k).scopes (home q.site)

  home_of_part : (k : ℕ) (d : Part) (q : Place) → slice_get ds k ≡ Some d → In q (old d) → Lies (scopes_in d.tree) (home q.site)
  home_of_part k d q e i = home_lies d.tree (bare_part k d e) q.site (site_in (alone d.tree) q i)

  -- a scope of one module in a home of another
  meets : (k j : ℕ) (d f : Part) (q : Place) (s : Scope) → (k ≡ j → ⊥) → slice_get ds k ≡ Some d → slice_get ds j ≡ Some f → In q (old f) → Lies (scopes_in d.tree) s
      → is_inside (moved_scope (moves_at no_moves ds k).scopes s) (moved_home j q) ≡ true → moved_home j q ≡ 0 ∷ []
  meets k j d f q s n e g i l inside =
      shared_root (moves_at no_moves ds k).scopes (scopes_in d.tree) (moves_at no_moves ds j).scopes (scopes_in f.tree) s (home q.site) l (home_of_part j f q g i)
      (moves_apart no_moves ds k j d f n e g) inside

  -- the homes of two bindings of different modules, of which one is live in the other's home, are the root
  record BothRoots (k j : ℕ) (q r : Place) : Type 0 where
    first : is_root (home q.site) ≡ true
    second : is_root (home r.site) ≡ true

  root_home : (k : ℕ) (q : Place) → moved_home k q ≡ 0 ∷ [] → is_root (home q.site) ≡ true
  root_home k q e = root_back (moves_at no_moves ds k).scopes (home q.site) e

  live_homes : (b c : Named Tagged) (hb : IsBindingOf same_tagged joint b) (x : OwnSrc b) (y : OwnSrc c) → (x.k ≡ y.k → ⊥) → is_live_in same_tagged joint b (home c.site) ≡ true → BothRoots x.k y.k x.place y.place
  unfolding is_live_in is_bound_inside is_node
  live_homes b c hb x y n live = go (or_cases _ _ live)
    where
      hb_is : home b.site ≡ moved_home x.k x.place
      hb_is = ap (λ (p : Named Tagged). home p.site) x.is ∙ home_moved (moves_at no_moves ds x.k) x.place.site

      hc_is : home c.site ≡ moved_home y.k y.place
      hc_is = ap (λ (p : Named Tagged). home p.site) y.is ∙ home_moved (moves_at no_moves ds y.k) y.place.site

      first_root : is_inside (home c.site) (home b.site) ≡ true → moved_home x.k x.place ≡ 0 ∷ []
      first_root i = meets y.k x.k y.part x.part x.place (home y.place.site) (λ e. n (sym e)) y.local.at x.local.at x.local.among (home_of_part y.k y.part y.place y.local.at y.local.among)
          (subst (λ (s : Scope). is_inside s (moved_home x.k x.place) ≡ true) hc_is (subst (λ (s : Scope). is_inside (home c.site) s ≡ true) hb_is i))

      second_root : (p : Named Tagged) → In p joint → is_node (binding same_tagged joint p) (node b) ≡ true → is_inside p.site.setting.scope (home c.site) ≡ true → moved_home y.k y.place ≡ 0 ∷ []
      second_root p ip bound i = at (binding same_tagged joint p) refl bound
        where
          at : (o : Option ℕ) → binding same_tagged joint p ≡ o → is_node o (node b) ≡ true → moved_home y.k y.place ≡ 0 ∷ []
          at None e h = absurd (both_ways false refl h)
          at (Some m) e h =
              let s = src p ip in
              let f = stay.binding_source same_tagged tagged_tells joint p ip m e in
              let fb : f.0 ≡ b = one_place 0 joint f.0 b rises (in_from_Contains joint f.0 f.2.among) (in_from_Contains joint b hb.among) (f.1 ∙ eqb-true m (node b) h) in
              let number : 0 + s.k ≡ 0 + x.k = ap (λ (q : Named Tagged). q.name.0) (sym s.is) ∙ sym (ap (λ (t : Tagged). t.0) f.3) ∙ ap (λ (q : Named Tagged). q.name.0) fb ∙ ap (λ (q : Named Tagged). q.name.0) x.is in
              meets s.k y.k s.part y.part y.place s.place.site.setting.scope (λ q. n (omega (arith, number, q))) s.at y.local.at y.local.among
              (scope_lies s.part.tree (bare_part s.k s.part s.at) s.place.site (site_in (alone s.part.tree) s.place s.among))
              (subst (λ (q : Named Tagged). is_inside q.site.setting.scope (moved_home y.k y.place) ≡ true) s.is (subst (λ (r : Scope). is_inside p.site.setting.scope r ≡ true) hc_is i))

      go : (same_scope (home c.site) (home b.site) ≡ true) ⊎ ((is_inside (home c.site) (home b.site) && list_any (λ p. is_node (binding same_tagged joint p) (node b) && is_inside p.site.setting.scope (home c.site)) joint) ≡ true) → BothRoots x.k y.k x.place y.place
      go (inl e) =
          let same : home c.site ≡ home b.site = same_scope_eq (home c.site) (home b.site) e in
          let one = first_root (subst (λ (s : Scope). is_inside (home c.site) s ≡ true) same (inside_refl (home c.site))) in
          record { first = root_home x.k x.place one; second = root_home y.k y.place (sym hc_is ∙ same ∙ hb_is ∙ one) }
      go (inr e) =
          let two = and_parts _ _ e in
          let f = any_some _ joint two.1 in
          let both = and_parts _ _ f.2 in
          record { first = root_home x.k x.place (first_root two.0); second = root_home y.k y.place (second_root f.0 f.1 both.0 both.1) }

  -- ---- the premises of the law

  same_part : (k j : ℕ) (d f : Part) → slice_get ds k ≡ Some d → slice_get ds j ≡ Some f → k ≡ j → d ≡ f
  same_part k j d f e g n = some_one d f (sym e ∙ ap (slice_get ds) n ∙ g)

  constant : (p b : Named Tagged) → Contains joint p → Contains joint b → binding same_tagged joint p ≡ Some (node b) → new whole p ≡ new whole b
  unfolding node
  constant p b ip ib e =
      let jp = in_from_Contains joint p ip in
      let f = stay.binding_source same_tagged tagged_tells joint p jp (node b) e in
      let fb : f.0 ≡ b = one_place 0 joint f.0 b rises (in_from_Contains joint f.0 f.2.among) (in_from_Contains joint b ib) f.1 in
      let s = src p jp in
      let x = own_src b (subst (IsBindingOf same_tagged joint) fb f.2) in
      let tags : b.name ≡ p.name = ap (λ (q : Named Tagged). q.name) (sym fb) ∙ f.3 in
      let number : s.k ≡ x.k = (let n : 0 + s.k ≡ 0 + x.k = ap (λ (q : Named Tagged). q.name.0) (sym s.is) ∙ sym (ap (λ (t : Tagged). t.0) tags) ∙ ap (λ (q : Named Tagged). q.name.0) x.is in omega (arith, n)) in
      let called : s.place.name ≡ x.place.name = ap (λ (q : Named Tagged). q.name.1) (sym s.is) ∙ sym (ap (λ (t : Tagged). t.1) tags) ∙ ap (λ (q : Named Tagged). q.name.1) x.is in
      let same : s.part ≡ x.part = same_part s.k x.k s.part x.part s.at x.local.at number in
      let node_is : node b ≡ (moves_at no_moves ds x.k).nodes + node x.place = ap (λ (q : Named Tagged). node q) x.is in
      let moved : moved_node (moves_at no_moves ds x.k) (binding same_name (old s.part) s.place) ≡ Some ((moves_at no_moves ds x.k).nodes + node x.place) =
      ap (λ (k : ℕ). moved_node (moves_at no_moves ds k) (binding same_name (old s.part) s.place)) (sym number) ∙ sym s.bound ∙ e ∙ ap Some node_is in
      let own : binding same_name (old s.part) s.place ≡ Some (node x.place) = moved_some _ _ _ moved in
      s.named
      ∙ ap₂ (λ (o : Option ℕ) (y : Text). or_own (name_given s.part.needing s.part.xs o) y) own called
      ∙ ap (λ (d : Part). or_own (name_given d.needing d.xs (Some (node x.place))) x.place.name) same
      ∙ sym x.named

  no_new_equality : (b c : Named Tagged) → IsBindingOf same_tagged joint b → IsBindingOf same_tagged joint c → is_live_in same_tagged joint b (home c.site) ≡ true → new whole b ≡ new whole c → b.name ≡ c.name
  no_new_equality b c hb hc live e = go (cases_eq x.k y.k)
    where
      x : OwnSrc b
      x = own_src b hb

      y : OwnSrc c
      y = own_src c hc

      go : (x.k ≡ y.k) ⊎ (x.k ≡ y.k → ⊥) → b.name ≡ c.name
      go (inl n) =
          let same : y.part ≡ x.part = sym (same_part x.k y.k x.part y.part x.local.at y.local.at n) in
          let own : Own x.k x.part y.place = subst (λ (d : Part). Own x.k d y.place) same (subst (λ (k : ℕ). Own k y.part y.place) (sym n) y.local) in
          let equal = sym x.named ∙ e ∙ y.named ∙ ap (λ (d : Part). or_own (given_to d y.place) y.place.name) same in
          ap (λ (p : Named Tagged). p.name) x.is
          ∙ ap₂ (λ (k : ℕ) (z : Text). (0 + k, z)) n (same_module x.k x.part x.place y.place x.local own equal)
          ∙ ap (λ (p : Named Tagged). p.name) (sym y.is)
      go (inr n) =
          let roots = live_homes b c hb x y n live in
          absurd (different_modules x.k y.k x.part y.part x.place y.place x.local y.local n roots.first roots.second (sym x.named ∙ e ∙ y.named))

  no_capture : (p b : Named Tagged) → Contains joint p → refers p.site ≡ true → binding same_tagged joint p ≡ None → IsBindingOf same_tagged joint b → is_inside p.site.setting.scope (home b.site) ≡ true → new whole p ≡ new whole b → ⊥
  unfolding or_own name_given mention src refers
  no_capture p b ip r u hb inside e = by_name (given_to x.part x.place) refl (sym own_name ∙ e ∙ x.named)
    where
      jp : In p joint
      jp = in_from_Contains joint p ip

      s : Src p
      s = src p jp

      x : OwnSrc b
      x = own_src b hb

      none : binding same_name (old s.part) s.place ≡ None
      none = moved_none _ _ (sym s.bound ∙ u)

      reads : refers s.place.site ≡ true
      reads = subst (λ (q : Named Tagged). refers q.site ≡ true) s.is r

      own_name : new whole p ≡ s.place.name
      own_name = s.named ∙ ap (λ (o : Option ℕ). or_own (name_given s.part.needing s.part.xs o) s.place.name) none

      variable : (declares s.place.site || refers s.place.site) ≡ true
      variable = or_right _ _ reads

      unresolved : (mention s.place (binding same_name (old s.part) s.place)).unresolved ≡ true
      unresolved = and_from _ _ reads (ap (λ (o : Option ℕ). not (is_some o)) none)

      hb_is : home b.site ≡ moved_home x.k x.place
      hb_is = ap (λ (q : Named Tagged). home q.site) x.is ∙ home_moved (moves_at no_moves ds x.k) x.place.site

      home_there : home b.site ≡ [] → ⊥
      home_there h = lies (home x.place.site) (home_of_part x.k x.part x.place x.local.at x.local.among) (sym hb_is ∙ h)
        where
          lies : (t : Scope) → Lies (scopes_in x.part.tree) t → moved_scope (moves_at no_moves ds x.k).scopes t ≡ [] → ⊥
          lies [] l q = l
          lies (m ∷ t) l q = absurd (cc)

      kept : s.place.name ≡ x.place.name → given_to x.part x.place ≡ None → (s.k ≡ x.k) ⊎ (s.k ≡ x.k → ⊥) → ⊥
      kept same free (inl n) =
          stay.unbound_nothing same_tagged tagged_tells joint p b r u (in_from_Contains joint b hb.among) hb.declares home_there inside
          (ap (λ (q : Named Tagged). q.name) x.is ∙ ap₂ (λ (k : ℕ) (z : Text). (0 + k, z)) (sym n) (sym same) ∙ ap (λ (q : Named Tagged). q.name) (sym s.is))
      kept same free (inr n) =
          let root : moved_home x.k x.place ≡ 0 ∷ [] =
          meets s.k x.k s.part x.part x.place s.place.site.setting.scope n s.at x.local.at x.local.among
          (scope_lies s.part.tree (bare_part s.k s.part s.at) s.place.site (site_in (alone s.part.tree) s.place s.among))
          (subst (λ (q : Named Tagged). is_inside q.site.setting.scope (moved_home x.k x.place) ≡ true) s.is (subst (λ (t : Scope). is_inside p.site.setting.scope t ≡ true) hb_is inside)) in
          elsewhere same free (root_home x.k x.place root)
        where
          elsewhere : s.place.name ≡ x.place.name → given_to x.part x.place ≡ None → is_root (home x.place.site) ≡ true → ⊥
          elsewhere same free root =
              named_elsewhere (modules_of ts) [] [] ts us given a x.k x.part x.local.at (mention x.place (binding same_name (old x.part) x.place)) (mention_in x.part x.place x.local.among)
              (root_mention x.k x.part x.place x.local root)
              (ap (is_named_in (λ m. m.unresolved) (modules_of ts)) (sym same) ∙ named_somewhere (λ m. m.unresolved) s.k s.part s.place s.at s.among unresolved)
              free

      by_name : (o : Option Text) → given_to x.part x.place ≡ o → s.place.name ≡ or_own o x.place.name → ⊥
      by_name None g q = kept q g (cases_eq s.k x.k)
      by_name (Some y) g q = not_there x.k s.k x.part s.part (Some (node x.place)) s.place x.local.at s.at s.among variable (g ∙ ap Some (sym q))

  pub keeps_apart : KeepsApart same_tagged joint (new whole)
  keeps_apart = record { in_order = rises; constant = constant; no_new_equality = no_new_equality; no_capture = no_capture }

  pub bindings_kept : bindings same_name whole ≡ bindings same_tagged joint
  bindings_kept = ap (bindings same_name) (sym new_names) ∙ stay.bindings_stay same_tagged same_name tagged_tells same_name_tells joint (new whole) keeps_apart
