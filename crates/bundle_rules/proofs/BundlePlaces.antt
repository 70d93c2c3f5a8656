-- The places of joined modules: each is that of a module, under the name that it has after the renaming.
use Rattle.std.proofs.Common.{◌≡◌, ℕ, zero, suc, ◌+◌, ◌-◌, cond, nat_eq, List, [], ◌∷◌, ◌++◌, length, map, Option, Some, None, find, slice_get, refl, sym, ap, ap₂, subst, ◌∙◌, arith, append_assoc, inl, inr, ◌⊎◌}
use Rattle.std.proofs.lemmas.Bool.{eq-eqb, eqb-true}
use Rattle.std.proofs.lemmas.List.{append-nil, length-map, map-append}
use Rattle.std.specs.List.{AllByRecursion}
use Rattle.bundle_rules.proofs.JoinedSites.{joining_moves_places}
use Rattle.bundle_rules.proofs.NewNamesApart.{Part, parts}
use Rattle.bundle_rules.proofs.TaggedPlaces.{Tagged, tag}
use Rattle.bundle_rules.proofs.Counted.{nodes_renamed, seen_renamed}
use Rattle.bundle_rules.specs.Bundles.{AreParts}
use Rattle.bundle_rules.specs.Joined.{bodies, body, joined, module_of}
use Rattle.bundle_rules.specs.Mentions.{mention, mentions, mentions_of}
use Rattle.bundle_rules.specs.Moves.{IsBare, Moves, moved_site, moved_sites, moves_after, no_moves}
use Rattle.bundle_rules.specs.NewNames.{Modules, name_given, names_after, needing}
use Rattle.list_laws.proofs.FirstOf.{find_only}
use Rattle.list_laws.proofs.Members.{In, from_append, from_map, in_left, in_map, in_right}
use Rattle.list_laws.proofs.Tests.{some_one}
use Rattle.tree_nodes.proofs.Cases.{none_some}
use Rattle.scope_rules.proofs.PlacesRise.{one_place}
use Rattle.scope_rules.specs.Bindings.{binding, node, same_name}
use Rattle.scope_rules.specs.Renamings.{all_under, under}
use Rattle.tree_nodes.specs.Look.{onto}
use Rattle.tree_nodes.specs.NodeCount.{nodes_in}
use Rattle.tree_nodes.specs.Tree.{Atom, Parts, Text, Tree, alone, atom, child, done, empty, many, text_of, word}
use Rattle.tree_nodes.specs.Table.{row}
use Rattle.tree_nodes.specs.declared.kind.Kind.{Kind}
use Rattle.tree_nodes.specs.declared.kind.Kind.TheVariants.{Program}
use Rattle.tree_places.proofs.Blind.{scopes_renamed, sites_renamed}
use Rattle.tree_places.proofs.Numbers.{one_name_each}
use Rattle.tree_places.specs.Chosen.{or_own}
use Rattle.tree_places.specs.Laws.{RiseFrom}
use Rattle.scope_rules.specs.Open.{all_open}
use Rattle.tree_places.specs.Places.{Named, Place, Seen, is_place, Site, named_by, names, places, scopes, seen, sites}
use Rattle.tree_places.specs.Renaming.{IsRenamed, blind}
use Rattle.tree_places.specs.Scopes.{Scope}

-- ---- the lists

-- the name after the renaming
abbrev pub renamed : Part → Place → Text
renamed d q = or_own (name_given d.needing d.xs (binding same_name (places (alone d.tree)) q)) q.name

abbrev pub final_place : Moves → Part → Place → Place
final_place m d q = record { site = moved_site m q.site; name = renamed d q }

abbrev pub tagged : ℕ → Moves → List Part → List (Named Tagged)
tagged i m [] = []
tagged i m (d ∷ ds) = map (tag i m) (places (alone d.tree)) ++ tagged (suc i) (moves_after m d.tree) ds

abbrev pub final : Moves → List Part → List Place
final m [] = []
final m (d ∷ ds) = map (final_place m d) (places (alone d.tree)) ++ final (moves_after m d.tree) ds

-- how the k-th part is moved
abbrev pub moves_at : Moves → List Part → ℕ → Moves
moves_at m [] k = m
moves_at m (d ∷ ds) zero = m
moves_at m (d ∷ ds) (suc k) = moves_at (moves_after m d.tree) ds k

-- ---- where a place comes from

pub record Source (i : ℕ) (m : Moves) (ds : List Part) (p : Named Tagged) : Type 0 where
  pub k : ℕ
  pub part : Part
  pub place : Place
  pub at : slice_get ds k ≡ Some part
  pub among : In place (places (alone part.tree))
  pub is : p ≡ tag (i + k) (moves_at m ds k) place

pub source : (i : ℕ) (m : Moves) (ds : List Part) (p : Named Tagged) → In p (tagged i m ds) → Source i m ds p
source i m [] p h = absurd h
source i m (d ∷ ds) p h = go (from_append _ _ p h) (source (suc i) (moves_after m d.tree) ds p)
  where
    go : In p (map (tag i m) (places (alone d.tree))) ⊎ In p (tagged (suc i) (moves_after m d.tree) ds) → (In p (tagged (suc i) (moves_after m d.tree) ds) → Source (suc i) (moves_after m d.tree) ds p) → Source i m (d ∷ ds) p
    go (inl j) ih =
        let f = from_map (tag i m) (places (alone d.tree)) p j in
        record { k = 0; part = d; place = f.0; at = refl; among = f.1; is = sym f.2 ∙ ap (λ (n : ℕ). tag n m f.0) (omega arith) }
    go (inr j) ih =
        let s = ih j in
        record { k = suc s.k; part = s.part; place = s.place; at = s.at; among = s.among; is = s.is ∙ ap (λ (n : ℕ). tag n (moves_at (moves_after m d.tree) ds s.k) s.place) (omega arith) }

pub final_there : (m : Moves) (ds : List Part) (k : ℕ) (d : Part) (q : Place) → slice_get ds k ≡ Some d → In q (places (alone d.tree)) → In (final_place (moves_at m ds k) d q) (final m ds)
final_there m [] k d q e i = none_some d e
final_there m (f ∷ ds) zero d q e i =
    let same : f ≡ d = some_one f d e in
    in_left _ _ _ (subst (λ (g : Part). In (final_place m d q) (map (final_place m g) (places (alone g.tree)))) (sym same) (in_map (final_place m d) (places (alone d.tree)) q i))
final_there m (f ∷ ds) (suc k) d q e i = in_right (map (final_place m f) (places (alone f.tree))) _ _ (final_there (moves_after m f.tree) ds k d q e i)

-- ---- the same sites

site_of : {N : Type 0} → Named N → Site
site_of p = p.site

sites_both : (i : ℕ) (m : Moves) (d : Part) (ps : List Place) → map site_of (map (tag i m) ps) ≡ map site_of (map (final_place m d) ps)
unfolding site_of
sites_both i m d [] = refl
sites_both i m d (p ∷ ps) = ap (λ (ss : List Site). moved_site m p.site ∷ ss) (sites_both i m d ps)

same_sites : (i : ℕ) (m : Moves) (ds : List Part) → map site_of (tagged i m ds) ≡ map site_of (final m ds)
same_sites i m [] = refl
same_sites i m (d ∷ ds) =
    map-append site_of (map (tag i m) (places (alone d.tree))) (tagged (suc i) (moves_after m d.tree) ds)
    ∙ ap₂ (λ (xs ys : List Site). xs ++ ys) (sites_both i m d (places (alone d.tree))) (same_sites (suc i) (moves_after m d.tree) ds)
    ∙ sym (map-append site_of (map (final_place m d) (places (alone d.tree))) (final (moves_after m d.tree) ds))

-- ---- names by nodes

named_found : Option Place → Text
named_found None = []
named_found (Some q) = q.name

-- the name at the node of a place
pub new : List Place → Named Tagged → Text
new ps p = named_found (find (λ q. nat_eq (node q) (node p)) ps)

pub new_is : (ps : List Place) → RiseFrom 0 (map node ps) → (p : Named Tagged) (q : Place) → In q ps → p.site ≡ q.site → new ps p ≡ q.name
unfolding new named_found node
new_is ps rise p q i e = ap named_found (find_only (λ (r : Place). nat_eq (node r) (node p)) ps q i (eq-eqb _ _ (ap (λ (s : Site). s.node) (sym e)))
    (λ r j h. one_place 0 ps r q rise j i (eqb-true _ _ h ∙ ap (λ (s : Site). s.node) e)))

all_new : (ps : List Place) → RiseFrom 0 (map node ps) → (xs : List (Named Tagged)) (qs : List Place) → map site_of xs ≡ map site_of qs → ((q : Place) → In q qs → In q ps) → all_under (new ps) xs ≡ qs
unfolding all_under under site_of
all_new ps rise [] [] e f = refl
all_new ps rise [] (q ∷ qs) e f = absurd (cc)
all_new ps rise (x ∷ xs) [] e f = absurd (cc)
all_new ps rise (x ∷ xs) (q ∷ qs) e f =
    let h : x.site ≡ q.site = cc in
    let t : map site_of xs ≡ map site_of qs = cc in
    ap₂ (λ (y : Place) (ys : List Place). y ∷ ys)
    (ap₂ (λ (s : Site) (n : Text). record { site = s; name = n }) h (new_is ps rise x q (f q (inl refl)) h))
    (all_new ps rise xs qs t (λ r i. f r (inr i)))

pub under_new : (ds : List Part) (ps : List Place) → RiseFrom 0 (map node ps) → ps ≡ final no_moves ds → all_under (new ps) (tagged 0 no_moves ds) ≡ ps
under_new ds ps rise e = all_new ps rise (tagged 0 no_moves ds) ps (same_sites 0 no_moves ds ∙ ap (map site_of) (sym e)) (λ q i. i)

-- ---- a module renamed is bare

blind_none : (x : Parts) → blind x ≡ done → x ≡ done
unfolding blind
blind_none done e = refl
blind_none (atom a more) e = absurd (cc)
blind_none (child k s t fields more) e = absurd (cc)
blind_none (many items more) e = absurd (cc)

blind_one : (x : Parts) (a : Atom) → blind x ≡ atom a done → x ≡ atom a done
unfolding blind
blind_one done a e = absurd (cc)
blind_one (atom b more) a e = let h : b ≡ a = cc in let t : blind more ≡ done = cc in ap₂ atom h (blind_none more t)
blind_one (child k s t fields more) a e = absurd (cc)
blind_one (many items more) a e = absurd (cc)

blind_two : (x : Parts) → blind x ≡ atom (word 1) (atom empty done) → x ≡ atom (word 1) (atom empty done)
unfolding blind
blind_two done e = absurd (cc)
blind_two (atom b more) e = let h : b ≡ word 1 = cc in let t : blind more ≡ atom empty done = cc in ap₂ atom h (blind_one more empty t)
blind_two (child k s t fields more) e = absurd (cc)
blind_two (many items more) e = absurd (cc)

bare_fields : (x y : Parts) → blind x ≡ many y (atom (word 1) (atom empty done)) → (z : Parts) × (x ≡ many z (atom (word 1) (atom empty done)))
unfolding blind
bare_fields done y e = absurd (cc)
bare_fields (atom a more) y e = absurd (cc)
bare_fields (child k s t fields more) y e = absurd (cc)
bare_fields (many items more) y e = let h : blind more ≡ atom (word 1) (atom empty done) = cc in (items, ap (many items) (blind_two more h))

bare_is : (u : Tree) → u.kind ≡ Program → (z : Parts) → u.fields ≡ many z (atom (word 1) (atom empty done)) → IsBare u
unfolding all_open body
bare_is u k z f = (k, f ∙ ap (λ (x : Parts). many x (atom (word 1) (atom empty done))) (sym (ap (λ (x : Parts). body (record u { fields = x })) f)))

program_blind : (k l : Kind) (s t s' t' : ℕ) (x y : Parts) → k ≡ Program → blind (child l s' t' y done) ≡ blind (child k s t x done) → (l ≡ Program) × (blind y ≡ blind x)
unfolding all_open
program_blind k l s t s' t' x y p e = subst (λ (j : Kind). blind (child l s' t' y done) ≡ blind (child j s t x done) → (l ≡ Program) × (blind y ≡ blind x)) (sym p) here e
  where
    here : blind (child l s' t' y done) ≡ blind (child Program s t x done) → (l ≡ Program) × (blind y ≡ blind x)
    here e = let q : l ≡ Program = cc in (q, subst (λ (j : Kind). blind (child j s' t' y done) ≡ blind (child Program s t x done) → blind y ≡ blind x) (sym q) (λ f. cc) e)

blind_bare : (x : Parts) → blind (many x (atom (word 1) (atom empty done))) ≡ many (blind x) (atom (word 1) (atom empty done))
unfolding blind
blind_bare x = refl

pub bare_renamed : (t u : Tree) → IsBare t → IsRenamed (alone t) (alone u) → IsBare u
bare_renamed t u b r =
    let two = program_blind t.kind u.kind t.start t.stop u.start u.stop t.fields u.fields b.0 r.alike in
    let z = bare_fields u.fields (blind (body t)) (two.1 ∙ ap blind b.1 ∙ blind_bare (body t)) in
    bare_is u two.0 z.0 z.1

-- ---- the names of joined modules

names_onto : (x y : Parts) → names (onto x y) ≡ names x ++ names y
unfolding names
names_onto done y = refl
names_onto (atom a more) y = names_onto more y
names_onto (many items more) y = ap (λ (xs : List Text). names items ++ xs) (names_onto more y) ∙ sym (append_assoc (names items) (names more) (names y))
names_onto (child k s e fields more) y =
    let own : List Text = cond (is_place (row k).opens) (text_of fields ∷ names fields) (names fields) in
    ap (λ (xs : List Text). own ++ xs) (names_onto more y) ∙ sym (append_assoc own (names more) (names y))

module_names : (s e : ℕ) (x : Parts) → names (child Program s e (many x (atom (word 1) (atom empty done))) done) ≡ names x
unfolding all_open
module_names s e x = append-nil _ ∙ append-nil (names x)

pub bare_names : (t : Tree) → IsBare t → names (alone t) ≡ names (body t)
bare_names t (k, f) = ap (λ (l : Kind). names (child l t.start t.stop t.fields done)) k ∙ ap (λ (x : Parts). names (child Program t.start t.stop x done)) f ∙ module_names t.start t.stop (body t)

-- ---- named one after another

named_append : (ss rs : List Site) (xs ys : List Text) → length xs ≡ length ss → named_by (ss ++ rs) (xs ++ ys) ≡ named_by ss xs ++ named_by rs ys
unfolding named_by
named_append [] rs [] ys e = refl
named_append [] rs (x ∷ xs) ys e = absurd (omega (arith, e))
named_append (s ∷ ss) rs [] ys e = absurd (omega (arith, e))
named_append (s ∷ ss) rs (x ∷ xs) ys e = ap (λ (ps : List Place). record { site = s; name = x } ∷ ps) (named_append ss rs xs ys (omega (arith, e)))

sites_of_named : (ss : List Site) (xs : List Text) → length xs ≡ length ss → map site_of (named_by ss xs) ≡ ss
unfolding named_by site_of
sites_of_named [] [] e = refl
sites_of_named [] (x ∷ xs) e = absurd (omega (arith, e))
sites_of_named (s ∷ ss) [] e = absurd (omega (arith, e))
sites_of_named (s ∷ ss) (x ∷ xs) e = ap (λ (rs : List Site). s ∷ rs) (sites_of_named ss xs (omega (arith, e)))

named_final : (m : Moves) (d : Part) (ps : List Place) → named_by (map (moved_site m) (map site_of ps)) (map (renamed d) ps) ≡ map (final_place m d) ps
unfolding named_by site_of
named_final m d [] = refl
named_final m d (p ∷ ps) = ap (λ (qs : List Place). final_place m d p ∷ qs) (named_final m d ps)

names_renamed : (d : Part) (ps : List Place) → names_after d.needing d.xs (map (λ p. mention p (binding same_name (places (alone d.tree)) p)) ps) ≡ map (renamed d) ps
unfolding names_after mention
names_renamed d [] = refl
names_renamed d (p ∷ ps) = ap (λ (xs : List Text). renamed d p ∷ xs) (names_renamed d ps)

nothing_named : named_by [] (names done) ≡ []
unfolding named_by names
nothing_named = refl

sites_there : (t : Tree) → map site_of (places (alone t)) ≡ sites (alone t)
unfolding places
sites_there t = sites_of_named (sites (alone t)) (names (alone t)) (one_name_each (alone t))

after_renaming : (d : Part) → names_after d.needing d.xs (mentions_of d.tree) ≡ map (renamed d) (places (alone d.tree))
unfolding mentions
after_renaming d = names_renamed d (places (alone d.tree))

bare_nodes : (t : Tree) → IsBare t → nodes_in (alone t) ≡ suc (nodes_in (body t))
bare_nodes t b = let e : nodes_in t.fields ≡ nodes_in (many (body t) (atom (word 1) (atom empty done))) = ap nodes_in b.1 in omega (arith, e)

same_moves : (m : Moves) (t u : Tree) → IsBare t → IsBare u → IsRenamed (alone t) (alone u) → moves_after m u ≡ moves_after m t
unfolding moves_after
same_moves m t u b c r =
    let made : ℕ → ℕ → ℕ → Moves = λ n s k. record { nodes = m.nodes + n; scopes = m.scopes + (s - 1); bodies = m.bodies + k } in
    let n : nodes_in (body u) ≡ nodes_in (body t) = (let e = nodes_renamed (alone t) (alone u) r in omega (arith, e, bare_nodes t b, bare_nodes u c)) in
    ap (λ (k : ℕ). made k (length (scopes (alone u))) (seen (alone u)).classes) n
    ∙ ap (λ (ss : List Scope). made (nodes_in (body t)) (length ss) (seen (alone u)).classes) (scopes_renamed (alone t) (alone u) r)
    ∙ ap (λ (s : Seen). made (nodes_in (body t)) (length (scopes (alone t))) s.classes) (seen_renamed (alone t) (alone u) r)

module _ (all : Modules) where
  -- the sites of the modules, moved, under the names of the trees
  finals : (m : Moves) (before : Modules) (given : List Text) (ts us : List Tree) (last : List Text) (a : AreParts all before given ts us last) → AllByRecursion IsBare ts
      → named_by (moved_sites m us) (names (bodies us)) ≡ final m (parts all before given ts us last a)
  unfolding parts moved_sites bodies
  finals m before given [] [] last a b = nothing_named
  finals m before given [] (u ∷ us) last a b = absurd a
  finals m before given (t ∷ ts) [] last a b = absurd a
  finals m before given (t ∷ ts) (u ∷ us) last a b =
      let part = a.1 in
      let d : Part = record { tree = t; needing = needing all before (mentions_of t); xs = a.0 } in
      let ps = places (alone t) in
      let bare = bare_renamed t u b.0 part.renamed in
      let ss = map (moved_site m) (sites (alone u)) in
      let long : length (names (alone u)) ≡ length ss = one_name_each (alone u) ∙ sym (length-map (sites (alone u)) (moved_site m)) in
      let same : sites (alone u) ≡ map site_of ps = sites_renamed (alone t) (alone u) part.renamed ∙ sym (sites_there t) in
      let called : names (alone u) ≡ map (renamed d) ps = part.names ∙ after_renaming d in
      ap (named_by (ss ++ moved_sites (moves_after m u) us)) (names_onto (body u) (bodies us) ∙ ap (λ (xs : List Text). xs ++ names (bodies us)) (sym (bare_names u bare)))
      ∙ named_append ss (moved_sites (moves_after m u) us) (names (alone u)) (names (bodies us)) long
      ∙ ap₂ (λ (qs rs : List Place). qs ++ rs)
      (ap₂ (λ (rs : List Site) (xs : List Text). named_by (map (moved_site m) rs) xs) same called ∙ named_final m d ps)
      (ap (λ (n : Moves). named_by (moved_sites n us) (names (bodies us))) (same_moves m t u b.0 bare part.renamed)
      ∙ finals (moves_after m t) (before ++ mentions_of t ∷ []) (given ++ a.0) ts us last a.2 b.1)

  all_bare : (before : Modules) (given : List Text) (ts us : List Tree) (last : List Text) → AreParts all before given ts us last → AllByRecursion IsBare ts → AllByRecursion IsBare us
  all_bare before given [] [] last a b = tt
  all_bare before given [] (u ∷ us) last a b = absurd a
  all_bare before given (t ∷ ts) [] last a b = absurd a
  all_bare before given (t ∷ ts) (u ∷ us) last a b = (bare_renamed t u b.0 a.1.renamed, all_bare (before ++ mentions_of t ∷ []) (given ++ a.0) ts us last a.2 b.1)

  -- the places of the joined trees
  pub joined_places : (ts us : List Tree) (last : List Text) (a : AreParts all [] [] ts us last) → AllByRecursion IsBare ts → places (alone (joined us)) ≡ final no_moves (parts all [] [] ts us last a)
  unfolding places joined module_of
  joined_places ts us last a b =
      ap (λ (ss : List Site). named_by ss (names (alone (joined us)))) (joining_moves_places us (all_bare [] [] ts us last a b))
      ∙ ap (named_by (moved_sites no_moves us)) (module_names 0 0 (bodies us))
      ∙ finals no_moves [] [] ts us last a b
