-- Private names along a chain of class bodies, and what each new one is bound to.
use Rattle.std.specs.List.{flat_map, list_any}
use Rattle.std.specs.Prelude.{◌≡◌, ◌⊎◌, ◌≤◌, ◌<◌, ℕ, suc, ◌+◌, Bool, true, false, cond, not, ◌||◌, ◌&&◌, nat_eq, List, [], ◌∷◌, ◌++◌, length, map, filter, find, sum, Option, Some, None, is_some}
use Rattle.std.proofs.Common.{refl, sym, ap, ◌∙◌, subst, arith, inl, inr}
use Rattle.std.proofs.lemmas.Bool.{or_cases, or_left, or_right, and_parts, and_from, both_ways, eq-eqb, eqb-true}
use Rattle.std.proofs.lemmas.List.Sums.{sum_by-cons}
use Rattle.std.proofs.lemmas.Simd.{map-map}
use Rattle.list_laws.proofs.AllOf.{of_each}
use Rattle.list_laws.proofs.AnyOf.{any_from, any_some}
use Rattle.list_laws.proofs.FirstOf.{First, find_first, find_map, find_none, find_same_first}
use Rattle.list_laws.proofs.Mapped.{map_same}
use Rattle.list_laws.proofs.Members.{In, from_filter, from_map, in_filter, in_left, in_map, in_right}
use Rattle.list_laws.proofs.Tests.{none_some, tested, told}
use Rattle.tree_nodes.specs.Tree.{Parts, Text}
use Rattle.tree_places.proofs.Linked.{class_chains, one_outside}
use Rattle.tree_places.proofs.Outwards.{chain, inside_parent, inside_refl, inside_trans, same_scope_eq, same_scope_refl}
use Rattle.tree_places.proofs.Walks.{known}
use Rattle.tree_places.specs.Places.{Place, names, places, sites}
use Rattle.tree_places.specs.Scopes.{Scope, is_inside, same_scope}
use Rattle.scope_rules.proofs.PlacesRise.{named_site}
use Rattle.scope_rules.proofs.SameNames.{same_name_tells, among_in, from_distinct, in_among, to_distinct}
use Rattle.scope_rules.specs.Bindings.{node_of, same_name}
use Rattle.scope_rules.specs.Evals.{contains, is_eval, is_open}
use Rattle.scope_rules.specs.Faults.{has_undeclared, is_undeclared}
use Rattle.scope_rules.specs.PrivateNames.{declares_private, declares_private_name, is_among, is_innermost, is_member_key, private_binder, private_binding, private_bindings, private_names}
use Rattle.scope_rules.specs.Renamings.{all_under, under}
use Rattle.name_rules.proofs.NthUnlisted.{nth, nth_is_one_to_one, nth_is_unlisted}
use Rattle.name_rules.proofs.ShortNumbers.{short_is_one_to_one}
use Rattle.name_rules.specs.Open.{all_open}
use Rattle.name_rules.specs.PrivateLaws.{IsClosedAround}
use Rattle.name_rules.specs.PrivateNumbers.{closed_count, index_of, new_private_name, number_in, open_names, private_number}
use Rattle.name_rules.specs.ShortNames.{short}

-- ---- lists of names

pub index_below : (ns : List Text) (x : Text) → is_among ns x ≡ true → index_of x ns < length ns
unfolding all_open
index_below [] x h = absurd (both_ways false refl h)
index_below (y ∷ ys) x h = go (same_name x y) h (index_below ys x)
  where
    go : (b : Bool) → (b || is_among ys x) ≡ true → (is_among ys x ≡ true → index_of x ys < length ys) → cond b 0 (suc (index_of x ys)) < suc (length ys)
    go true k ih = omega arith
    go false k ih = let r : index_of x ys < length ys = ih k in omega (arith, r)

index_tells : (ns : List Text) (x y : Text) → is_among ns x ≡ true → is_among ns y ≡ true → index_of x ns ≡ index_of y ns → x ≡ y
unfolding all_open
index_tells [] x y h k e = absurd (both_ways false refl h)
index_tells (z ∷ zs) x y h k e = go (same_name x z) (same_name y z) refl refl h k e (index_tells zs x y)
  where
    go : (a b : Bool) → same_name x z ≡ a → same_name y z ≡ b → (a || is_among zs x) ≡ true → (b || is_among zs y) ≡ true → cond a 0 (suc (index_of x zs)) ≡ cond b 0 (suc (index_of y zs))
        → (is_among zs x ≡ true → is_among zs y ≡ true → index_of x zs ≡ index_of y zs → x ≡ y) → x ≡ y
    go true true p q h k e ih = (same_name_tells x z).0 p ∙ sym ((same_name_tells y z).0 q)
    go true false p q h k e ih = absurd (omega (arith, e))
    go false true p q h k e ih = absurd (omega (arith, e))
    go false false p q h k e ih = ih h k (omega (arith, e))

-- ---- the names that a class declares

declared_in : (ps : List Place) (c : ℕ) (q : Place) → In q ps → declares_private c q.site ≡ true → is_among (private_names ps c) q.name ≡ true
unfolding all_open
declared_in ps c q i d =
    to_distinct [] (map (λ p. p.name) (filter (λ p. declares_private c p.site) ps)) q.name
    (in_among (map (λ p. p.name) (filter (λ p. declares_private c p.site) ps)) q.name (in_map (λ (p : Place). p.name) (filter (λ p. declares_private c p.site) ps) q (in_filter (λ (p : Place). declares_private c p.site) ps q i d)))
    refl

declarer : (ps : List Place) (c : ℕ) (x : Text) → is_among (private_names ps c) x ≡ true → (q : Place) × In q ps × (declares_private_name same_name x c q ≡ true)
unfolding all_open
declarer ps c x h =
    let k : is_among (map (λ (p : Place). p.name) (filter (λ p. declares_private c p.site) ps)) x ≡ true = from_distinct [] (map (λ p. p.name) (filter (λ p. declares_private c p.site) ps)) x h in
    let w : (q : Place) × In q (filter (λ p. declares_private c p.site) ps) × (q.name ≡ x) = from_map (λ (p : Place). p.name) (filter (λ p. declares_private c p.site) ps) x (among_in (map (λ p. p.name) (filter (λ p. declares_private c p.site) ps)) x k) in
    let f : In w.0 ps × (declares_private c w.0.site ≡ true) = from_filter (λ (p : Place). declares_private c p.site) ps w.0 w.1 in
    (w.0, f.0, and_from _ _ f.1 ((same_name_tells w.0.name x).1 w.2))

sum_first : (n : ℕ) (ns : List ℕ) → sum (n ∷ ns) ≡ n + sum ns
sum_first n ns = sum_by-cons (λ x. x) n ns

-- ---- chains of class bodies

contains_inside : (ns : List ℕ) (c : ℕ) (o : List ℕ) → is_inside ns (c ∷ o) ≡ true → contains ns c ≡ true
unfolding all_open
contains_inside [] c o h = absurd (both_ways false refl h)
contains_inside (n ∷ ns) c o h = go (or_cases _ _ h) (contains_inside ns c o)
  where
    go : (same_scope (n ∷ ns) (c ∷ o) ≡ true) ⊎ (is_inside ns (c ∷ o) ≡ true) → (is_inside ns (c ∷ o) ≡ true → contains ns c ≡ true) → contains (n ∷ ns) c ≡ true
    go (inl e) ih = or_left _ _ (eq-eqb c n (ap (λ (x : Scope). elim x [ [] ↦ 0 | k ∷ ks ↦ k ]) (sym (same_scope_eq (n ∷ ns) (c ∷ o) e))))
    go (inr e) ih = or_right _ _ (ih e)

outside_of : (ns : List ℕ) (c : ℕ) → contains ns c ≡ true → (o : List ℕ) × (is_inside ns (c ∷ o) ≡ true)
unfolding all_open
outside_of [] c h = absurd (both_ways false refl h)
outside_of (n ∷ ns) c h = go (or_cases _ _ h) (outside_of ns c)
  where
    go : (nat_eq c n ≡ true) ⊎ (list_any (nat_eq c) ns ≡ true) → (list_any (nat_eq c) ns ≡ true → (o : List ℕ) × (is_inside ns (c ∷ o) ≡ true)) → (o : List ℕ) × (is_inside (n ∷ ns) (c ∷ o) ≡ true)
    go (inl e) ih = (ns, or_left _ _ (subst (λ (k : ℕ). same_scope (n ∷ ns) (k ∷ ns) ≡ true) (sym (eqb-true c n e)) (same_scope_refl (n ∷ ns))))
    go (inr e) ih = let r : (o : List ℕ) × (is_inside ns (c ∷ o) ≡ true) = ih e in (r.0, or_right _ _ r.1)

module _ (t : Parts) where
  known_around : (p : Place) → In p (places t) → known (class_chains t).chains p.site.setting.classes ≡ true
  unfolding places
  known_around p i = of_each (λ s. known (class_chains t).chains s.setting.classes ≡ true) (sites t) p.site (class_chains t).around (named_site (sites t) (names t) p i)

  outside_one : (p q : Place) → In p (places t) → In q (places t) → (c : ℕ) (o r : Scope) → is_inside p.site.setting.classes (c ∷ o) ≡ true → is_inside q.site.setting.classes (c ∷ r) ≡ true → o ≡ r
  outside_one p q i j c o r h k = one_outside (class_chains t).chains (class_chains t).proper p.site.setting.classes q.site.setting.classes c o r (known_around p i) (known_around q j) h k

  -- a class around an open one is open
  open_outwards : (p : Place) → In p (places t) → (c d : ℕ) (o r : Scope) → is_inside p.site.setting.classes (c ∷ o) ≡ true → is_inside o (d ∷ r) ≡ true → is_open (places t) c ≡ true → is_open (places t) d ≡ true
  unfolding all_open
  open_outwards p i c d o r h k e =
      let w : (q : Place) × In q (places t) × ((is_eval q && contains q.site.setting.classes c) ≡ true) = any_some (λ q. is_eval q && contains q.site.setting.classes c) (places t) e in
      let two : (is_eval w.0 ≡ true) × (contains w.0.site.setting.classes c ≡ true) = and_parts _ _ w.2 in
      let u : (x : List ℕ) × (is_inside w.0.site.setting.classes (c ∷ x) ≡ true) = outside_of w.0.site.setting.classes c two.1 in
      let same : u.0 ≡ o = outside_one w.0 p w.1 i c u.0 o u.1 h in
      let at : is_inside w.0.site.setting.classes (c ∷ o) ≡ true = subst (λ (x : Scope). is_inside w.0.site.setting.classes (c ∷ x) ≡ true) same u.1 in
      let far : is_inside w.0.site.setting.classes (d ∷ r) ≡ true = inside_trans w.0.site.setting.classes (c ∷ o) (d ∷ r) at (or_right _ _ k) in
      any_from (λ q. is_eval q && contains q.site.setting.classes d) (places t) w.0 w.1 (and_from _ _ two.0 (contains_inside w.0.site.setting.classes d r far))

  closed_inwards : (p : Place) → In p (places t) → (c d : ℕ) (o r : Scope) → is_inside p.site.setting.classes (c ∷ o) ≡ true → is_inside o (d ∷ r) ≡ true → is_open (places t) d ≡ false → is_open (places t) c ≡ false
  closed_inwards p i c d o r h k f = tested (is_open (places t) c) (λ e. absurd (both_ways _ f (open_outwards p i c d o r h k e))) (λ e. e)

  -- ---- counts and avoided names along a chain

  count_closed : (d : ℕ) (o : Scope) → is_open (places t) d ≡ false → closed_count (places t) (d ∷ o) ≡ length (private_names (places t) d) + closed_count (places t) o
  unfolding all_open
  count_closed d o f = ap (λ b. sum (map (λ c. length (private_names (places t) c)) (cond (not b) (d ∷ filter (λ c. not (is_open (places t) c)) o) (filter (λ c. not (is_open (places t) c)) o)))) f
      ∙ sum_first (length (private_names (places t) d)) (map (λ c. length (private_names (places t) c)) (filter (λ c. not (is_open (places t) c)) o))

  count_grows : (e : ℕ) (o : Scope) → closed_count (places t) o ≤ closed_count (places t) (e ∷ o)
  unfolding all_open
  count_grows e o = go (not (is_open (places t) e))
    where
      go : (b : Bool) → closed_count (places t) o ≤ sum (map (λ c. length (private_names (places t) c)) (cond b (e ∷ filter (λ c. not (is_open (places t) c)) o) (filter (λ c. not (is_open (places t) c)) o)))
      go true = let e : sum (map (λ c. length (private_names (places t) c)) (e ∷ filter (λ c. not (is_open (places t) c)) o)) ≡ length (private_names (places t) e) + closed_count (places t) o =
          sum_first (length (private_names (places t) e)) (map (λ c. length (private_names (places t) c)) (filter (λ c. not (is_open (places t) c)) o)) in omega (arith, e)
      go false = omega arith

  count_inside : (o : Scope) (d : ℕ) (r : Scope) → is_inside o (d ∷ r) ≡ true → is_open (places t) d ≡ false → length (private_names (places t) d) + closed_count (places t) r ≤ closed_count (places t) o
  unfolding all_open
  count_inside [] d r h f = absurd (both_ways false refl h)
  count_inside (e ∷ es) d r h f = go (or_cases _ _ h) (λ k. count_inside es d r k f)
    where
      go : (same_scope (e ∷ es) (d ∷ r) ≡ true) ⊎ (is_inside es (d ∷ r) ≡ true) → (is_inside es (d ∷ r) ≡ true → length (private_names (places t) d) + closed_count (places t) r ≤ closed_count (places t) es)
          → length (private_names (places t) d) + closed_count (places t) r ≤ closed_count (places t) (e ∷ es)
      go (inl q) ih = subst (λ (x : Scope). length (private_names (places t) d) + closed_count (places t) r ≤ closed_count (places t) x) (sym (same_scope_eq (e ∷ es) (d ∷ r) q))
          (let c : closed_count (places t) (d ∷ r) ≡ length (private_names (places t) d) + closed_count (places t) r = count_closed d r f in omega (arith, c))
      go (inr q) ih = let a : length (private_names (places t) d) + closed_count (places t) r ≤ closed_count (places t) es = ih q in let b : closed_count (places t) es ≤ closed_count (places t) (e ∷ es) = count_grows e es in omega (arith, a, b)

  names_closed : (e : ℕ) (o : Scope) → is_open (places t) e ≡ false → open_names (places t) (e ∷ o) ≡ open_names (places t) o
  unfolding all_open
  names_closed e o f = ap (λ b. flat_map (private_names (places t)) (cond b (e ∷ filter (is_open (places t)) o) (filter (is_open (places t)) o))) f

  names_inside : (p : Place) → In p (places t) → (o : Scope) (d : ℕ) (r : Scope) → is_inside p.site.setting.classes o ≡ true → is_inside o (d ∷ r) ≡ true → is_open (places t) d ≡ false → open_names (places t) o ≡ open_names (places t) r
  unfolding all_open
  names_inside p i [] d r a h f = absurd (both_ways false refl h)
  names_inside p i (e ∷ es) d r a h f = go (or_cases _ _ h) (λ k. names_inside p i es d r (inside_parent p.site.setting.classes e es a) k f)
    where
      go : (same_scope (e ∷ es) (d ∷ r) ≡ true) ⊎ (is_inside es (d ∷ r) ≡ true) → (is_inside es (d ∷ r) ≡ true → open_names (places t) es ≡ open_names (places t) r) → open_names (places t) (e ∷ es) ≡ open_names (places t) r
      go (inl q) ih = ap (open_names (places t)) (same_scope_eq (e ∷ es) (d ∷ r) q) ∙ names_closed d r f
      go (inr q) ih = names_closed e es (closed_inwards p i e d es r a q f) ∙ ih q

  -- the names of an open class around are avoided
  open_among : (o : Scope) (c : ℕ) (r : Scope) (x : Text) → is_inside o (c ∷ r) ≡ true → is_open (places t) c ≡ true → is_among (private_names (places t) c) x ≡ true → is_among (open_names (places t) o) x ≡ true
  unfolding all_open
  open_among [] c r x h e k = absurd (both_ways false refl h)
  open_among (d ∷ ds) c r x h e k = go (or_cases _ _ h) (is_open (places t) d) refl (λ q. open_among ds c r x q e k)
    where
      go : (same_scope (d ∷ ds) (c ∷ r) ≡ true) ⊎ (is_inside ds (c ∷ r) ≡ true) → (b : Bool) → is_open (places t) d ≡ b → (is_inside ds (c ∷ r) ≡ true → is_among (open_names (places t) ds) x ≡ true)
          → is_among (flat_map (private_names (places t)) (cond b (d ∷ filter (is_open (places t)) ds) (filter (is_open (places t)) ds))) x ≡ true
      go (inl q) true f ih =
          let s : d ≡ c = ap (λ (y : Scope). elim y [ [] ↦ 0 | n ∷ ns ↦ n ]) (same_scope_eq (d ∷ ds) (c ∷ r) q) in
          in_among (private_names (places t) d ++ flat_map (private_names (places t)) (filter (is_open (places t)) ds)) x
          (in_left (private_names (places t) d) (flat_map (private_names (places t)) (filter (is_open (places t)) ds)) x
          (among_in (private_names (places t) d) x (subst (λ (n : ℕ). is_among (private_names (places t) n) x ≡ true) (sym s) k)))
      go (inl q) false f ih =
          let s : d ≡ c = ap (λ (y : Scope). elim y [ [] ↦ 0 | n ∷ ns ↦ n ]) (same_scope_eq (d ∷ ds) (c ∷ r) q) in
          absurd (both_ways _ f (subst (λ (n : ℕ). is_open (places t) n ≡ true) (sym s) e))
      go (inr q) true f ih = in_among (private_names (places t) d ++ flat_map (private_names (places t)) (filter (is_open (places t)) ds)) x
          (in_right (private_names (places t) d) (flat_map (private_names (places t)) (filter (is_open (places t)) ds)) x (among_in (open_names (places t) ds) x (ih q)))
      go (inr q) false f ih = ih q

  -- ---- numbers along a chain are different

  -- of c inside d, both not open
  inner_apart : (p : Place) → In p (places t) → (c d : ℕ) (o r : Scope) → is_inside p.site.setting.classes (c ∷ o) ≡ true → is_inside o (d ∷ r) ≡ true → is_open (places t) d ≡ false
      → (i j : ℕ) → j < length (private_names (places t) d) → number_in (places t) o i ≡ number_in (places t) r j → ⊥
  unfolding all_open
  inner_apart p ip c d o r h k f i j below e =
      let avoided : open_names (places t) o ≡ open_names (places t) r = names_inside p ip o d r (inside_parent p.site.setting.classes c o h) k f in
      let n : closed_count (places t) o + i ≡ closed_count (places t) r + j = nth_is_one_to_one (open_names (places t) r) (closed_count (places t) o + i) (closed_count (places t) r + j)
      (subst (λ (ns : List Text). nth ns (closed_count (places t) o + i) ≡ number_in (places t) r j) avoided e) in
      let m : length (private_names (places t) d) + closed_count (places t) r ≤ closed_count (places t) o = count_inside o d r k f in
      omega (arith, n, m, below)

  pub private_numbers_differ : (p : Place) → In p (places t) → (c d : ℕ) (o r : List ℕ) → IsClosedAround t p c o → IsClosedAround t p d r
      → (i j : ℕ) → i < length (private_names (places t) c) → j < length (private_names (places t) d) → number_in (places t) o i ≡ number_in (places t) r j → (c ≡ d) × (i ≡ j)
  unfolding all_open
  private_numbers_differ p ip c d o r h k i j a b e = go (chain p.site.setting.classes (c ∷ o) (d ∷ r) h.around k.around)
    where
      one : c ∷ o ≡ d ∷ r → (c ≡ d) × (i ≡ j)
      one q =
          let same_outer : o ≡ r = ap (λ (y : Scope). elim y [ [] ↦ [] | n ∷ ns ↦ ns ]) q in
          let n : closed_count (places t) r + i ≡ closed_count (places t) r + j = nth_is_one_to_one (open_names (places t) r) (closed_count (places t) r + i) (closed_count (places t) r + j)
          (subst (λ (y : Scope). number_in (places t) y i ≡ number_in (places t) r j) same_outer e) in
          (ap (λ (y : Scope). elim y [ [] ↦ 0 | n ∷ ns ↦ n ]) q, omega (arith, n))

      first : (same_scope (c ∷ o) (d ∷ r) ≡ true) ⊎ (is_inside o (d ∷ r) ≡ true) → (c ≡ d) × (i ≡ j)
      first (inl q) = one (same_scope_eq (c ∷ o) (d ∷ r) q)
      first (inr q) = absurd (inner_apart p ip c d o r h.around q k.closed i j b e)

      second : (same_scope (d ∷ r) (c ∷ o) ≡ true) ⊎ (is_inside r (c ∷ o) ≡ true) → (c ≡ d) × (i ≡ j)
      second (inl q) = one (sym (same_scope_eq (d ∷ r) (c ∷ o) q))
      second (inr q) = absurd (inner_apart p ip d c r o k.around q h.closed j i a (sym e))

      go : (is_inside (c ∷ o) (d ∷ r) ≡ true) ⊎ (is_inside (d ∷ r) (c ∷ o) ≡ true) → (c ≡ d) × (i ≡ j)
      go (inl q) = first (or_cases _ _ q)
      go (inr q) = second (or_cases _ _ q)

  -- ---- what a private name is called

  number_for : ℕ → List ℕ → Text → Option ℕ
  number_for c o x = cond (is_open (places t) c) None (Some (number_in (places t) o (index_of x (private_names (places t) c))))

  by_number : Text → Option ℕ → Text
  by_number x n = elim n [ None ↦ x | Some k ↦ short k ]

  -- where a class declares the name x
  called : ℕ → List ℕ → Text → Text
  called c o x = by_number x (number_for c o x)

  called_open : (c : ℕ) (o : List ℕ) (x : Text) → is_open (places t) c ≡ true → called c o x ≡ x
  unfolding called by_number number_for
  called_open c o x e = ap (λ b. by_number x (cond b None (Some (number_in (places t) o (index_of x (private_names (places t) c)))))) e

  called_closed : (c : ℕ) (o : List ℕ) (x : Text) → is_open (places t) c ≡ false → called c o x ≡ short (number_in (places t) o (index_of x (private_names (places t) c)))
  unfolding called by_number number_for
  called_closed c o x e = ap (λ b. by_number x (cond b None (Some (number_in (places t) o (index_of x (private_names (places t) c)))))) e

  -- one class calls different names differently
  called_one : (c : ℕ) (o : List ℕ) (x y : Text) → is_among (private_names (places t) c) x ≡ true → is_among (private_names (places t) c) y ≡ true → called c o x ≡ called c o y → x ≡ y
  unfolding all_open
  called_one c o x y h k e = tested (is_open (places t) c)
      (λ f. sym (called_open c o x f) ∙ e ∙ called_open c o y f)
      (λ f.
      let xs : List Text = private_names (places t) c in
      let n : number_in (places t) o (index_of x xs) ≡ number_in (places t) o (index_of y xs) = short_is_one_to_one (number_in (places t) o (index_of x xs)) (number_in (places t) o (index_of y xs)) (sym (called_closed c o x f) ∙ e ∙ called_closed c o y f) in
      let m : closed_count (places t) o + index_of x xs ≡ closed_count (places t) o + index_of y xs = nth_is_one_to_one (open_names (places t) o) (closed_count (places t) o + index_of x xs) (closed_count (places t) o + index_of y xs) n in
      index_tells xs x y h k (omega (arith, m)))

  -- a class inside another calls its own names otherwise than that calls its, if they aren't one
  called_other : (p : Place) → In p (places t) → (d c : ℕ) (o r : List ℕ) (y x : Text) → is_inside p.site.setting.classes (d ∷ o) ≡ true → is_inside o (c ∷ r) ≡ true
      → is_among (private_names (places t) d) y ≡ true → is_among (private_names (places t) c) x ≡ true → (y ≡ x → ⊥) → called d o y ≡ called c r x → ⊥
  unfolding all_open
  called_other p ip d c o r y x h k a b n e = tested (is_open (places t) c)
      (λ f. tested (is_open (places t) d)
      (λ g. n (sym (called_open d o y g) ∙ e ∙ called_open c r x f))
      (λ g. let q : short (number_in (places t) o (index_of y (private_names (places t) d))) ≡ x = sym (called_closed d o y g) ∙ e ∙ called_open c r x f in
      both_ways _ (nth_is_unlisted (open_names (places t) o) (closed_count (places t) o + index_of y (private_names (places t) d)))
      (subst (λ (z : Text). is_among (open_names (places t) o) z ≡ true) (sym q) (open_among o c r x k f b))))
      (λ f. let g : is_open (places t) d ≡ false = closed_inwards p ip d c o r h k f in
      inner_apart p ip d c o r h k f (index_of y (private_names (places t) d)) (index_of x (private_names (places t) c)) (index_below (private_names (places t) c) x b)
      (short_is_one_to_one (number_in (places t) o (index_of y (private_names (places t) d))) (number_in (places t) r (index_of x (private_names (places t) c)))
      (sym (called_closed d o y g) ∙ e ∙ called_closed c r x f)))

  -- ---- where a private name is declared

  further : Text → List ℕ → Option ℕ → Option ℕ
  further x o n = elim n [ Some k ↦ Some k | None ↦ private_binder same_name (places t) x o ]

  step : (x : Text) (d : ℕ) (o : List ℕ) → private_binder same_name (places t) x (d ∷ o) ≡ further x o (node_of (find (declares_private_name same_name x d) (places t)))
  unfolding all_open further
  step x d o = refl

  among_found : (x : Text) (d : ℕ) (q : Place) → find (declares_private_name same_name x d) (places t) ≡ Some q → is_among (private_names (places t) d) x ≡ true
  unfolding all_open
  among_found x d q f =
      let g : First (declares_private_name same_name x d) (places t) q = find_first (declares_private_name same_name x d) (places t) q f in
      let two : (declares_private d q.site ≡ true) × (same_name q.name x ≡ true) = and_parts _ _ g.passes in
      subst (λ (y : Text). is_among (private_names (places t) d) y ≡ true) ((same_name_tells q.name x).0 two.1) (declared_in (places t) d q g.among two.0)

  among_none : (x : Text) (d : ℕ) → find (declares_private_name same_name x d) (places t) ≡ None → is_among (private_names (places t) d) x ≡ false
  unfolding all_open
  among_none x d f = tested (is_among (private_names (places t) d) x)
      (λ e. let w : (q : Place) × In q (places t) × (declares_private_name same_name x d q ≡ true) = declarer (places t) d x e in
      absurd (find_none (declares_private_name same_name x d) (places t) w.0 f w.1 w.2))
      (λ e. e)

  number_here : (x : Text) (d : ℕ) (o : List ℕ) → is_among (private_names (places t) d) x ≡ true → private_number (places t) x (d ∷ o) ≡ number_for d o x
  unfolding all_open number_for
  number_here x d o e = ap (λ b. cond b (cond (is_open (places t) d) None (Some (number_in (places t) o (index_of x (private_names (places t) d))))) (private_number (places t) x o)) e

  number_further : (x : Text) (d : ℕ) (o : List ℕ) → is_among (private_names (places t) d) x ≡ false → private_number (places t) x (d ∷ o) ≡ private_number (places t) x o
  unfolding all_open
  number_further x d o e = ap (λ b. cond b (cond (is_open (places t) d) None (Some (number_in (places t) o (index_of x (private_names (places t) d))))) (private_number (places t) x o)) e

  -- the class that declares the name of a bound private place
  record Declarer (x : Text) (s : List ℕ) : Type 0 where
    class : ℕ
    outer : List ℕ
    inside : is_inside s (class ∷ outer) ≡ true
    among : is_among (private_names (places t) class) x ≡ true
    number : private_number (places t) x s ≡ number_for class outer x

  declarer_of : (x : Text) (s : List ℕ) (n : ℕ) → private_binder same_name (places t) x s ≡ Some n → Declarer x s
  unfolding all_open further
  declarer_of x [] n e = absurd (none_some n e)
  declarer_of x (d ∷ o) n e = told (find (declares_private_name same_name x d) (places t))
      (λ none. let r : Declarer x o = declarer_of x o n (sym (ap (λ q. further x o (node_of q)) none) ∙ sym (step x d o) ∙ e) in
      record { class = r.class; outer = r.outer; inside = or_right _ _ r.inside; among = r.among; number = number_further x d o (among_none x d none) ∙ r.number })
      (λ q f. record { class = d; outer = o; inside = inside_refl (d ∷ o); among = among_found x d q f; number = number_here x d o (among_found x d q f) })

  innermost : (d : ℕ) (cs : List ℕ) → is_innermost d cs ≡ true → (o : List ℕ) × (cs ≡ d ∷ o)
  unfolding all_open
  innermost d [] h = absurd (both_ways false refl h)
  innermost d (k ∷ ks) h = (ks, ap (λ n. n ∷ ks) (eqb-true k d h))

  -- ---- new names

  module _ (new : Place → Text) (so : (p : Place) → In p (places t) → p.site.private ≡ true → new p ≡ new_private_name (places t) p) where
    -- what a class in the chain around p declares is called so
    declared_so : (p q : Place) → In p (places t) → In q (places t) → (d : ℕ) (o : List ℕ) → is_inside p.site.setting.classes (d ∷ o) ≡ true → declares_private d q.site ≡ true → new q ≡ called d o q.name
    unfolding all_open called by_number
    declared_so p q i j d o h k =
        let one : ((q.site.private && is_member_key q.site.setting.role) ≡ true) × (is_innermost d q.site.setting.classes ≡ true) = and_parts _ _ k in
        let w : (r : List ℕ) × (q.site.setting.classes ≡ d ∷ r) = innermost d q.site.setting.classes one.1 in
        let inside : is_inside q.site.setting.classes (d ∷ w.0) ≡ true = subst (λ (x : Scope). is_inside x (d ∷ w.0) ≡ true) (sym w.1) (inside_refl (d ∷ w.0)) in
        let same : w.0 ≡ o = outside_one q p j i d w.0 o inside h in
        so q j (and_parts _ _ one.0).0
        ∙ ap (by_number q.name) (ap (private_number (places t) q.name) w.1 ∙ number_here q.name d w.0 (declared_in (places t) d q j k))
        ∙ ap (λ r. called d r q.name) same

    node_under : (o : Option Place) → node_of (elim o as (λ q. Option Place) [ None ↦ None | Some p ↦ Some (under new p) ]) ≡ node_of o
    unfolding all_open
    node_under None = refl
    node_under (Some p) = refl

    further' : Text → List ℕ → Option ℕ → Option ℕ
    further' x o n = elim n [ Some k ↦ Some k | None ↦ private_binder same_name (all_under new (places t)) x o ]

    step' : (x : Text) (d : ℕ) (o : List ℕ) → private_binder same_name (all_under new (places t)) x (d ∷ o) ≡ further' x o (node_of (find (λ q. declares_private_name same_name x d (under new q)) (places t)))
    unfolding all_open further'
    step' x d o = ap (further' x o) (ap node_of (find_map (under new) (declares_private_name same_name x d) (places t)) ∙ node_under (find (λ q. declares_private_name same_name x d (under new q)) (places t)))

    binder_stays : (p : Place) → In p (places t) → (n : ℕ) (s : List ℕ) → is_inside p.site.setting.classes s ≡ true → private_binder same_name (places t) p.name s ≡ Some n → new p ≡ by_number p.name (private_number (places t) p.name s)
        → private_binder same_name (all_under new (places t)) (new p) s ≡ private_binder same_name (places t) p.name s
    unfolding all_open called by_number further further'
    binder_stays p i n [] h e c = refl
    binder_stays p i n (d ∷ o) h e c = step' (new p) d o ∙ told (find (declares_private_name same_name p.name d) (places t))
        (λ none.
        let on : private_binder same_name (places t) p.name o ≡ Some n = sym (ap (λ q. further p.name o (node_of q)) none) ∙ sym (step p.name d o) ∙ e in
        let c₁ : new p ≡ by_number p.name (private_number (places t) p.name o) = c ∙ ap (by_number p.name) (number_further p.name d o (among_none p.name d none)) in
        let r : Declarer p.name o = declarer_of p.name o n on in
        let is : new p ≡ called r.class r.outer p.name = c₁ ∙ ap (by_number p.name) r.number in
        let nor : find (λ q. declares_private_name same_name (new p) d (under new q)) (places t) ≡ None = nothing d o none h r.class r.outer r.inside r.among is in
        ap (λ q. further' (new p) o (node_of q)) nor
        ∙ binder_stays p i n o (inside_parent p.site.setting.classes d o h) on c₁
        ∙ sym (step p.name d o ∙ ap (λ q. further p.name o (node_of q)) none))
        (λ q f.
        let is : new p ≡ called d o p.name = c ∙ ap (by_number p.name) (number_here p.name d o (among_found p.name d q f)) in
        ap (λ x. further' (new p) o (node_of x)) (found d o h is (among_found p.name d q f) ∙ f) ∙ sym (step p.name d o ∙ ap (λ x. further p.name o (node_of x)) f))
      where
        nothing : (d : ℕ) (o : List ℕ) → find (declares_private_name same_name p.name d) (places t) ≡ None → is_inside p.site.setting.classes (d ∷ o) ≡ true
            → (k : ℕ) (r : List ℕ) → is_inside o (k ∷ r) ≡ true → is_among (private_names (places t) k) p.name ≡ true → new p ≡ called k r p.name
            → find (λ q. declares_private_name same_name (new p) d (under new q)) (places t) ≡ None
        nothing d o none h k r inside among is = told (find (λ q. declares_private_name same_name (new p) d (under new q)) (places t)) (λ x. x)
            (λ q f.
            let g : First (λ q. declares_private_name same_name (new p) d (under new q)) (places t) q = find_first (λ q. declares_private_name same_name (new p) d (under new q)) (places t) q f in
            let two : (declares_private d q.site ≡ true) × (same_name (new q) (new p) ≡ true) = and_parts _ _ g.passes in
            let e : called d o q.name ≡ called k r p.name = sym (declared_so p q i g.among d o h two.0) ∙ (same_name_tells (new q) (new p)).0 two.1 ∙ is in
            absurd (called_other p i d k o r q.name p.name h inside (declared_in (places t) d q g.among two.0) among
            (λ same. find_none (declares_private_name same_name p.name d) (places t) q none g.among (and_from _ _ two.0 ((same_name_tells q.name p.name).1 same))) e))

        found : (d : ℕ) (o : List ℕ) → is_inside p.site.setting.classes (d ∷ o) ≡ true → new p ≡ called d o p.name → is_among (private_names (places t) d) p.name ≡ true
            → find (λ q. declares_private_name same_name (new p) d (under new q)) (places t) ≡ find (declares_private_name same_name p.name d) (places t)
        found d o h is among = find_same_first (declares_private_name same_name p.name d) (λ q. declares_private_name same_name (new p) d (under new q)) (places t)
            (λ q j e.
            let two : (declares_private d q.site ≡ true) × (same_name (new q) (new p) ≡ true) = and_parts _ _ e in
            and_from _ _ two.0 ((same_name_tells q.name p.name).1 (called_one d o q.name p.name (declared_in (places t) d q j two.0) among
            (sym (declared_so p q i j d o h two.0) ∙ (same_name_tells (new q) (new p)).0 two.1 ∙ is))))
            (λ q f.
            let g : First (declares_private_name same_name p.name d) (places t) q = find_first (declares_private_name same_name p.name d) (places t) q f in
            let two : (declares_private d q.site ≡ true) × (same_name q.name p.name ≡ true) = and_parts _ _ g.passes in
            and_from _ _ two.0 ((same_name_tells (new q) (new p)).1 (declared_so p q i g.among d o h two.0 ∙ ap (called d o) ((same_name_tells q.name p.name).0 two.1) ∙ sym is)))

    binding_stays : has_undeclared same_name (places t) ≡ false → (p : Place) → In p (places t) → private_binding same_name (all_under new (places t)) (under new p) ≡ private_binding same_name (places t) p
    unfolding all_open by_number
    binding_stays sound p i = tested p.site.private
        (λ e. ap (λ b. cond b (private_binder same_name (all_under new (places t)) (new p) p.site.setting.classes) None) e
        ∙ told (private_binder same_name (places t) p.name p.site.setting.classes)
        (λ none. absurd (both_ways _ sound (any_from (is_undeclared same_name (places t)) (places t) p i
        (and_from _ _ e (ap (λ b. not (is_some (cond b (private_binder same_name (places t) p.name p.site.setting.classes) None))) e ∙ ap (λ o. not (is_some o)) none)))))
        (λ n f. binder_stays p i n p.site.setting.classes (inside_refl p.site.setting.classes) f (so p i e))
        ∙ sym (ap (λ b. cond b (private_binder same_name (places t) p.name p.site.setting.classes) None) e))
        (λ e. ap (λ b. cond b (private_binder same_name (all_under new (places t)) (new p) p.site.setting.classes) None) e
        ∙ sym (ap (λ b. cond b (private_binder same_name (places t) p.name p.site.setting.classes) None) e))

    pub private_names_keep_bindings : has_undeclared same_name (places t) ≡ false → private_bindings same_name (all_under new (places t)) ≡ private_bindings same_name (places t)
    unfolding all_open
    private_names_keep_bindings sound = map-map (private_binding same_name (all_under new (places t))) (under new) (places t)
        ∙ map_same (λ p. private_binding same_name (all_under new (places t)) (under new p)) (private_binding same_name (places t)) (places t) (binding_stays sound)
