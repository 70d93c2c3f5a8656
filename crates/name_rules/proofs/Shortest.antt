-- No choice of names is shorter than the given names.
use Rattle.std.specs.List.{fold}
use Rattle.std.specs.Prelude.{◌≡◌, ◌⊎◌, ◌≤◌, ◌<◌, ℕ, zero, suc, ◌+◌, ◌*◌, Bool, true, false, cond, not, ◌&&◌, nat_eq, nat_le, List, [], ◌∷◌, length, map, filter, get_or, sum, Option, Some, None, is_some}
use Rattle.std.proofs.Common.{refl, sym, ap, ◌∙◌, subst, arith, inl, inr}
use Rattle.std.proofs.lemmas.Bool.{and_parts, both_ways, cases_lt, not-true}
use Rattle.std.proofs.lemmas.Bool.Decides.{leb_tells}
use Rattle.std.proofs.lemmas.List.{length-map}
use Rattle.std.proofs.lemmas.List.Filters.{length-filter_both}
use Rattle.list_laws.proofs.AllOf.{AllOf}
use Rattle.list_laws.proofs.Counting.{no_more}
use Rattle.list_laws.proofs.Members.{In, contains_from_in, from_filter, from_map, in_filter}
use Rattle.list_laws.proofs.PairsOf.{PairsOf_filter, different_map, PairsOf}
use Rattle.tree_nodes.specs.Tree.{Parts, Text}
use Rattle.tree_places.specs.Places.{Place, places}
use Rattle.scope_rules.proofs.SameNames.{same_name_tells}
use Rattle.scope_rules.specs.Bindings.{is_node, same_name}
use Rattle.scope_rules.specs.Homes.{refers}
use Rattle.scope_rules.specs.Renamings.{under}
use Rattle.name_rules.proofs.Bounds.{Numbered_below, found_below}
use Rattle.name_rules.proofs.CountFrom.{count_apart, count_length, count_at, from_count}
use Rattle.name_rules.proofs.FirstUntaken.{candidate_one, free_different, free_names_length}
use Rattle.name_rules.proofs.GivenNamesFit.{given_name_in, given_names_fit, heavier_shorter}
use Rattle.name_rules.proofs.Mangling.{grouped_open, new, new_open, places_new, slot_name_of, used_name}
use Rattle.name_rules.proofs.Ranks.{in_count}
use Rattle.name_rules.proofs.ShortNumbers.{lengths_never_fall}
use Rattle.name_rules.proofs.SlotNamesKeepApart.{Placed, member_at, members_at}
use Rattle.name_rules.proofs.Spelled.{spelled_short}
use Rattle.name_rules.proofs.Totals.{no_dearer, one_more, total, total_same, total_none}
use Rattle.name_rules.specs.FreeNames.{first_untaken, is_free, is_spelled, is_taken}
use Rattle.name_rules.specs.GivenNames.{count_from, free_names, names_of_slots}
use Rattle.name_rules.specs.Groups.{Member, members}
use Rattle.name_rules.specs.Mangled.{changes, cost, names_where}
use Rattle.name_rules.specs.MangledLaws.{HasNewNames}
use Rattle.name_rules.specs.Open.{all_open}
use Rattle.name_rules.specs.Options.{Options}
use Rattle.name_rules.specs.ShortNames.{candidate, short}
use Rattle.name_rules.specs.Shortest.{IsChoice, NoChoiceIsShorter, changed_names}
use Rattle.name_rules.specs.SlotNames.{group_in}
use Rattle.name_rules.specs.Slots.{number_of_slots, slot_of, slots_of, weight}

-- ---- the first candidates that aren't taken: lengths never fall along them, and none that is as good is passed over

module _ (name : ℕ → Text) (one : (m n : ℕ) → name m ≡ name n → m ≡ n) (grows : (m n : ℕ) → m ≤ n → length (name m) ≤ length (name n)) (taken : Text → Bool) where
  no_shorter_than : (j fuel n k : ℕ) → j ≤ k → AllOf (λ y. length (name j) ≤ length y) (first_untaken name taken fuel n k)
  unfolding all_open
  no_shorter_than j zero n k h = tt
  no_shorter_than j (suc fuel) zero k h = tt
  no_shorter_than j (suc fuel) (suc n) k h = go (taken (name k)) (no_shorter_than j fuel (suc n) (suc k) (omega (arith, h))) (no_shorter_than j fuel n (suc k) (omega (arith, h)))
    where
      go : (b : Bool) → AllOf (λ y. length (name j) ≤ length y) (first_untaken name taken fuel (suc n) (suc k)) → AllOf (λ y. length (name j) ≤ length y) (first_untaken name taken fuel n (suc k))
          → AllOf (λ y. length (name j) ≤ length y) (elim b as (λ c. List Text) [ true ↦ first_untaken name taken fuel (suc n) (suc k) | false ↦ name k ∷ first_untaken name taken fuel n (suc k) ])
      go true ih jh = ih
      go false ih jh = (grows j k h, jh)

  lengths_rise : (fuel n k : ℕ) → PairsOf (λ x y. length x ≤ length y) (first_untaken name taken fuel n k)
  unfolding all_open
  lengths_rise zero n k = tt
  lengths_rise (suc fuel) zero k = tt
  lengths_rise (suc fuel) (suc n) k = go (taken (name k)) (lengths_rise fuel (suc n) (suc k)) (lengths_rise fuel n (suc k))
    where
      go : (b : Bool) → PairsOf (λ x y. length x ≤ length y) (first_untaken name taken fuel (suc n) (suc k)) → PairsOf (λ x y. length x ≤ length y) (first_untaken name taken fuel n (suc k))
          → PairsOf (λ x y. length x ≤ length y) (elim b as (λ c. List Text) [ true ↦ first_untaken name taken fuel (suc n) (suc k) | false ↦ name k ∷ first_untaken name taken fuel n (suc k) ])
      go true ih jh = ih
      go false ih jh = (no_shorter_than k fuel n (suc k) (omega arith), jh)

  -- an untaken candidate before one that is found is found
  none_passed_over : (i j fuel n k : ℕ) → k ≤ i → i < j → taken (name i) ≡ false → In (name j) (first_untaken name taken fuel n k) → In (name i) (first_untaken name taken fuel n k)
  unfolding all_open
  none_passed_over i j zero n k h l f e = absurd e
  none_passed_over i j (suc fuel) zero k h l f e = absurd e
  none_passed_over i j (suc fuel) (suc n) k h l f e = go (taken (name k)) refl (cases_lt k i) e (λ m. none_passed_over i j fuel (suc n) (suc k) m l f) (λ m. none_passed_over i j fuel n (suc k) m l f)
    where
      at_k : i ≤ k → k ≡ i
      at_k m = omega (arith, m, h)

      go : (b : Bool) → taken (name k) ≡ b → (k < i) ⊎ (i ≤ k) → In (name j) (elim b as (λ c. List Text) [ true ↦ first_untaken name taken fuel (suc n) (suc k) | false ↦ name k ∷ first_untaken name taken fuel n (suc k) ])
          → (suc k ≤ i → In (name j) (first_untaken name taken fuel (suc n) (suc k)) → In (name i) (first_untaken name taken fuel (suc n) (suc k)))
          → (suc k ≤ i → In (name j) (first_untaken name taken fuel n (suc k)) → In (name i) (first_untaken name taken fuel n (suc k)))
          → In (name i) (elim b as (λ c. List Text) [ true ↦ first_untaken name taken fuel (suc n) (suc k) | false ↦ name k ∷ first_untaken name taken fuel n (suc k) ])
      go true q (inl m) d ih jh = ih m d
      go true q (inr m) d ih jh = absurd (both_ways _ f (subst (λ (x : ℕ). taken (name x) ≡ true) (at_k m) q))
      go false q (inr m) d ih jh = inl (ap name (at_k m))
      go false q (inl m) (inl d) ih jh = let e : k ≡ j = one k j d in absurd (omega (arith, e, m, l))
      go false q (inl m) (inr d) ih jh = inr (jh m d)

-- ---- lists

not_from : (b : Bool) → b ≡ false → not b ≡ true
not_from true h = absurd (both_ways true h refl)
not_from false h = refl

-- what is chosen at some places is chosen at fewer
none_there : (p q : Member → Bool) → ((m : Member) → q m ≡ true → p m ≡ true) → (ms : List Member) (ws : List Place) → names_where p ms ws ≡ [] → names_where q ms ws ≡ []
unfolding all_open
none_there p q f [] ws e = refl
none_there p q f (m ∷ ms) [] e = refl
none_there p q f (m ∷ ms) (w ∷ ws) e = go (p m) (q m) refl refl e (none_there p q f ms ws)
  where
    go : (a b : Bool) → p m ≡ a → q m ≡ b → cond a (w.name ∷ names_where p ms ws) (names_where p ms ws) ≡ [] → (names_where p ms ws ≡ [] → names_where q ms ws ≡ []) → cond b (w.name ∷ names_where q ms ws) (names_where q ms ws) ≡ []
    go true b h k d ih = absurd (both_ways false refl (sym (ap (λ (xs : List Text). elim xs [ [] ↦ false | x ∷ y ↦ true ]) d)))
    go false true h k d ih = absurd (both_ways _ h (f m k))
    go false false h k d ih = ih d

head_of : Text → List Text → Text
head_of d [] = d
head_of d (x ∷ xs) = x

tail_of : List Text → List Text
tail_of [] = []
tail_of (x ∷ xs) = xs

chosen_there : (p q : Member → Bool) (g : Text → Text) → ((m : Member) → q m ≡ true → p m ≡ true) → (ms : List Member) (us ws : List Place)
    → names_where p ms ws ≡ map g (names_where p ms us) → names_where q ms ws ≡ map g (names_where q ms us)
unfolding all_open head_of tail_of
chosen_there p q g f [] us ws e = refl
chosen_there p q g f (m ∷ ms) [] ws e = none_there p q f (m ∷ ms) ws e
chosen_there p q g f (m ∷ ms) (u ∷ us) [] e = sym (ap (map g) (none_there p q f (m ∷ ms) (u ∷ us) (no_image (names_where p (m ∷ ms) (u ∷ us)) (sym e))))
  where
    no_image : (xs : List Text) → map g xs ≡ [] → xs ≡ []
    no_image [] d = refl
    no_image (x ∷ xs) d = absurd (both_ways false refl (sym (ap (λ (ys : List Text). elim ys [ [] ↦ false | y ∷ z ↦ true ]) d)))
chosen_there p q g f (m ∷ ms) (u ∷ us) (w ∷ ws) e = go (p m) (q m) refl refl e (chosen_there p q g f ms us ws)
  where
    go : (a b : Bool) → p m ≡ a → q m ≡ b → cond a (w.name ∷ names_where p ms ws) (names_where p ms ws) ≡ map g (cond a (u.name ∷ names_where p ms us) (names_where p ms us))
        → (names_where p ms ws ≡ map g (names_where p ms us) → names_where q ms ws ≡ map g (names_where q ms us))
        → cond b (w.name ∷ names_where q ms ws) (names_where q ms ws) ≡ map g (cond b (u.name ∷ names_where q ms us) (names_where q ms us))
    go true true h k d ih = ap (λ x. x ∷ names_where q ms ws) (ap (head_of []) d) ∙ ap (λ xs. g u.name ∷ xs) (ih (ap tail_of d))
    go true false h k d ih = ih (ap tail_of d)
    go false true h k d ih = absurd (both_ways _ h (f m k))
    go false false h k d ih = ih d

map_map_length : (g : Text → Text) (xs : List Text) → map length (map g xs) ≡ map (λ x. length (g x)) xs
map_map_length g [] = refl
map_map_length g (x ∷ xs) = ap (λ ys. length (g x) ∷ ys) (map_map_length g xs)

fold_add : (a : ℕ) (xs : List ℕ) → fold ◌+◌ a xs ≡ a + fold ◌+◌ 0 xs
fold_add a [] = omega arith
fold_add a (x ∷ xs) =
    let h : fold ◌+◌ (a + x) xs ≡ (a + x) + fold ◌+◌ 0 xs = fold_add (a + x) xs in
    let k : fold ◌+◌ (0 + x) xs ≡ (0 + x) + fold ◌+◌ 0 xs = fold_add (0 + x) xs in
    omega (arith, h, k)

sum_cons : (x : ℕ) (xs : List ℕ) → sum (x ∷ xs) ≡ x + sum xs
sum_cons x xs = let h : fold ◌+◌ (0 + x) xs ≡ (0 + x) + fold ◌+◌ 0 xs = fold_add (0 + x) xs in omega (arith, h)

-- ---- a tree under its new names

module _ (o : Options) (t u : Parts) (has : HasNewNames o t u) where
  abbrev name : ℕ → Text
  name k = get_or (names_of_slots o t) k []

  abbrev slotted : ℕ
  slotted = number_of_slots (slots_of o t)

  abbrev ks : List ℕ
  ks = count_from (number_of_slots (slots_of o t)) 0

  abbrev heavy : ℕ → ℕ
  heavy k = weight (members o t) (slots_of o t) k

  below : (k : ℕ) → In k ks → k < slotted
  below k i = let h : k < slotted + 0 = from_count slotted 0 k i in omega (arith, h)

  -- references to bindings that aren't kept, and those of slot k
  abbrev refers_changed : Member → Bool
  refers_changed m = refers m.place.site && changes m

  abbrev refers_to : ℕ → Member → Bool
  refers_to k m = refers m.place.site && is_node (slot_of (slots_of o t) m.group) k

  -- a sum over references is the sum over slots of how many there are times what one counts
  module _ (count : Text → ℕ) where
    abbrev left : List Place → ℕ
    left ps = sum (map count (names_where refers_changed (map (member_at o t) ps) (map (under (new o t u has)) ps)))

    abbrev right : List Place → ℕ
    right ps = total (λ k. length (filter (refers_to k) (map (member_at o t) ps)) * count (name k)) ks

    skipped : (p : Place) (ps : List Place) → ((k : ℕ) → refers_to k (member_at o t p) ≡ false) → right (p ∷ ps) ≡ right ps
    unfolding all_open member_at
    skipped p ps h = total_same (λ k. length (filter (refers_to k) (map (member_at o t) (p ∷ ps))) * count (name k)) (λ k. length (filter (refers_to k) (map (member_at o t) ps)) * count (name k)) ks
        (λ k i. ap (λ b. length (cond b (member_at o t p ∷ filter (refers_to k) (map (member_at o t) ps)) (filter (refers_to k) (map (member_at o t) ps))) * count (name k)) (h k))

    taken_in : (p : Place) (ps : List Place) (k₀ : ℕ) → k₀ < slotted → ((k : ℕ) → refers_to k (member_at o t p) ≡ nat_eq k₀ k) → right (p ∷ ps) ≡ count (name k₀) + right ps
    unfolding all_open member_at
    taken_in p ps k₀ l h =
        total_same (λ k. length (filter (refers_to k) (map (member_at o t) (p ∷ ps))) * count (name k))
        (λ k. cond (nat_eq k₀ k) (suc (length (filter (refers_to k) (map (member_at o t) ps)))) (length (filter (refers_to k) (map (member_at o t) ps))) * count (name k)) ks
        (λ k i. ap (λ n. n * count (name k)) (ap (λ b. length (cond b (member_at o t p ∷ filter (refers_to k) (map (member_at o t) ps)) (filter (refers_to k) (map (member_at o t) ps)))) (h k)
        ∙ either (nat_eq k₀ k) (member_at o t p) (filter (refers_to k) (map (member_at o t) ps))))
        ∙ one_more k₀ (λ k. length (filter (refers_to k) (map (member_at o t) ps))) (λ k. count (name k)) ks (count_apart slotted 0)
        (subst (λ (m : ℕ). In m ks) (let e : k₀ + 0 ≡ k₀ = omega arith in e) (in_count slotted 0 k₀ l))
      where
        either : (b : Bool) (m : Member) (ms : List Member) → length (cond b (m ∷ ms) ms) ≡ cond b (suc (length ms)) (length ms)
        either true m ms = refl
        either false m ms = refl

    regrouped : (ps : List Place) → ((p : Place) → In p ps → In p (places t)) → left ps ≡ right ps
    unfolding all_open member_at
    regrouped [] f = sym (total_none (λ k. count (name k)) ks)
    regrouped (p ∷ ps) f = go (refers p.site) refl (regrouped ps (λ q i. f q (inr i)))
      where
        rest : List Text
        rest = names_where refers_changed (map (member_at o t) ps) (map (under (new o t u has)) ps)

        member_group : (k : ℕ) → refers p.site ≡ true → refers_to k (member_at o t p) ≡ is_node (slot_of (slots_of o t) (member_at o t p).group) k
        member_group k r = ap (λ b. b && is_node (slot_of (slots_of o t) (member_at o t p).group) k) r

        grouped : (q : Place) (g : ℕ) → (member_at o t q).group ≡ Some g → group_in o t q ≡ Some g
        grouped q g e = e

        by_group : refers p.site ≡ true → (x : Option ℕ) → (member_at o t p).group ≡ x → left ps ≡ right ps
            → sum (map count (cond (changes (member_at o t p)) (new o t u has p ∷ names_where refers_changed (map (member_at o t) ps) (map (under (new o t u has)) ps)) (names_where refers_changed (map (member_at o t) ps) (map (under (new o t u has)) ps)))) ≡ right (p ∷ ps)
        by_group r None e ih =
            ap (λ b. sum (map count (cond b (new o t u has p ∷ names_where refers_changed (map (member_at o t) ps) (map (under (new o t u has)) ps)) (names_where refers_changed (map (member_at o t) ps) (map (under (new o t u has)) ps))))) (ap is_some e)
            ∙ ih ∙ sym (skipped p ps (λ k. member_group k r ∙ ap (λ y. is_node (slot_of (slots_of o t) y) k) e))
        by_group r (Some g) e ih =
            let d : Placed o t name has.rooted (given_names_fit o t) p g = slot_name_of o t u has p g (f p (inl refl)) (grouped p g e) in
            let called : new o t u has p ≡ name d.slotted.slot = new_open o t u has p (grouped_open o t u has p g (grouped p g e)) ∙ d.called in
            let here : right (p ∷ ps) ≡ count (name d.slotted.slot) + right ps = taken_in p ps d.slotted.slot d.below (λ k. member_group k r ∙ ap (λ y. is_node (slot_of (slots_of o t) y) k) e ∙ ap (λ y. is_node y k) d.found) in
            ap (λ b. sum (map count (cond b (new o t u has p ∷ names_where refers_changed (map (member_at o t) ps) (map (under (new o t u has)) ps)) (names_where refers_changed (map (member_at o t) ps) (map (under (new o t u has)) ps))))) (ap is_some e)
            ∙ sum_cons (count (new o t u has p)) (map count (names_where refers_changed (map (member_at o t) ps) (map (under (new o t u has)) ps)))
            ∙ ap (λ x. count x + left ps) called ∙ ap (λ n. count (name d.slotted.slot) + n) ih ∙ sym here

        go : (r : Bool) → refers p.site ≡ r → left ps ≡ right ps → sum (map count (cond (refers p.site && changes (member_at o t p)) (new o t u has p ∷ names_where refers_changed (map (member_at o t) ps) (map (under (new o t u has)) ps)) (names_where refers_changed (map (member_at o t) ps) (map (under (new o t u has)) ps)))) ≡ right (p ∷ ps)
        go true r ih = ap (λ b. sum (map count (cond (b && changes (member_at o t p)) (new o t u has p ∷ names_where refers_changed (map (member_at o t) ps) (map (under (new o t u has)) ps)) (names_where refers_changed (map (member_at o t) ps) (map (under (new o t u has)) ps))))) r
            ∙ by_group r (member_at o t p).group refl ih
        go false r ih = ap (λ b. sum (map count (cond (b && changes (member_at o t p)) (new o t u has p ∷ names_where refers_changed (map (member_at o t) ps) (map (under (new o t u has)) ps)) (names_where refers_changed (map (member_at o t) ps) (map (under (new o t u has)) ps))))) r
            ∙ ih ∙ sym (skipped p ps (λ k. ap (λ b. b && is_node (slot_of (slots_of o t) (member_at o t p).group) k) r))

    in_sum : sum (map count (names_where refers_changed (members o t) (places u))) ≡ total (λ k. heavy k * count (name k)) ks
    unfolding all_open member_at
    in_sum =
        ap (λ (us : List Place). sum (map count (names_where refers_changed (members o t) us))) (places_new o t u has)
        ∙ ap (λ (ms : List Member). sum (map count (names_where refers_changed ms (map (under (new o t u has)) (places t))))) (members_at o t)
        ∙ regrouped (places t) (λ p i. i)
        ∙ ap (λ (ms : List Member). total (λ k. length (filter (refers_to k) ms) * count (name k)) ks) (sym (members_at o t))

  -- ---- a choice

  module _ (plain : o.readable ≡ false) (g : Text → Text) (choice : IsChoice o t u g) where
    abbrev free : List Text
    free = free_names o (members o t) (number_of_slots (slots_of o t))

    abbrev fuel : ℕ
    fuel = number_of_slots (slots_of o t) + 48 + length o.reserved + length (members o t)

    candidate_short : (n : ℕ) → candidate o.readable n ≡ short n
    unfolding all_open
    candidate_short n = ap (λ b. candidate b n) plain

    grows : (m n : ℕ) → m ≤ n → length (candidate o.readable m) ≤ length (candidate o.readable n)
    grows m n h = subst (λ (x : Text). length x ≤ length (candidate o.readable n)) (sym (candidate_short m)) (subst (λ (x : Text). length (short m) ≤ length x) (sym (candidate_short n)) (lengths_never_fall m n h))

    free_rises : PairsOf (λ x y. length x ≤ length y) free
    unfolding all_open
    free_rises = lengths_rise (candidate o.readable) (candidate_one o.readable) grows (is_taken o (members o t)) fuel (number_of_slots (slots_of o t)) 0

    -- a free name that is shorter than one of these is one of these
    shorter_free : (x y : Text) → is_free o (members o t) x ≡ true → In y free → length x < length y → In x free
    unfolding all_open
    shorter_free x y f i l =
        let two : (is_spelled x ≡ true) × (not (is_taken o (members o t) x) ≡ true) = and_parts _ _ f in
        let n : (n : ℕ) × (x ≡ short n) = spelled_short x two.0 in
        let e : x ≡ candidate o.readable n.0 = n.1 ∙ sym (candidate_short n.0) in
        let b : Numbered_below (candidate o.readable) (candidate_one o.readable) (is_taken o (members o t)) y 0 _ = found_below (candidate o.readable) (candidate_one o.readable) (is_taken o (members o t)) fuel (number_of_slots (slots_of o t)) 0 y i in
        subst (λ (z : Text). In z free) (sym e)
        (none_passed_over (candidate o.readable) (candidate_one o.readable) grows (is_taken o (members o t)) n.0 b.number fuel (number_of_slots (slots_of o t)) 0 (from_zero n.0)
        (before n.0 b.number e b.is (cases_lt n.0 b.number)) (subst (λ (z : Text). is_taken o (members o t) z ≡ false) e (not-true _ two.1)) (subst (λ (z : Text). In z free) b.is i))
      where
        from_zero : (n : ℕ) → 0 ≤ n
        from_zero n = omega arith

        before : (m n : ℕ) → x ≡ candidate o.readable m → y ≡ candidate o.readable n → (m < n) ⊎ (n ≤ m) → m < n
        before m n e d (inl h) = h
        before m n e d (inr h) =
            let a : length (candidate o.readable n) ≤ length (candidate o.readable m) = grows n m h in
            let p : length x ≡ length (candidate o.readable m) = ap length e in
            let q : length y ≡ length (candidate o.readable n) = ap length d in
            absurd (omega (arith, a, p, q, l))

    abbrev given : ℕ → ℕ
    given k = length (name k)

    abbrev chosen : ℕ → ℕ
    chosen k = length (g (name k))

    heavier_first : (k l : ℕ) → In k ks → In l ks → given k < given l → heavy l ≤ heavy k
    unfolding all_open
    heavier_first k l i j h = go (cases_lt (heavy k) (heavy l))
      where
        weights : List ℕ
        weights = map (weight (members o t) (slots_of o t)) (count_from (number_of_slots (slots_of o t)) 0)

        long : length (map (weight (members o t) (slots_of o t)) (count_from (number_of_slots (slots_of o t)) 0)) ≡ slotted
        long = length-map (count_from slotted 0) (weight (members o t) (slots_of o t)) ∙ count_length slotted 0

        weighs : (m : ℕ) → m < slotted → get_or (map (weight (members o t) (slots_of o t)) (count_from (number_of_slots (slots_of o t)) 0)) m 0 ≡ heavy m
        weighs m a = count_at (weight (members o t) (slots_of o t)) slotted 0 m 0 a ∙ ap (weight (members o t) (slots_of o t)) (let e : m + 0 ≡ m = omega arith in e)

        no : heavy k < heavy l → ⊥
        no a =
            let b : given l ≤ given k = heavier_shorter free (map (weight (members o t) (slots_of o t)) (count_from (number_of_slots (slots_of o t)) 0)) (free_different o (members o t) slotted) (free_names_length o (members o t) slotted ∙ sym long) free_rises l k
            (subst (λ (m : ℕ). l < m) (sym long) (below l j)) (subst (λ (m : ℕ). k < m) (sym long) (below k i))
            (subst (λ (m : ℕ). m < get_or (map (weight (members o t) (slots_of o t)) (count_from (number_of_slots (slots_of o t)) 0)) l 0) (sym (weighs k (below k i))) (subst (λ (m : ℕ). heavy k < m) (sym (weighs l (below l j))) a)) in
            over (given k) (given l) h b
          where
            over : (x y : ℕ) → x < y → y ≤ x → ⊥
            over x y p q = omega (arith, p, q)

        go : (heavy k < heavy l) ⊎ (heavy l ≤ heavy k) → heavy l ≤ heavy k
        go (inl a) = absurd (no a)
        go (inr a) = a

    in_use : (k : ℕ) → In k ks → In (name k) (changed_names o t u)
    unfolding all_open
    in_use k i = used_name o t u has k (below k i)

    abbrev is_long : ℕ → ℕ → Bool
    is_long s n = nat_le (suc s) n

    -- as many chosen names are longer than s as given ones, if one of these is
    no_fewer_long : (s l : ℕ) → In l ks → s < given l → length (filter (λ k. is_long s (given k)) ks) ≤ length (filter (λ k. is_long s (chosen k)) ks)
    no_fewer_long s l i h =
        counts (length (filter (λ k. is_long s (given k)) ks)) (length (filter (λ x. is_long s (length x)) free)) (length (filter (λ x. not (is_long s (length x))) free)) (length free)
        (length (filter (λ k. is_long s (chosen k)) ks)) (length (filter (λ k. not (is_long s (chosen k))) ks)) (length ks)
        long_given short_chosen (length-filter_both (λ x. is_long s (length x)) (λ x. not (is_long s (length x))) (λ x. refl) free) (length-filter_both (λ k. is_long s (chosen k)) (λ k. not (is_long s (chosen k))) (λ k. refl) ks)
        (free_names_length o (members o t) slotted ∙ sym (count_length slotted 0))
      where
        counts : (gl fl fs f cl cs k : ℕ) → gl ≤ fl → cs ≤ fs → fl + fs ≡ f → cl + cs ≡ k → f ≡ k → gl ≤ cl
        counts gl fl fs f cl cs k a b c d e = omega (arith, a, b, c, d, e)

        long_given : length (filter (λ k. is_long s (given k)) ks) ≤ length (filter (λ x. is_long s (length x)) free)
        long_given = subst (λ (n : ℕ). n ≤ length (filter (λ x. is_long s (length x)) free)) (length-map (filter (λ k. is_long s (given k)) ks) name)
            (no_more same_name same_name_tells (map name (filter (λ k. is_long s (given k)) ks)) (filter (λ x. is_long s (length x)) free)
            (different_map name (filter (λ k. is_long s (given k)) ks) (PairsOf_filter (λ x y. x ≡ y → ⊥) (λ k. is_long s (given k)) ks (count_apart slotted 0))
            (λ j k a b e. (given_names_fit o t).different j k (below j (from_filter (λ k. is_long s (given k)) ks j a).0) (below k (from_filter (λ k. is_long s (given k)) ks k b).0) e))
            (λ x a.
            let w : (k : ℕ) × In k (filter (λ k. is_long s (given k)) ks) × (name k ≡ x) = from_map name (filter (λ k. is_long s (given k)) ks) x a in
            let f : In w.0 ks × (is_long s (given w.0) ≡ true) = from_filter (λ k. is_long s (given k)) ks w.0 w.1 in
            subst (λ (y : Text). In y (filter (λ x. is_long s (length x)) free)) w.2 (in_filter (λ x. is_long s (length x)) free (name w.0) (given_name_in o t w.0 (below w.0 f.0)) f.1)))

        one_choice : (j k : ℕ) → In j ks → In k ks → g (name j) ≡ g (name k) → j ≡ k
        one_choice j k a b e = (given_names_fit o t).different j k (below j a) (below k b)
            (choice.one_to_one (name j) (name k) (contains_from_in (changed_names o t u) (name j) (in_use j a)) (contains_from_in (changed_names o t u) (name k) (in_use k b)) e)

        no_longer : (k : ℕ) → is_long s (chosen k) ≡ false → chosen k < given l
        no_longer k e = at (leb_tells (suc s) (chosen k))
          where
            at : ((nat_le (suc s) (chosen k) ≡ true) × (suc s ≤ chosen k)) ⊎ ((nat_le (suc s) (chosen k) ≡ false) × (chosen k < suc s)) → chosen k < given l
            at (inl f) = absurd (both_ways _ e f.0)
            at (inr f) = over s (chosen k) (given l) f.1 h
              where
                over : (s c m : ℕ) → c < suc s → s < m → c < m
                over s c m p q = omega (arith, p, q)

        short_chosen : length (filter (λ k. not (is_long s (chosen k))) ks) ≤ length (filter (λ x. not (is_long s (length x))) free)
        short_chosen = subst (λ (n : ℕ). n ≤ length (filter (λ x. not (is_long s (length x))) free)) (length-map (filter (λ k. not (is_long s (chosen k))) ks) (λ k. g (name k)))
            (no_more same_name same_name_tells (map (λ k. g (name k)) (filter (λ k. not (is_long s (chosen k))) ks)) (filter (λ x. not (is_long s (length x))) free)
            (different_map (λ k. g (name k)) (filter (λ k. not (is_long s (chosen k))) ks) (PairsOf_filter (λ x y. x ≡ y → ⊥) (λ k. not (is_long s (chosen k))) ks (count_apart slotted 0))
            (λ j k a b e. one_choice j k (from_filter (λ k. not (is_long s (chosen k))) ks j a).0 (from_filter (λ k. not (is_long s (chosen k))) ks k b).0 e))
            (λ x a.
            let w : (k : ℕ) × In k (filter (λ k. not (is_long s (chosen k))) ks) × (g (name k) ≡ x) = from_map (λ k. g (name k)) (filter (λ k. not (is_long s (chosen k))) ks) x a in
            let f : In w.0 ks × (not (is_long s (chosen w.0)) ≡ true) = from_filter (λ k. not (is_long s (chosen k))) ks w.0 w.1 in
            subst (λ (y : Text). In y (filter (λ x. not (is_long s (length x))) free)) w.2
            (in_filter (λ x. not (is_long s (length x))) free (g (name w.0))
            (shorter_free (g (name w.0)) (name l) (choice.free (name w.0) (contains_from_in (changed_names o t u) (name w.0) (in_use w.0 f.0))) (given_name_in o t l (below l i)) (no_longer w.0 (not-true _ f.1)))
            f.1)))

    shortest : (w : Parts) → changed_names o t w ≡ map g (changed_names o t u) → cost o t u ≤ cost o t w
    unfolding all_open
    shortest w e =
        let a : cost o t u ≡ total (λ k. heavy k * length (name k)) ks = in_sum length in
        let c : names_where refers_changed (members o t) (places w) ≡ map g (names_where refers_changed (members o t) (places u)) = chosen_there changes refers_changed g (λ m h. (and_parts _ _ h).1) (members o t) (places u) (places w) e in
        let b : cost o t w ≡ total (λ k. heavy k * length (g (name k))) ks = ap (λ xs. sum (map length xs)) c ∙ ap sum (map_map_length g (names_where refers_changed (members o t) (places u))) ∙ in_sum (λ x. length (g x)) in
        subst (λ (n : ℕ). n ≤ cost o t w) (sym a) (subst (λ (n : ℕ). total (λ k. heavy k * length (name k)) ks ≤ n) (sym b)
        (no_dearer heavy given chosen ks heavier_first no_fewer_long))

pub no_choice_is_shorter : NoChoiceIsShorter
no_choice_is_shorter o t u w g plain has choice e = shortest o t u has plain g choice w e
