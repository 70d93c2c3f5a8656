-- References are counted for the slots of their places, one after the other.
use Rattle.std.specs.Prelude.{◌≡◌, ◌⊎◌, ◌<◌, ◌≤◌, ℕ, suc, ◌+◌, Bool, true, false, cond, ◌&&◌, List, [], ◌∷◌, ◌++◌, length, get_or, map, filter, take, replicate, slice_set, Option, Some, None, IfSome}
use Rattle.std.proofs.Common.{refl, sym, ap, ap₂, ◌∙◌, arith, inl, inr}
use Rattle.std.proofs.lemmas.Bool.{cases_eq, eq-eqb, ne_eqb}
use Rattle.std.proofs.lemmas.List.{ext_get_or, get_or-replicate, get_or-set_other, get_or-set_same, length-map, length-replicate, length-set, length-take-le, take_all, take_more}
use Rattle.live_slots.proofs.GroupsOfPlaces.{IsOf}
use Rattle.live_slots.specs.Slots.{counted, refers_at, weight_by}
use Rattle.name_rules.proofs.CountFrom.{count_at, count_length}
use Rattle.name_rules.specs.GivenNames.{count_from}
use Rattle.name_rules.specs.Groups.{Member}
use Rattle.name_rules.specs.Slots.{Slotted, slot_of, weight}
use Rattle.place_list.proofs.NumbersStand.{Beside}
use Rattle.place_list.specs.Bounds.{IsBelow}
use Rattle.place_list.specs.TableViews.{place_in}
use Rattle.place_list.specs.Tables.{place_of, setting_of, site_of}
use Rattle.place_list.specs.declared.tables.PlaceEntry.{PlaceEntry}
use Rattle.place_list.specs.declared.tables.PlaceList.{PlaceList}
use Rattle.scope_rules.specs.Bindings.{is_node}
use Rattle.scope_rules.specs.Homes.{refers}
use Rattle.tree_places.specs.Places.{Place}

weight_push : (es : List PlaceEntry) (os : List (Option ℕ)) (e : PlaceEntry) (o : Option ℕ) (k : ℕ) → length es ≡ length os → weight_by (es ++ e ∷ []) (os ++ o ∷ []) k ≡ weight_by es os k + cond (refers_at e && is_node o k) 1 0
unfolding weight_by
weight_push [] [] e o k h = omega arith
weight_push [] (p ∷ os) e o k h = absurd (omega (arith, h))
weight_push (d ∷ es) [] e o k h = absurd (omega (arith, h))
weight_push (d ∷ es) (p ∷ os) e o k h = omega (arith, weight_push es os e o k (omega (arith, h)))

weight_most : (es : List PlaceEntry) (os : List (Option ℕ)) (k : ℕ) → weight_by es os k ≤ length os
unfolding weight_by
weight_most [] os k = omega arith
weight_most (e ∷ es) [] k = omega arith
weight_most (e ∷ es) (o ∷ os) k = go (refers_at e && is_node o k) (weight_most es os k)
  where
    go : (b : Bool) → weight_by es os k ≤ length os → cond b 1 0 + weight_by es os k ≤ suc (length os)
    go true h = omega (arith, h)
    go false h = omega (arith, h)

pub not_counted : (ws : List ℕ) (o : Option ℕ) → ws ≡ counted ws false o
unfolding counted
not_counted ws None = refl
not_counted ws (Some k) = refl

-- what stands when the first i places are counted
pub record Counted (es : List PlaceEntry) (os : List (Option ℕ)) (ws : List ℕ) (n i : ℕ) : Type 0 where
  pub many : length ws ≡ n
  pub told : (k : ℕ) → k < n → get_or ws k 0 ≡ weight_by (take i es) (take i os) k

pub none_counted : (es : List PlaceEntry) (os : List (Option ℕ)) (ws : List ℕ) (n : ℕ) → ws ≡ replicate n 0 → Counted es os ws n 0
unfolding weight_by
none_counted es os ws n e = record {
  many = ap (length {A = ℕ}) e ∙ length-replicate n 0;
  told = λ k l. ap (λ (xs : List ℕ). get_or xs k 0) e ∙ get_or-replicate n k 0 0 l;
}

module _ (es : List PlaceEntry) (os : List (Option ℕ)) (ws : List ℕ) (n i : ℕ) (c : Counted es os ws n i) (long : length os ≡ length es) where
  pub few : (o : Option ℕ) (m : ℕ) → i < length os → length os < m → IsBelow n o → IfSome o (λ k. get_or ws k 0 + 1 < m)
  few None m l h b = tt
  few (Some k) m l h b =
      let w : weight_by (take i es) (take i os) k ≤ length (take i os) = weight_most (take i es) (take i os) k in
      omega (arith, w, c.told k b, length-take-le i os (omega (arith, l)), l, h)

  pub one_counted : (e : PlaceEntry) (o : Option ℕ) (ws' : List ℕ) → i < length os → IsBelow n (get_or os i o) → ws' ≡ counted ws (refers_at (get_or es i e)) (get_or os i o) → Counted es os ws' n (i + 1)
  unfolding counted is_node
  one_counted e o ws' l b q = go (get_or os i o) b q more
    where
      r : Bool
      r = refers_at (get_or es i e)

      more : (k : ℕ) → weight_by (take (i + 1) es) (take (i + 1) os) k ≡ weight_by (take i es) (take i os) k + cond (r && is_node (get_or os i o) k) 1 0
      more k =
          ap (λ (xs : List PlaceEntry). weight_by xs (take (i + 1) os) k) (take_more es i e (omega (arith, l, long)))
          ∙ ap (λ (xs : List (Option ℕ)). weight_by (take i es ++ get_or es i e ∷ []) xs k) (take_more os i o l)
          ∙ weight_push (take i es) (take i os) (get_or es i e) (get_or os i o) k (omega (arith, length-take-le i es (omega (arith, l, long)), length-take-le i os (omega (arith, l))))

      none : (b : Bool) (w : ℕ) → w ≡ w + cond (b && false) 1 0
      none true w = omega arith
      none false w = omega arith

      go : (p : Option ℕ) → IsBelow n p → ws' ≡ counted ws r p → ((k : ℕ) → weight_by (take (i + 1) es) (take (i + 1) os) k ≡ weight_by (take i es) (take i os) k + cond (r && is_node p k) 1 0) → Counted es os ws' n (i + 1)
      go None b q m = record {
        many = ap (length {A = ℕ}) q ∙ c.many;
        told = λ k h. ap (λ (xs : List ℕ). get_or xs k 0) q ∙ c.told k h ∙ none r (weight_by (take i es) (take i os) k) ∙ sym (m k);
      }
      go (Some j) b q m = by_test r q m
        where
          by_test : (t : Bool) → ws' ≡ cond t (slice_set ws j (get_or ws j 0 + 1)) ws → ((k : ℕ) → weight_by (take (i + 1) es) (take (i + 1) os) k ≡ weight_by (take i es) (take i os) k + cond (t && is_node (Some j) k) 1 0) → Counted es os ws' n (i + 1)
          by_test false q m = record {
            many = ap (length {A = ℕ}) q ∙ c.many;
            told = λ k h. ap (λ (xs : List ℕ). get_or xs k 0) q ∙ c.told k h ∙ none false (weight_by (take i es) (take i os) k) ∙ sym (m k);
          }
          by_test true q m = record {
            many = ap (length {A = ℕ}) q ∙ length-set ws j (get_or ws j 0 + 1) ∙ c.many;
            told = λ k h. ap (λ (xs : List ℕ). get_or xs k 0) q ∙ at k h (cases_eq k j) ∙ sym (m k);
          }
            where
              at : (k : ℕ) → k < n → (k ≡ j) ⊎ (k ≡ j → ⊥) → get_or (slice_set ws j (get_or ws j 0 + 1)) k 0 ≡ weight_by (take i es) (take i os) k + cond (is_node (Some j) k) 1 0
              at k h (inl s) =
                  ap (λ (x : ℕ). get_or (slice_set ws j (get_or ws j 0 + 1)) x 0) s
                  ∙ get_or-set_same ws j (get_or ws j 0 + 1) 0 (omega (arith, b, c.many))
                  ∙ ap (λ (x : ℕ). get_or ws x 0 + 1) (sym s) ∙ ap (λ (x : ℕ). x + 1) (c.told k h)
                  ∙ ap (λ (t : Bool). weight_by (take i es) (take i os) k + cond t 1 0) (sym (eq-eqb j k (sym s)))
              at k h (inr apart) =
                  get_or-set_other ws j k (get_or ws j 0 + 1) 0 apart ∙ c.told k h
                  ∙ none true (weight_by (take i es) (take i os) k)
                  ∙ ap (λ (t : Bool). weight_by (take i es) (take i os) k + cond t 1 0) (sym (ne_eqb j k (λ x. apart (sym x))))

  pub all_counted : length os ≤ i → (k : ℕ) → k < n → get_or ws k 0 ≡ weight_by es os k
  all_counted done k l =
      c.told k l
      ∙ ap (λ (xs : List PlaceEntry). weight_by xs (take i os) k) (take_all i es (omega (arith, done, long)))
      ∙ ap (λ (xs : List (Option ℕ)). weight_by es xs k) (take_all i os done)

-- ---- of a tree's members

module _ (l : PlaceList) (bs : List Slotted) where
  count_cons : (p : Member → Bool) (m : Member) (ms : List Member) → length (filter p (m ∷ ms)) ≡ cond (p m) 1 0 + length (filter p ms)
  count_cons p m ms = go (p m)
    where
      go : (b : Bool) → length (cond b (m ∷ filter p ms) (filter p ms)) ≡ cond b 1 0 + length (filter p ms)
      go true = omega arith
      go false = omega arith

  refers_same : (e : PlaceEntry) → refers (place_in l e).site ≡ refers_at e
  unfolding refers refers_at place_of site_of setting_of
  refers_same e = refl

  pub weight_is : (es : List PlaceEntry) (ms : List Member) (k : ℕ) → Beside (IsOf l) es ms → weight_by es (map (λ m. slot_of bs m.group) ms) k ≡ weight ms bs k
  unfolding weight_by weight
  weight_is [] [] k b = refl
  weight_is [] (m ∷ ms) k b = absurd b
  weight_is (e ∷ es) [] k b = absurd b
  weight_is (e ∷ es) (m ∷ ms) k b =
      ap₂ (λ (t : Bool) (w : ℕ). cond (t && is_node (slot_of bs m.group) k) 1 0 + w) (sym (refers_same e) ∙ ap (λ (p : Place). refers p.site) b.0) (weight_is es ms k b.1)
      ∙ sym (count_cons (λ n. refers n.place.site && is_node (slot_of bs n.group) k) m ms)

  pub weights_are : (es : List PlaceEntry) (ms : List Member) (ws : List ℕ) (os : List (Option ℕ)) (n : ℕ) → Beside (IsOf l) es ms → length ws ≡ n → os ≡ map (λ m. slot_of bs m.group) ms
      → ((k : ℕ) → k < n → get_or ws k 0 ≡ weight_by es os k) → ws ≡ map (weight ms bs) (count_from n 0)
  weights_are es ms ws os n b many e told =
      ext_get_or 0 ws (map (weight ms bs) (count_from n 0)) (many ∙ sym (length-map (count_from n 0) (weight ms bs) ∙ count_length n 0))
      (λ k h. told k (omega (arith, h, many)) ∙ ap (λ (xs : List (Option ℕ)). weight_by es xs k) e ∙ weight_is es ms k b
      ∙ ap (weight ms bs) {x = k} {y = k + 0} (omega arith) ∙ sym (count_at (weight ms bs) n 0 k 0 (omega (arith, h, many))))
