-- Slots by the nodes of leaders are those of their groups.
use Rattle.std.specs.Prelude.{◌≡◌, ◌⊎◌, ◌<◌, ◌≤◌, ℕ, suc, ◌+◌, Bool, true, false, cond, nat_eq, List, [], ◌∷◌, ◌++◌, length, get_or, map, find, take, drop, replicate, slice_set, is_none, Option, Some, None}
use Rattle.std.proofs.Common.{refl, sym, ap, ap₂, ◌∙◌, drop-cons, arith, inl, inr}
use Rattle.std.proofs.Math.Dec.{eqb-suc-zero}
use Rattle.std.proofs.lemmas.Bool.{both_ways, cases_eq, eq-eqb, ne_eqb}
use Rattle.std.proofs.lemmas.List.{drop_all, get_or-replicate, get_or-set_other, get_or-set_same, length-replicate, length-set, length-take-le, take_all, take_more}
use Rattle.list_laws.proofs.AllOf.{AllOf}
use Rattle.live_slots.specs.Slots.{busiest_home, first_slot, put_first, slot_in}
use Rattle.live_slots.specs.declared.leaders.Leader.{Leader}
use Rattle.name_rules.specs.Slots.{Slotted, slot_of}
use Rattle.place_list.specs.Bounds.{IsBelow}

first_push : (rs : List Leader) (ks : List ℕ) (r : Leader) (k n : ℕ) → length rs ≡ length ks → first_slot (rs ++ r ∷ []) (ks ++ k ∷ []) n ≡ cond (is_none (first_slot rs ks n)) (cond (nat_eq r.node n) (Some k) None) (first_slot rs ks n)
unfolding first_slot
first_push [] [] r k n e = refl
first_push [] (j ∷ ks) r k n e = absurd (omega (arith, e))
first_push (q ∷ rs) [] r k n e = absurd (omega (arith, e))
first_push (q ∷ rs) (j ∷ ks) r k n e = go (nat_eq q.node n) (first_push rs ks r k n (omega (arith, e)))
  where
    go : (b : Bool) → first_slot (rs ++ r ∷ []) (ks ++ k ∷ []) n ≡ cond (is_none (first_slot rs ks n)) (cond (nat_eq r.node n) (Some k) None) (first_slot rs ks n)
        → cond b (Some j) (first_slot (rs ++ r ∷ []) (ks ++ k ∷ []) n) ≡ cond (is_none (cond b (Some j) (first_slot rs ks n))) (cond (nat_eq r.node n) (Some k) None) (cond b (Some j) (first_slot rs ks n))
    go true ih = refl
    go false ih = ih

pub put_new : (os : List (Option ℕ)) (n k : ℕ) → get_or os n None ≡ None → slice_set os n (Some k) ≡ put_first os n k
unfolding put_first
put_new os n k e = sym (ap (λ (o : Option ℕ). cond (is_none o) (slice_set os n (Some k)) os) e)

pub put_old : (os : List (Option ℕ)) (n k j : ℕ) → get_or os n None ≡ Some j → os ≡ put_first os n k
unfolding put_first
put_old os n k j e = sym (ap (λ (o : Option ℕ). cond (is_none o) (slice_set os n (Some k)) os) e)

-- what stands when the first i slots are put
pub record Put (rs : List Leader) (ks : List ℕ) (os : List (Option ℕ)) (n i : ℕ) : Type 0 where
  pub many : length os ≡ n
  pub told : (k : ℕ) → k < n → get_or os k None ≡ first_slot (take i rs) (take i ks) k

pub none_put : (rs : List Leader) (ks : List ℕ) (os : List (Option ℕ)) (n : ℕ) → os ≡ replicate n None → Put rs ks os n 0
unfolding first_slot
none_put rs ks os n e = record {
  many = ap (length {A = Option ℕ}) e ∙ length-replicate n None;
  told = λ k l. ap (λ (xs : List (Option ℕ)). get_or xs k None) e ∙ get_or-replicate n k None None l;
}

module _ (rs : List Leader) (ks : List ℕ) (os : List (Option ℕ)) (n i : ℕ) (p : Put rs ks os n i) (long : length ks ≡ length rs) where
  pub one_put : (d : Leader) (e : ℕ) (os' : List (Option ℕ)) (k : ℕ) → i < length rs → (get_or rs i d).node < n → k ≡ get_or ks i e → os' ≡ put_first os (get_or rs i d).node k → Put rs ks os' n (i + 1)
  unfolding put_first
  one_put d e os' k l b s q = go (is_none (get_or os (get_or rs i d).node None)) refl q
    where
      r : Leader
      r = get_or rs i d

      more : (j : ℕ) → first_slot (take (i + 1) rs) (take (i + 1) ks) j ≡ cond (is_none (first_slot (take i rs) (take i ks) j)) (cond (nat_eq (get_or rs i d).node j) (Some k) None) (first_slot (take i rs) (take i ks) j)
      more j =
          ap (λ (xs : List Leader). first_slot xs (take (i + 1) ks) j) (take_more rs i d l)
          ∙ ap (λ (xs : List ℕ). first_slot (take i rs ++ get_or rs i d ∷ []) xs j) (take_more ks i e (omega (arith, l, long)) ∙ ap (λ (x : ℕ). take i ks ++ x ∷ []) (sym s))
          ∙ first_push (take i rs) (take i ks) (get_or rs i d) k j (omega (arith, length-take-le i rs (omega (arith, l)), length-take-le i ks (omega (arith, l, long))))

      pick : (x : Option ℕ) (t : Bool) → (is_none x ≡ true → t ≡ false) → x ≡ cond (is_none x) (cond t (Some k) None) x
      pick None t f = ap (λ (b : Bool). cond b (Some k) None) (sym (f refl))
      pick (Some y) t f = refl

      empty : (x : Option ℕ) → is_none x ≡ true → Some k ≡ cond (is_none x) (Some k) x
      empty x f = ap (λ (b : Bool). cond b (Some k) x) (sym f)

      go : (v : Bool) → is_none (get_or os (get_or rs i d).node None) ≡ v → os' ≡ cond v (slice_set os (get_or rs i d).node (Some k)) os → Put rs ks os' n (i + 1)
      go true f q = record {
        many = ap (length {A = Option ℕ}) q ∙ length-set os (get_or rs i d).node (Some k) ∙ p.many;
        told = λ j h. ap (λ (xs : List (Option ℕ)). get_or xs j None) q ∙ at j h (cases_eq j (get_or rs i d).node) ∙ sym (more j);
      }
        where
          at : (j : ℕ) → j < n → (j ≡ (get_or rs i d).node) ⊎ (j ≡ (get_or rs i d).node → ⊥)
              → get_or (slice_set os (get_or rs i d).node (Some k)) j None ≡ cond (is_none (first_slot (take i rs) (take i ks) j)) (cond (nat_eq (get_or rs i d).node j) (Some k) None) (first_slot (take i rs) (take i ks) j)
          at j h (inl e) =
              ap (λ (x : ℕ). get_or (slice_set os (get_or rs i d).node (Some k)) x None) e
              ∙ get_or-set_same os (get_or rs i d).node (Some k) None (omega (arith, b, p.many))
              ∙ empty (first_slot (take i rs) (take i ks) j) (ap is_none (sym (p.told j h)) ∙ ap (λ (x : ℕ). is_none (get_or os x None)) e ∙ f)
              ∙ ap (λ (t : Bool). cond (is_none (first_slot (take i rs) (take i ks) j)) (cond t (Some k) None) (first_slot (take i rs) (take i ks) j)) (sym (eq-eqb (get_or rs i d).node j (sym e)))
          at j h (inr apart) =
              get_or-set_other os (get_or rs i d).node j (Some k) None apart ∙ p.told j h
              ∙ pick (first_slot (take i rs) (take i ks) j) (nat_eq (get_or rs i d).node j) (λ _. ne_eqb (get_or rs i d).node j (λ x. apart (sym x)))
      go false f q = record {
        many = ap (length {A = Option ℕ}) q ∙ p.many;
        told = λ j h. ap (λ (xs : List (Option ℕ)). get_or xs j None) q ∙ p.told j h ∙ pick (first_slot (take i rs) (take i ks) j) (nat_eq (get_or rs i d).node j) (λ z. not_here j h z) ∙ sym (more j);
      }
        where
          not_here : (j : ℕ) → j < n → is_none (first_slot (take i rs) (take i ks) j) ≡ true → nat_eq (get_or rs i d).node j ≡ false
          not_here j h z = ne_eqb (get_or rs i d).node j (λ x. both_ways _ f (ap (λ (y : ℕ). is_none (get_or os y None)) x ∙ ap is_none (p.told j h) ∙ z))

  pub all_put : length rs ≤ i → (k : ℕ) → k < n → get_or os k None ≡ first_slot rs ks k
  all_put done k l =
      p.told k l
      ∙ ap (λ (xs : List Leader). first_slot xs (take i ks) k) (take_all i rs done)
      ∙ ap (λ (xs : List ℕ). first_slot rs xs k) (take_all i ks (omega (arith, done, long)))

-- the first leader with a node is that of the first group
pub first_is_slot : (rs : List Leader) (bs : List Slotted) (n : ℕ) → map (λ r. r.node) rs ≡ map (λ b. b.group.leader) bs → first_slot rs (map (λ b. b.slot) bs) n ≡ slot_of bs (Some n)
unfolding first_slot slot_of
first_is_slot [] [] n e = refl
first_is_slot [] (b ∷ bs) n e = absurd (cc)
first_is_slot (r ∷ rs) [] n e = absurd (cc)
first_is_slot (r ∷ rs) (b ∷ bs) n e =
    let head : r.node ≡ b.group.leader = cc in
    let tail : map (λ (q : Leader). q.node) rs ≡ map (λ (c : Slotted). c.group.leader) bs = cc in
    ap (λ (k : ℕ). cond (nat_eq k n) (Some b.slot) (first_slot rs (map (λ (c : Slotted). c.slot) bs) n)) head ∙ go (nat_eq b.group.leader n) (first_is_slot rs bs n tail)
  where
    go : (v : Bool) → first_slot rs (map (λ (c : Slotted). c.slot) bs) n ≡ slot_of bs (Some n)
        → cond v (Some b.slot) (first_slot rs (map (λ (c : Slotted). c.slot) bs) n) ≡ elim (cond v (Some b) (find (λ (c : Slotted). nat_eq c.group.leader n) bs)) as (λ o. Option ℕ) [ None ↦ None | Some c ↦ Some c.slot ]
    go true ih = refl
    go false ih = ih

-- of all places
pub slots_are : (rs : List Leader) (bs : List Slotted) (os groups : List (Option ℕ)) (n : ℕ) → map (λ r. r.node) rs ≡ map (λ b. b.group.leader) bs
    → ((k : ℕ) → k < n → get_or os k None ≡ first_slot rs (map (λ b. b.slot) bs) k) → AllOf (IsBelow n) groups → map (slot_in os) groups ≡ map (slot_of bs) groups
unfolding slot_in slot_of
slots_are rs bs os [] n e told a = refl
slots_are rs bs os (None ∷ groups) n e told a = ap (λ (xs : List (Option ℕ)). None ∷ xs) (slots_are rs bs os groups n e told a.1)
slots_are rs bs os (Some k ∷ groups) n e told a =
    ap (λ (x : Option ℕ). x ∷ map (slot_in os) groups) (told k a.0 ∙ first_is_slot rs bs k e)
    ∙ ap (λ (xs : List (Option ℕ)). slot_of bs (Some k) ∷ xs) (slots_are rs bs os groups n e told a.1)

-- ---- the home of the first group with the last slot

module _ (rs : List Leader) (ks : List ℕ) (n i : ℕ) (d : Leader) (long : length ks ≡ length rs) (l : i < length ks) (so_far : busiest_home rs ks n ≡ busiest_home (drop i rs) (drop i ks) n) where
  busiest_step : busiest_home rs ks n ≡ cond (nat_eq (suc (get_or ks i 0)) n) (get_or rs i d).home (busiest_home (drop (suc i) rs) (drop (suc i) ks) n)
  unfolding busiest_home
  busiest_step = so_far ∙ ap₂ (λ (xs : List Leader) (ys : List ℕ). busiest_home xs ys n) (drop-cons rs i d (omega (arith, l, long))) (drop-cons ks i 0 l)

  pub busiest_here : nat_eq (suc (get_or ks i 0)) n ≡ true → (get_or rs i d).home ≡ busiest_home rs ks n
  busiest_here t = sym (busiest_step ∙ ap (λ (b : Bool). cond b (get_or rs i d).home (busiest_home (drop (suc i) rs) (drop (suc i) ks) n)) t)

  pub busiest_further : nat_eq (suc (get_or ks i 0)) n ≡ false → busiest_home rs ks n ≡ busiest_home (drop (i + 1) rs) (drop (i + 1) ks) n
  busiest_further t =
      busiest_step ∙ ap (λ (b : Bool). cond b (get_or rs i d).home (busiest_home (drop (suc i) rs) (drop (suc i) ks) n)) t
      ∙ ap (λ (k : ℕ). busiest_home (drop k rs) (drop k ks) n) {x = suc i} {y = i + 1} (omega arith)

pub busiest_nowhere : (rs : List Leader) (ks : List ℕ) (n i : ℕ) → length ks ≡ length rs → length ks ≤ i → busiest_home rs ks n ≡ busiest_home (drop i rs) (drop i ks) n → 0 ≡ busiest_home rs ks n
unfolding busiest_home
busiest_nowhere rs ks n i long done e = sym (e ∙ ap (λ (xs : List Leader). busiest_home xs (drop i ks) n) (drop_all i rs (omega (arith, done, long))))

pub busiest_of_none : (rs : List Leader) (ks : List ℕ) → busiest_home rs ks 0 ≡ 0
unfolding busiest_home
busiest_of_none [] ks = refl
busiest_of_none (r ∷ rs) [] = refl
busiest_of_none (r ∷ rs) (k ∷ ks) = ap (λ (b : Bool). cond b r.home (busiest_home rs ks 0)) (eqb-suc-zero k) ∙ busiest_of_none rs ks
