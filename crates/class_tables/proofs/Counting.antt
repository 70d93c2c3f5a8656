-- Each class body's count is its own and that of the class body outwards.
use Rattle.std.specs.Prelude.{◌≡◌, ◌<◌, ◌≤◌, ◌+◌, ◌*◌, ℕ, zero, suc, Bool, true, false, not, List, [], ◌∷◌, ◌++◌, map, filter, sum, length, get_or, Option, Some, None, IfSome, cond, if◌then◌else◌}
use Rattle.std.specs.List.{fold}
use Rattle.std.proofs.Common.{refl, sym, ap, ◌∙◌, subst, arith}
use Rattle.name_rules.specs.PrivateNumbers.{closed_count}
use Rattle.tree_places.specs.Places.{Place}
use Rattle.scope_rules.specs.Evals.{is_open}
use Rattle.scope_rules.specs.PrivateNames.{private_names}
use Rattle.list_laws.proofs.Tests.{told}
use Rattle.class_tables.specs.Counts.{AreFlagsOf, closed_in, count_around, count_at, own_count}
use Rattle.class_tables.specs.Outwards.{Falls, chain, chain_from}
use Rattle.class_tables.specs.Tables.{AreTablesOf, names_at}
use Rattle.class_tables.specs.declared.class_table.ClassTable.{ClassTable}
use borrow.Author.Count.{below_more}
use Rattle.class_tables.proofs.Chains.{chain_step}
use Rattle.class_tables.proofs.Seen.{names_are}

-- the counts of the class bodies below n
abbrev pub AreCounts : List ClassTable → List Bool → (ℕ → Option ℕ) → List ℕ → ℕ → Type 0
AreCounts ts flags next counts n = (k : ℕ) → k < n → get_or counts k 0 ≡ closed_in ts flags (chain next k)

module _ (ts : List ClassTable) (flags : List Bool) (next : ℕ → Option ℕ) (falls : Falls next) (counts : List ℕ) where
  pub count_is : (c : ℕ) → AreCounts ts flags next counts c → count_at ts flags next counts c ≡ closed_in ts flags (chain next c)
  unfolding count_at count_around closed_in chain_from
  count_is c so_far = sym (ap (closed_in ts flags) (chain_step next falls c)
      ∙ ap (λ (n : ℕ). own_count ts flags c + n) (told (next c) (λ e. rw e refl) (λ p e. rw e (sym (so_far p (falls c p e))))))

  pub count_pushed : (n : ℕ) → length counts ≡ n → AreCounts ts flags next counts n → (x : ℕ) → x ≡ count_at ts flags next counts n → AreCounts ts flags next (counts ++ x ∷ []) (n + 1)
  count_pushed n len so_far x e = below_more (λ k. get_or (counts ++ x ∷ []) k 0 ≡ closed_in ts flags (chain next k)) n
      (λ k h. before counts k (subst (λ (m : ℕ). k < m) (sym len) h) ∙ so_far k h)
      (ap (λ (j : ℕ). get_or (counts ++ x ∷ []) j 0) (sym len) ∙ last counts ∙ e ∙ count_is n so_far)
    where
      before : (xs : List ℕ) (j : ℕ) → j < length xs → get_or (xs ++ x ∷ []) j 0 ≡ get_or xs j 0
      before [] j l = absurd (omega (arith, l))
      before (y ∷ ys) zero l = refl
      before (y ∷ ys) (suc j) l = before ys j (omega (arith, l))

      last : (xs : List ℕ) → get_or (xs ++ x ∷ []) (length xs) 0 ≡ x
      last [] = refl
      last (y ∷ ys) = last ys

  pub bound_pushed : (n : ℕ) → length counts ≡ n → ((k : ℕ) → k < n → get_or counts k 0 ≤ 4294967296 * (k + 1)) → (x : ℕ) → x ≤ 4294967296 * (n + 1)
      → (k : ℕ) → k < n + 1 → get_or (counts ++ x ∷ []) k 0 ≤ 4294967296 * (k + 1)
  bound_pushed n len so_far x b = below_more (λ k. get_or (counts ++ x ∷ []) k 0 ≤ 4294967296 * (k + 1)) n
      (λ k h. subst (λ (m : ℕ). m ≤ 4294967296 * (k + 1)) (sym (before counts k (subst (λ (m : ℕ). k < m) (sym len) h))) (so_far k h))
      (subst (λ (m : ℕ). m ≤ 4294967296 * (n + 1)) (sym (ap (λ (j : ℕ). get_or (counts ++ x ∷ []) j 0) (sym len) ∙ last counts)) b)
    where
      before : (xs : List ℕ) (j : ℕ) → j < length xs → get_or (xs ++ x ∷ []) j 0 ≡ get_or xs j 0
      before [] j l = absurd (omega (arith, l))
      before (y ∷ ys) zero l = refl
      before (y ∷ ys) (suc j) l = before ys j (omega (arith, l))

      last : (xs : List ℕ) → get_or (xs ++ x ∷ []) (length xs) 0 ≡ x
      last [] = refl
      last (y ∷ ys) = last ys

-- the count around is small where all are
pub around_small : (counts : List ℕ) (c : ℕ) (o : Option ℕ) → IfSome o (λ p. p < c) → ((k : ℕ) → k < c → get_or counts k 0 ≤ 4294967296 * (k + 1)) → count_around counts o ≤ 4294967296 * c
unfolding count_around
around_small counts c None h b = omega arith
around_small counts c (Some p) h b = let l = b p h in omega arith

pub outer_lower : (next : ℕ → Option ℕ) → Falls next → (c : ℕ) (o : Option ℕ) → o ≡ next c → IfSome o (λ p. p < c)
outer_lower next falls c None e = tt
outer_lower next falls c (Some p) e = falls c p (sym e)

pub count_open : (ts : List ClassTable) (flags : List Bool) (next : ℕ → Option ℕ) (counts : List ℕ) (c r : ℕ) (o : Option ℕ) → o ≡ next c → r ≡ count_around counts o → get_or flags c false ≡ true → r ≡ count_at ts flags next counts c
unfolding count_at own_count
count_open ts flags next counts c r o e f t =
    f ∙ ap (count_around counts) e ∙ zero_more (count_around counts (next c)) ∙ sym (ap (λ (b : Bool). (if b then 0 else length (names_at ts c)) + count_around counts (next c)) t)
  where
    zero_more : (n : ℕ) → n ≡ (if true then 0 else length (names_at ts c)) + n
    zero_more n = omega arith

pub count_closed : (ts : List ClassTable) (flags : List Bool) (next : ℕ → Option ℕ) (counts : List ℕ) (c r n : ℕ) (o : Option ℕ) → o ≡ next c → r ≡ count_around counts o → get_or flags c false ≡ false → n ≡ length (names_at ts c) → r + n ≡ count_at ts flags next counts c
unfolding count_at own_count
count_closed ts flags next counts c r n o e f t len =
    swapped r n ∙ ap (λ (m : ℕ). n + m) (f ∙ ap (count_around counts) e) ∙ ap (λ (m : ℕ). m + count_around counts (next c)) len
    ∙ sym (ap (λ (b : Bool). (if b then 0 else length (names_at ts c)) + count_around counts (next c)) t)
  where
    swapped : (a b : ℕ) → a + b ≡ b + a
    swapped a b = omega arith

-- ---- what the definitions count

sum_from : (a b : ℕ) (xs : List ℕ) → fold (λ (m n : ℕ). m + n) (a + b) xs ≡ a + fold (λ (m n : ℕ). m + n) b xs
sum_from a b [] = refl
sum_from a b (x ∷ xs) = ap (λ (n : ℕ). fold (λ (m k : ℕ). m + k) n xs) (moved a b x) ∙ sum_from a (b + x) xs
  where
    moved : (m n k : ℕ) → (m + n) + k ≡ m + (n + k)
    moved m n k = omega arith

sum_cons : (x : ℕ) (xs : List ℕ) → sum (x ∷ xs) ≡ x + sum xs
sum_cons x xs = ap (λ (n : ℕ). fold (λ (m k : ℕ). m + k) n xs) (moved x) ∙ sum_from x 0 xs
  where
    moved : (m : ℕ) → 0 + m ≡ m + 0
    moved m = omega arith

module _ (ts : List ClassTable) (flags : List Bool) (ps : List Place) (held : AreTablesOf ts ps) (told_open : AreFlagsOf flags ps) (next : ℕ → Option ℕ) (falls : Falls next) where
  count_step : (c : ℕ) (cs : List ℕ) → c < length flags → closed_in ts flags cs ≡ closed_count ps cs → closed_in ts flags (c ∷ cs) ≡ closed_count ps (c ∷ cs)
  unfolding closed_in own_count closed_count
  count_step c cs h ih = ap (λ (b : Bool). (if b then 0 else length (names_at ts c)) + closed_in ts flags cs) (told_open c h)
      ∙ ap (λ ns. (if is_open ps c then 0 else length ns) + closed_in ts flags cs) (held.names c ∙ names_are ps c)
      ∙ ap (λ (n : ℕ). (if is_open ps c then 0 else length (private_names ps c)) + n) ih
      ∙ go (is_open ps c)
    where
      go : (b : Bool) → (if b then 0 else length (private_names ps c)) + closed_count ps cs
          ≡ sum (map (λ k. length (private_names ps k)) (cond (not b) (c ∷ filter (λ k. not (is_open ps k)) cs) (filter (λ k. not (is_open ps k)) cs)))
      go true = omega arith
      go false = sym (sum_cons (length (private_names ps c)) (map (λ k. length (private_names ps k)) (filter (λ k. not (is_open ps k)) cs)))

  count_by : (n k : ℕ) → k < n → k < length flags → closed_in ts flags (chain next k) ≡ closed_count ps (chain next k)
  unfolding closed_in closed_count chain_from
  count_by zero k h l = absurd (omega (arith, h))
  count_by (suc n) k h l =
      ap (closed_in ts flags) (chain_step next falls k)
      ∙ count_step k (chain_from next (next k)) l (told (next k) (λ e. rw e refl)
      (λ p e. rw e (count_by n p (let j : p < k = falls k p e in omega arith) (let j : p < k = falls k p e in omega arith))))
      ∙ sym (ap (closed_count ps) (chain_step next falls k))

  pub closed_is : (k : ℕ) → k < length flags → closed_in ts flags (chain next k) ≡ closed_count ps (chain next k)
  closed_is k l = count_by (suc k) k (omega arith) l
