-- The first names that a guard doesn't refuse, as they are found one after another.
use Rattle.std.specs.Prelude.{◌≡◌, ◌≤◌, ◌<◌, ℕ, zero, suc, ◌+◌, ◌-◌, ◌/◌, ◌%◌, ◌^◌, Bool, true, false, nat_lt, List, [], ◌∷◌, ◌++◌, length, if◌then◌else◌, codes, decimal}
use Rattle.std.proofs.Common.{refl, sym, ap, ◌∙◌, subst, arith}
use Rattle.std.proofs.lemmas.Fmt.{PrependsLastDigit, decimal_from_prepends, length-decimal-le_succ}
use Rattle.std.proofs.lemmas.List.{append_assoc, append-nil, length-append}
use Rattle.syntax_lex.specs.Keyword.{reserved_keywords}
use Rattle.free_names.proofs.NextNames.{how_many, is_listed}
use Rattle.name_rules.proofs.FirstUntaken.{candidate_one, enough_untaken, first_untaken_same}
use Rattle.free_names.specs.FirstFree.{AreFirstFree, AreFreeWhereTaken}
use Rattle.name_rules.specs.FreeNames.{first_untaken, is_taken}
use Rattle.free_names.specs.Guard.{is_refused}
use Rattle.name_rules.specs.Kept.{name_arguments}
use Rattle.name_rules.specs.Open.{all_open}
use Rattle.name_rules.specs.ShortNames.{candidate, digits_onto, readable_name}
use Rattle.tree_nodes.specs.Tree.{Text}
use Rattle.scope_rules.specs.Evals.{name_eval}

-- ---- the first that pass

module _ (name : ℕ → Text) where
  none_wanted : (taken : Text → Bool) (fuel k : ℕ) → first_untaken name taken fuel zero k ≡ []
  unfolding all_open
  none_wanted taken zero k = refl
  none_wanted taken (suc fuel) k = refl

  when_taken : (taken : Text → Bool) (fuel n k : ℕ) → taken (name k) ≡ true → first_untaken name taken (suc fuel) (suc n) k ≡ first_untaken name taken fuel (suc n) (suc k)
  unfolding all_open
  when_taken taken fuel n k h = ap (λ (b : Bool). elim b as (λ c. List Text) [ true ↦ first_untaken name taken fuel (suc n) (suc k) | false ↦ name k ∷ first_untaken name taken fuel n (suc k) ]) h

  when_untaken : (taken : Text → Bool) (fuel n k : ℕ) → taken (name k) ≡ false → first_untaken name taken (suc fuel) (suc n) k ≡ name k ∷ first_untaken name taken fuel n (suc k)
  unfolding all_open
  when_untaken taken fuel n k h = ap (λ (b : Bool). elim b as (λ c. List Text) [ true ↦ first_untaken name taken fuel (suc n) (suc k) | false ↦ name k ∷ first_untaken name taken fuel n (suc k) ]) h

-- ---- one candidate after another

module _ (inserted : List Text) (readable : Bool) (n : ℕ) where
  -- these names were found among the candidates below this number
  pub record Found (names : List Text) (number : ℕ) : Type 0 where
    pub so_far : (more fuel left : ℕ) → fuel ≡ number + more → left + length names ≡ n
        → first_untaken (candidate readable) (is_refused inserted) fuel n 0 ≡ names ++ first_untaken (candidate readable) (is_refused inserted) more left number
    pub most : length names ≤ n
    pub bounded : number ≤ n + 48 + length inserted

  pub none_yet : Found [] 0
  none_yet = record { so_far = start; most = omega arith; bounded = omega arith }
    where
      start : (more fuel left : ℕ) → fuel ≡ 0 + more → left + length {A = Text} [] ≡ n
          → first_untaken (candidate readable) (is_refused inserted) fuel n 0 ≡ [] ++ first_untaken (candidate readable) (is_refused inserted) more left 0
      start more fuel left e h =
          let a : fuel ≡ more = omega (arith, e) in
          let b : n ≡ left = omega (arith, h) in
          ap (λ (k : ℕ). first_untaken (candidate readable) (is_refused inserted) k n 0) a ∙ ap (λ (k : ℕ). first_untaken (candidate readable) (is_refused inserted) more k 0) b

  listed : List Text
  listed = reserved_keywords ++ (name_eval ∷ name_arguments ∷ inserted)

  as_many : length listed ≡ 48 + length inserted
  unfolding listed
  as_many =
      let a : length (reserved_keywords ++ (name_eval ∷ name_arguments ∷ inserted)) ≡ length reserved_keywords + length (name_eval ∷ name_arguments ∷ inserted) = length-append reserved_keywords (name_eval ∷ name_arguments ∷ inserted) in
      let b : length (name_eval ∷ name_arguments ∷ inserted) ≡ suc (suc (length inserted)) = refl in
      omega (arith, a, b, how_many inserted)

  with_no_fuel : (names : List Text) (left k : ℕ) → length (names ++ first_untaken (candidate readable) (is_refused inserted) 0 left k) ≡ length names
  unfolding all_open
  with_no_fuel names left k = ap length (append-nil names)

  -- where names are wanted still, the number isn't far
  pub near : (names : List Text) (number : ℕ) → Found names number → length names < n → number < n + 48 + length inserted
  unfolding listed
  near names number found h = go (nat_lt number (n + 48 + length inserted)) refl
    where
      go : (b : Bool) → nat_lt number (n + 48 + length inserted) ≡ b → number < n + 48 + length inserted
      go true e = grind (arith, e)
      go false e =
          let far : n + 48 + length inserted ≤ number = grind (arith, e) in
          let a : length (first_untaken (candidate readable) (is_refused inserted) number n 0) ≡ n =
          enough_untaken (candidate readable) (candidate_one readable) (is_refused inserted) listed (is_listed inserted) number n 0 (omega (arith, far, as_many)) in
          let b : first_untaken (candidate readable) (is_refused inserted) number n 0 ≡ names ++ first_untaken (candidate readable) (is_refused inserted) 0 (n - length names) number =
          found.so_far 0 number (n - length names) (omega arith) (omega (arith, h)) in
          let c : length (names ++ first_untaken (candidate readable) (is_refused inserted) 0 (n - length names) number) ≡ length names = with_no_fuel names (n - length names) number in
          absurd (omega (arith, h, sym a ∙ ap length b ∙ c))

  refused : (names : List Text) (number : ℕ) → Found names number → length names < n → is_refused inserted (candidate readable number) ≡ true → Found names (number + 1)
  refused names number found h t = record { so_far = next; most = found.most; bounded = (let a : number < n + 48 + length inserted = near names number found h in omega (arith, a)) }
    where
      next : (more fuel left : ℕ) → fuel ≡ number + 1 + more → left + length names ≡ n
          → first_untaken (candidate readable) (is_refused inserted) fuel n 0 ≡ names ++ first_untaken (candidate readable) (is_refused inserted) more left (number + 1)
      next more fuel zero e l = absurd (omega (arith, h, l))
      next more fuel (suc left) e l =
          let one : suc number ≡ number + 1 = omega arith in
          found.so_far (suc more) fuel (suc left) (omega (arith, e)) l
          ∙ ap (λ (xs : List Text). names ++ xs) (when_taken (candidate readable) (is_refused inserted) more left number t)
          ∙ ap (λ (k : ℕ). names ++ first_untaken (candidate readable) (is_refused inserted) more (suc left) k) one

  given : (names after : List Text) (number : ℕ) → Found names number → length names < n → is_refused inserted (candidate readable number) ≡ false → after ≡ names ++ candidate readable number ∷ [] → Found after (number + 1)
  given names after number found h t e =
      subst (λ (xs : List Text). Found xs (number + 1)) (sym e)
      (record { so_far = next; most = omega (arith, h, longer); bounded = (let a : number < n + 48 + length inserted = near names number found h in omega (arith, a)) })
    where
      longer : length (names ++ candidate readable number ∷ []) ≡ length names + 1
      longer = length-append names (candidate readable number ∷ [])

      next : (more fuel left : ℕ) → fuel ≡ number + 1 + more → left + length (names ++ candidate readable number ∷ []) ≡ n
          → first_untaken (candidate readable) (is_refused inserted) fuel n 0 ≡ (names ++ candidate readable number ∷ []) ++ first_untaken (candidate readable) (is_refused inserted) more left (number + 1)
      next more fuel left e l =
          let one : suc number ≡ number + 1 = omega arith in
          found.so_far (suc more) fuel (suc left) (omega (arith, e)) (omega (arith, l, longer))
          ∙ ap (λ (xs : List Text). names ++ xs) (when_untaken (candidate readable) (is_refused inserted) more left number t)
          ∙ sym (append_assoc names (candidate readable number ∷ []) (first_untaken (candidate readable) (is_refused inserted) more left (suc number)))
          ∙ ap (λ (k : ℕ). (names ++ candidate readable number ∷ []) ++ first_untaken (candidate readable) (is_refused inserted) more left k) one

  -- one candidate more was asked
  pub one_more : (names after : List Text) (number : ℕ) (name : Text) → Found names number → length names < n → name ≡ candidate readable number
      → after ≡ names ++ (if is_refused inserted name then [] else name ∷ []) → Found after (number + 1)
  one_more names after number name found h is e = go (is_refused inserted (candidate readable number)) refl (e ∙ ap (λ (x : Text). names ++ (if is_refused inserted x then [] else x ∷ [])) is)
    where
      go : (b : Bool) → is_refused inserted (candidate readable number) ≡ b → after ≡ names ++ (if is_refused inserted (candidate readable number) then [] else candidate readable number ∷ []) → Found after (number + 1)
      go true t d = subst (λ (xs : List Text). Found xs (number + 1)) (sym (d ∙ ap (λ (b : Bool). names ++ (if b then [] else candidate readable number ∷ [])) t ∙ append-nil names)) (refused names number found h t)
      go false t d = given names after number found h t (d ∙ ap (λ (b : Bool). names ++ (if b then [] else candidate readable number ∷ [])) t)

  pub all_found : (names : List Text) (number : ℕ) → Found names number → n ≤ length names → AreFirstFree inserted readable n names
  all_found names number found h fuel enough_untaken =
      let a : number ≤ n + 48 + length inserted = found.bounded in
      let b : length names ≤ n = found.most in
      sym (found.so_far (fuel - number) fuel 0 (omega (arith, a, enough_untaken)) (omega (arith, h, b))
      ∙ ap (λ (xs : List Text). names ++ xs) (none_wanted (candidate readable) (is_refused inserted) (fuel - number) number)
      ∙ append-nil names)

  -- the names that are free in a tree where this is taken
  pub free_where_taken : (names : List Text) → AreFirstFree inserted readable n names → AreFreeWhereTaken inserted readable n names
  unfolding all_open
  free_where_taken names first o ms r l same =
      first (n + 48 + length o.reserved + length ms) (omega (arith, l))
      ∙ ap (λ (b : Bool). first_untaken (candidate b) (is_refused inserted) (n + 48 + length o.reserved + length ms) n 0) (sym r)
      ∙ first_untaken_same (candidate o.readable) (is_refused inserted) (is_taken o ms) same (n + 48 + length o.reserved + length ms) n 0

-- ---- readable names

prepends : PrependsLastDigit digits_onto
unfolding all_open
prepends = record { one = one; more = more }
  where
    put : Bool → ℕ → ℕ → Text → Text
    put b k n acc = elim b as (λ c. Text) [ true ↦ (48 + n) ∷ acc | false ↦ digits_onto k (n / 10) ((48 + n % 10) ∷ acc) ]

    below : (n : ℕ) → n < 10 → nat_lt n 10 ≡ true
    below n h = grind (arith, h)

    past : (n : ℕ) → 10 ≤ n → nat_lt n 10 ≡ false
    past n h = grind (arith, h)

    one : (k n : ℕ) (acc : Text) → n < 10 → digits_onto (suc k) n acc ≡ (48 + n) ∷ acc
    one k n acc h = ap (λ (b : Bool). put b k n acc) (below n h)

    more : (k n : ℕ) (acc : Text) → 10 ≤ n → digits_onto (suc k) n acc ≡ digits_onto k (n / 10) ((48 + n % 10) ∷ acc)
    more k n acc h = ap (λ (b : Bool). put b k n acc) (past n h)

pub readable_told : (n : ℕ) → n < 2 ^ 32 → codes "slot_" ++ decimal n ≡ readable_name n
unfolding all_open
readable_told n h =
    let long : length (decimal n) ≤ suc n = subst (λ (k : ℕ). length (decimal n) ≤ k) (omega arith) (length-decimal-le_succ n (omega (arith, h))) in
    ap (λ (xs : Text). codes "slot_" ++ xs) (sym (decimal_from_prepends digits_onto prepends (suc n) n [] (omega (arith, h)) long ∙ append-nil (decimal n)))
