-- Numbers at positions, and numbers one after the other, are those of private names.
use Rattle.std.specs.Prelude.{◌≡◌, ◌⊎◌, ◌≤◌, ◌<◌, ◌+◌, ◌-◌, ℕ, suc, Bool, true, false, nat_lt, List, [], ◌∷◌, ◌++◌, length, get_or, slice_get, Some, None, IfSome, if◌then◌else◌}
use Rattle.std.proofs.Common.{inl, inr, sym, ap, ◌∙◌, subst, arith, length-append, lt-ltb, le-ltb}
use Rattle.std.proofs.lemmas.Bool.{cases_lt}
use Rattle.std.proofs.lemmas.List.{get_or_append_left}
use Rattle.std.proofs.Math.Seq.{get_or-append_seam}
use borrow.Author.Count.{below_more}
use Rattle.std.proofs.lemmas.Option.{slice_get-get_or, slice_get_past}
use Rattle.list_laws.proofs.Tests.{none_some, some_one}
use Rattle.class_tables.proofs.Positions.{none_passed_over}
use Rattle.name_rules.proofs.NthUnlisted.{nth_is_unlisted}
use Rattle.name_rules.specs.PrivateNumbers.{closed_count, nth_unlisted, number_in, open_names}
use Rattle.name_rules.specs.ShortNames.{short}
use Rattle.tree_nodes.specs.Tree.{Text}
use Rattle.tree_places.specs.Places.{Place}
use Rattle.scope_rules.specs.Evals.{is_open}
use Rattle.scope_rules.specs.PrivateNames.{is_among, private_names}
use Rattle.private_numbers.specs.Numbers.{AreAt, AreConsecutive, AreNumbers, class_number, numbered_names}

module _ (ps : List Place) (outer : List ℕ) (first count end : ℕ) (ns : List ℕ) (at_first : first ≡ closed_count ps outer) (at_end : end ≡ first + count) where
  many_left : end - first ≡ count
  many_left = omega (arith, at_end)

  pub numbers_at_positions : AreAt (open_names ps outer) first end ns → AreNumbers ps outer count ns
  unfolding number_in
  numbers_at_positions at = record {
    many = at.many ∙ many_left;
    each = λ i h. at.each i (subst (λ (m : ℕ). i < m) (sym many_left) h)
        ∙ ap (λ (p : ℕ). nth_unlisted (open_names ps outer) (suc ((p + i) + length (open_names ps outer))) (p + i) 0) at_first;
  }

  pub numbers_in_a_row : open_names ps outer ≡ [] → AreConsecutive first end ns → AreNumbers ps outer count ns
  unfolding number_in
  numbers_in_a_row none row = record {
    many = row.many ∙ many_left;
    each = λ i h. row.each i (subst (λ (m : ℕ). i < m) (sym many_left) h)
        ∙ ap (λ (p : ℕ). p + i) at_first
        ∙ sym (ap (λ (xs : List Text). nth_unlisted xs (suc ((closed_count ps outer + i) + length xs)) (closed_count ps outer + i) 0) none
        ∙ ap (λ (p : ℕ). nth_unlisted [] (suc p) (closed_count ps outer + i) 0) (none_more (closed_count ps outer + i))
        ∙ none_passed_over (closed_count ps outer + i) 0
        ∙ from_zero (closed_count ps outer + i));
  }
    where
      none_more : (m : ℕ) → m + 0 ≡ m
      none_more m = omega arith

      from_zero : (m : ℕ) → 0 + m ≡ m
      from_zero m = omega arith

module _ (ps : List Place) (c : ℕ) where
  -- the names that have a number: all where the class body isn't open
  pub all_numbered : is_open ps c ≡ false → numbered_names ps c ≡ length (private_names ps c)
  unfolding numbered_names
  all_numbered f = ap (λ (b : Bool). if b then 0 else length (private_names ps c)) f

  pub none_numbered : (outer : List ℕ) → is_open ps c ≡ true → AreNumbers ps outer (numbered_names ps c) []
  unfolding numbered_names
  none_numbered outer f = record {
    many = sym none;
    each = λ i h. absurd (let e : numbered_names ps c ≡ 0 = none in omega (arith, e, h));
  }
    where
      none : numbered_names ps c ≡ 0
      none = ap (λ (b : Bool). if b then 0 else length (private_names ps c)) f

  -- what is read from the list
  pub number_read : (outer : List ℕ) (ns : List ℕ) → AreNumbers ps outer (numbered_names ps c) ns → (i : ℕ) → slice_get ns i ≡ class_number ps outer c i
  unfolding class_number
  number_read outer ns are i = go (cases_lt i (numbered_names ps c))
    where
      go : (i < numbered_names ps c) ⊎ (numbered_names ps c ≤ i) → slice_get ns i ≡ (if nat_lt i (numbered_names ps c) then Some (number_in ps outer i) else None)
      go (inl h) = slice_get-get_or ns i 0 (subst (λ (m : ℕ). i < m) (sym are.many) h) ∙ ap (λ (n : ℕ). Some n) (are.each i h)
          ∙ sym (ap (λ (b : Bool). if b then Some (number_in ps outer i) else None) (lt-ltb i (numbered_names ps c) h))
      go (inr h) = slice_get_past ns i (subst (λ (m : ℕ). m ≤ i) (sym are.many) h)
          ∙ sym (ap (λ (b : Bool). if b then Some (number_in ps outer i) else None) (le-ltb i (numbered_names ps c) h))

  -- the number of a name that has one
  pub number_told : (outer : List ℕ) (i k : ℕ) → is_open ps c ≡ false → class_number ps outer c i ≡ Some k → (i < length (private_names ps c)) × (number_in ps outer i ≡ k)
  unfolding class_number
  number_told outer i k f e = go (cases_lt i (numbered_names ps c))
    where
      go : (i < numbered_names ps c) ⊎ (numbered_names ps c ≤ i) → (i < length (private_names ps c)) × (number_in ps outer i ≡ k)
      go (inl h) = (
        subst (λ (m : ℕ). i < m) (all_numbered f) h,
        some_one (number_in ps outer i) k (sym (ap (λ (b : Bool). if b then Some (number_in ps outer i) else None) (lt-ltb i (numbered_names ps c) h)) ∙ e),
      )
      go (inr h) = absurd (none_some k (sym (ap (λ (b : Bool). if b then Some (number_in ps outer i) else None) (le-ltb i (numbered_names ps c) h)) ∙ e))

  -- its short name is none of an open class around
  pub number_avoids : (outer : List ℕ) (i : ℕ) → IfSome (class_number ps outer c i) (λ n. is_among (open_names ps outer) (short n) ≡ false)
  unfolding class_number number_in
  number_avoids outer i = go (nat_lt i (numbered_names ps c))
    where
      go : (b : Bool) → IfSome (if b then Some (number_in ps outer i) else None) (λ n. is_among (open_names ps outer) (short n) ≡ false)
      go true = nth_is_unlisted (open_names ps outer) (closed_count ps outer + i)
      go false = tt

  -- by the class bodies around in another form
  pub closed_numbers : (near outer : List ℕ) (count : ℕ) (ns : List ℕ) → is_open ps c ≡ false → near ≡ outer → count ≡ length (private_names ps c) → AreNumbers ps near count ns → AreNumbers ps outer (numbered_names ps c) ns
  closed_numbers near outer count ns f same many are =
      subst (λ (cs : List ℕ). AreNumbers ps cs (numbered_names ps c) ns) same
      (subst (λ (n : ℕ). AreNumbers ps near n ns) (many ∙ sym (all_numbered f)) are)

-- ---- numbers in a row

pub none_in_a_row : (first : ℕ) → AreConsecutive first first []
none_in_a_row first = record { many = omega arith; each = λ i h. absurd (omega (arith, h)) }

pub one_more_in_a_row : (first number : ℕ) (ns : List ℕ) → first ≤ number → AreConsecutive first number ns → AreConsecutive first (number + 1) (ns ++ number ∷ [])
one_more_in_a_row first number ns h row = record {
  many = length-append ns (number ∷ []) ∙ (let e : length ns ≡ number - first = row.many in omega (arith, e, h));
  each = λ i l. subst (λ (j : ℕ). (k : ℕ) → k < j → get_or (ns ++ number ∷ []) k 0 ≡ first + k) (sym one_more)
      (below_more (λ k. get_or (ns ++ number ∷ []) k 0 ≡ first + k) (number - first)
      (λ k j. get_or_append_left ns (number ∷ []) 0 k (subst (λ (m : ℕ). k < m) (sym row.many) j) ∙ row.each k j)
      (ap (λ (k : ℕ). get_or (ns ++ number ∷ []) k 0) (sym row.many) ∙ get_or-append_seam ns number [] 0 ∙ sym at_end))
      i l;
}
  where
    one_more : (number + 1) - first ≡ (number - first) + 1
    one_more = omega (arith, h)

    at_end : first + (number - first) ≡ number
    at_end = omega (arith, h)
