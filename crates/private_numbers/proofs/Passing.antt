-- How far a search for numbers whose short names aren't listed has come.
use Rattle.std.specs.Prelude.{◌≡◌, ◌⊎◌, ◌≤◌, ◌<◌, ◌+◌, ◌-◌, ℕ, suc, Bool, true, false, cond, ◌||◌, List, [], ◌∷◌, ◌++◌, length, get_or, nat_lt, if◌then◌else◌}
use Rattle.std.proofs.Common.{refl, sym, ap, ◌∙◌, subst, arith, inl, inr, length-append, lt-ltb, le-ltb}
use Rattle.std.proofs.lemmas.Bool.{cases_lt}
use Rattle.std.proofs.lemmas.List.{get_or_append_left}
use borrow.Author.Count.{below_more}
use Rattle.std.proofs.Math.Seq.{get_or-append_seam}
use Rattle.name_rules.proofs.NthUnlisted.{nth, nth_is_at, unlisted_in, unlisted_more}
use Rattle.name_rules.specs.ShortNames.{short}
use Rattle.tree_nodes.specs.Tree.{Text}
use Rattle.scope_rules.specs.PrivateNames.{is_among}
use Rattle.private_numbers.specs.Numbers.{AreAt}

module _ (listed : List Text) (first : ℕ) where
  -- below a number so many aren't listed, and of these the ones from the first position on are kept
  pub record IsPassed (number passed : ℕ) (ns : List ℕ) : Type 0 where
    pub counted : unlisted_in listed 0 number ≡ passed
    pub many : length ns ≡ passed - first
    pub each : (i : ℕ) → i < passed - first → get_or ns i 0 ≡ nth listed (first + i)

  counted_more : (number passed : ℕ) (b : Bool) → unlisted_in listed 0 number ≡ passed → is_among listed (short number) ≡ b → unlisted_in listed 0 (number + 1) ≡ passed + cond b 0 1
  counted_more number passed b e f =
      ap (unlisted_in listed 0) (one_more number)
      ∙ unlisted_more listed 0 number
      ∙ ap (λ (j : ℕ). unlisted_in listed 0 number + cond (is_among listed (short j)) 0 1) (from_zero number)
      ∙ ap (λ (t : Bool). unlisted_in listed 0 number + cond t 0 1) f
      ∙ ap (λ (m : ℕ). m + cond b 0 1) e
    where
      one_more : (m : ℕ) → m + 1 ≡ suc m
      one_more m = omega arith

      from_zero : (m : ℕ) → 0 + m ≡ m
      from_zero m = omega arith

  pub nothing_passed : IsPassed 0 0 []
  unfolding unlisted_in
  nothing_passed = record { counted = refl; many = omega arith; each = λ i h. absurd (omega (arith, h)) }

  module _ (number passed : ℕ) (ns : List ℕ) (so_far : IsPassed number passed ns) where
    pub passed_over : is_among listed (short number) ≡ true → IsPassed (number + 1) passed ns
    passed_over f = record {
      counted = counted_more number passed true so_far.counted f ∙ as_before passed;
      many = so_far.many;
      each = so_far.each;
    }
      where
        as_before : (m : ℕ) → m + 0 ≡ m
        as_before m = omega arith

    -- before the first position
    pub passed_before : is_among listed (short number) ≡ false → passed < first → IsPassed (number + 1) (passed + 1) ns
    passed_before f h = record {
      counted = counted_more number passed false so_far.counted f;
      many = (let e : length ns ≡ passed - first = so_far.many in omega (arith, e, h));
      each = λ i l. absurd (omega (arith, l, h));
    }

    -- from it on
    pub passed_kept : is_among listed (short number) ≡ false → first ≤ passed → IsPassed (number + 1) (passed + 1) (ns ++ number ∷ [])
    passed_kept f h = record {
      counted = counted_more number passed false so_far.counted f;
      many = length-append ns (number ∷ []) ∙ (let e : length ns ≡ passed - first = so_far.many in omega (arith, e, h));
      each = λ i l. subst (λ (j : ℕ). (k : ℕ) → k < j → get_or (ns ++ number ∷ []) k 0 ≡ nth listed (first + k)) (sym one_kept)
          (below_more (λ k. get_or (ns ++ number ∷ []) k 0 ≡ nth listed (first + k)) (passed - first)
          (λ k j. get_or_append_left ns (number ∷ []) 0 k (subst (λ (m : ℕ). k < m) (sym so_far.many) j) ∙ so_far.each k j)
          (ap (λ (k : ℕ). get_or (ns ++ number ∷ []) k 0) (sym so_far.many) ∙ get_or-append_seam ns number [] 0 ∙ sym (nth_is_at listed number f) ∙ ap (nth listed) (so_far.counted ∙ sym at_end)))
          i l;
    }
      where
        one_kept : (passed + 1) - first ≡ (passed - first) + 1
        one_kept = omega (arith, h)

        at_end : first + (passed - first) ≡ passed
        at_end = omega (arith, h)

    -- in code
    pub passed_on : is_among listed (short number) ≡ false → (ms : List ℕ) → ms ≡ (if nat_lt passed first then ns else ns ++ number ∷ []) → IsPassed (number + 1) (passed + 1) ms
    passed_on f ms e = go (cases_lt passed first)
      where
        go : (passed < first) ⊎ (first ≤ passed) → IsPassed (number + 1) (passed + 1) ms
        go (inl h) = subst (IsPassed (number + 1) (passed + 1)) (sym (e ∙ ap (λ (b : Bool). if b then ns else ns ++ number ∷ []) (lt-ltb passed first h))) (passed_before f h)
        go (inr h) = subst (IsPassed (number + 1) (passed + 1)) (sym (e ∙ ap (λ (b : Bool). if b then ns else ns ++ number ∷ []) (le-ltb passed first h))) (passed_kept f h)

    pub passed_step : (avoided : Bool) → is_among listed (short number) ≡ avoided → (n : ℕ) (ms : List ℕ) → n ≡ (if avoided then passed else passed + 1)
        → ms ≡ (if avoided || nat_lt passed first then ns else ns ++ number ∷ []) → IsPassed (number + 1) n ms
    passed_step true f n ms e g = subst (λ (m : ℕ). IsPassed (number + 1) m ms) (sym e) (subst (IsPassed (number + 1) passed) (sym g) (passed_over f))
    passed_step false f n ms e g = subst (λ (m : ℕ). IsPassed (number + 1) m ms) (sym e) (passed_on f ms g)

  pub all_passed : (number end : ℕ) (ns : List ℕ) → IsPassed number end ns → AreAt listed first end ns
  all_passed number end ns p = record { many = p.many; each = p.each }
