-- No tokens that are an expression are fewer than those that it is printed as.
use Rattle.std.proofs.Common.{◌≡◌, ℕ, suc, ◌+◌, ◌<◌, ◌≤◌, List, [], ◌∷◌, ◌++◌, length, length-append, refl, ap, ◌∙◌, arith, Bool, true, false, inl, inr, ◌⊎◌, true≢false, sym, if◌then◌else◌}
use Rattle.std.proofs.lemmas.Bool.Decides.{leb_tells}
use Rattle.std.specs.Prelude.{nat_le}
use Rattle.syntax_lex.specs.declared.operator.logical.LogicalOperator.TheVariants.{Coalesce}
use Rattle.js_grammar.specs.Derives.{Coalesces, Derives, Listed, Parts, array, assignment, between, call, coalescing, conditional, first, index, last, member, more, new, next, nothing, operand, parentheses, postfix, power, prefix, sequence, some, unary}
use Rattle.js_grammar.specs.Laws.{PrintedTokensAreFewest}
use Rattle.js_grammar.specs.Printed.{bare, is_over_call, left_level, level, parts, printed, right_level, with_comma, wrapped}
use Rattle.js_grammar.specs.Shapes.{COALESCE, Call, EXPONENTIAL, Index, Infix, Logical, Member, Operator, Shape, Shapes, also, infix_level, none}
use Rattle.js_grammar.specs.Tokens.{CLOSE, CLOSE_SQUARE, COLON, COMMA, DOT, OPEN, OPEN_SQUARE, QUESTION, Token, Word, assign_token, infix_token, update_token}
use Rattle.js_grammar.proofs.Levels.{member_level, part_levels}

-- what parentheses add
abbrev pad : ℕ → ℕ → ℕ
pad k l = if nat_le k l then 0 else 2

pad_is : (k l : ℕ) → ((k ≤ l) × (pad k l ≡ 0)) ⊎ ((l < k) × (pad k l ≡ 2))
pad_is k l = elim (leb_tells k l) [ inl e ↦ inl (e.1, ap (λ b. if b then 0 else 2) e.0) | inr e ↦ inr (e.1, ap (λ b. if b then 0 else 2) e.0) ]

pad_none : (k l : ℕ) → k ≤ l → pad k l ≡ 0
pad_none k l le = elim (pad_is k l) [ inl e ↦ e.1 | inr e ↦ let no : ⊥ = omega (arith, e.0) in absurd no ]

pad_two : (k l : ℕ) → pad k l ≤ 2
pad_two k l = elim (pad_is k l) [ inl e ↦ omega (arith, e.1) | inr e ↦ omega (arith, e.1) ]

pad_up : (j k l : ℕ) → j ≤ k → pad j l ≤ pad k l
pad_up j k l le = elim (pad_is j l) [ inl e ↦ omega (arith, e.1) | inr e ↦ elim (pad_is k l) [ inl d ↦ let no : ⊥ = omega (arith, e.0, d.0) in absurd no | inr d ↦ omega (arith, e.1, d.1) ] ]

wrapped_length : (k l : ℕ) (ts : List Token) → length (wrapped k l ts) ≡ length ts + pad k l
wrapped_length k l ts =
    elim (leb_tells k l) [
      | inl e ↦ ap (λ b. length (if b then ts else OPEN ∷ (ts ++ CLOSE ∷ []))) e.0 ∙ let p = pad_none k l e.1 in omega (arith, p)
      | inr e ↦ ap (λ b. length (if b then ts else OPEN ∷ (ts ++ CLOSE ∷ []))) e.0 ∙ let p : pad k l ≡ 2 = ap (λ b. if b then 0 else 2) e.0 in omega (arith, p, length-append ts (CLOSE ∷ []))
    ]

over_call_level : (s : Shape) → is_over_call s ≡ true → level s ≡ 21
over_call_level (Call s ss) e = refl
over_call_level (Member s w) e = ap member_level e
over_call_level (Index s x) e = ap member_level e
over_call_level _ e = absurd (true≢false (sym e))

-- a member costs its object no more than its own parentheses
member_pad : (k l : ℕ) (s : Shape) → k ≤ l → 21 ≤ l → l ≤ 22 → pad 21 (level s) + pad k (member_level (is_over_call s)) ≤ pad l (level s)
member_pad k l s h a b = go (is_over_call s) refl
  where
    go : (c : Bool) → is_over_call s ≡ c → pad 21 (level s) + pad k (member_level c) ≤ pad l (level s)
    go false e = omega (arith, pad_none k 22 (omega arith), pad_up 21 l (level s) a)
    go true e =
        let v = over_call_level s e in
        elim (pad_is k 21) [
          | inl n ↦ omega (arith, n.1, pad_up 21 l (level s) a)
          | inr n ↦ elim (pad_is l (level s)) [
            | inl d ↦ let no : ⊥ = omega (arith, d.0, v, n.0) in absurd no
            | inr d ↦ omega (arith, d.1, n.1, pad_none 21 (level s) (omega (arith, v)))
          ]
        ]

-- the printed length, level by level
size : (k : ℕ) (s : Shape) → length (printed k s) ≡ length (bare s) + pad k (level s)
size k s = wrapped_length k (level s) (bare s)

coalesce_left : (x : Shape) → left_level COALESCE x ≤ 9
coalesce_left (Infix (Logical Coalesce) x y) = omega arith
coalesce_left _ = omega arith

stands_bare : {ts : List Token} {x : Shape} → Coalesces ts x → (left_level COALESCE x ≡ 6) × (level x ≡ 6)
stands_bare (first d e) = (refl, refl)
stands_bare (next c e) = (refl, refl)

infix_length : (o : Operator) (x y : Shape) → length (bare (Infix o x y)) ≡ (length (bare x) + pad (left_level o x) (level x)) + suc (length (bare y) + pad (right_level o) (level y))
infix_length o x y =
    let a = length-append (printed (left_level o x) x) (infix_token o ∷ printed (right_level o) y) in
    omega (arith, a, size (left_level o x) x, size (right_level o) y)

comma_length : (ss : Shapes) (ts : List Token) → length (with_comma ss ts) ≤ suc (length ts)
comma_length none ts = omega arith
comma_length (also x ss) ts = omega arith

mutual
  least : {k : ℕ} {ts : List Token} {s : Shape} → Derives k ts s → length (bare s) + pad k (level s) ≤ length ts
  least (operand {k = k} h u) = omega (arith, pad_none k 23 h)
  least (parentheses {k = k} {ts = us} {s = s} h d) = omega (arith, least d, pad_two k (level s), length-append us (CLOSE ∷ []))
  least (array {k = k} {ts = us} {ss = ss} h p) = omega (arith, pad_none k 23 h, least_listed p, length-append us (CLOSE_SQUARE ∷ []), length-append (parts ss) (CLOSE_SQUARE ∷ []))
  least (new {k = k} {ts = ts} {us = us} {s = s} {ss = ss} h d p) =
      omega (arith, pad_none k 22 h, least d, least_listed p, size 22 s, length-append ts (OPEN ∷ (us ++ CLOSE ∷ [])), length-append us (CLOSE ∷ []), length-append (printed 22 s) (OPEN ∷ (parts ss ++ CLOSE ∷ [])), length-append (parts ss) (CLOSE ∷ []))
  least (member {k = k} {l = l} {ts = ts} {s = s} {w = w} h a b d) =
      omega (arith, least d, member_pad k l s h a b, size 21 s, length-append ts (DOT ∷ Word w ∷ []), length-append (printed 21 s) (DOT ∷ Word w ∷ []))
  least (index {k = k} {l = l} {ts = ts} {us = us} {s = s} {x = x} h a b d e) =
      omega (arith, least d, least e, member_pad k l s h a b, size 21 s, size 1 x, length-append ts (OPEN_SQUARE ∷ (us ++ CLOSE_SQUARE ∷ [])), length-append us (CLOSE_SQUARE ∷ []), length-append (printed 21 s) (OPEN_SQUARE ∷ (printed 1 x ++ CLOSE_SQUARE ∷ [])), length-append (printed 1 x) (CLOSE_SQUARE ∷ []))
  least (call {k = k} {ts = ts} {us = us} {s = s} {ss = ss} h d p) =
      omega (arith, pad_none k 21 h, least d, least_listed p, size 21 s, length-append ts (OPEN ∷ (us ++ CLOSE ∷ [])), length-append us (CLOSE ∷ []), length-append (printed 21 s) (OPEN ∷ (parts ss ++ CLOSE ∷ [])), length-append (parts ss) (CLOSE ∷ []))
  least (postfix {k = k} {o = o} {ts = ts} {s = s} h d g) = omega (arith, pad_none k 19 h, least d, size 21 s, length-append ts (update_token o ∷ []), length-append (printed 21 s) (update_token o ∷ []))
  least (prefix {k = k} {s = s} h d g) = omega (arith, pad_none k 18 h, least d, size 18 s)
  least (unary {k = k} {s = s} h d) = omega (arith, pad_none k 18 h, least d, size 18 s)
  least (power {k = k} {a = a} {b = b} {x = x} {y = y} h d e) = omega (arith, pad_none k 17 h, least d, least e, infix_length EXPONENTIAL x y, length-append a (infix_token EXPONENTIAL ∷ b))
  least (between {k = k} {o = o} {a = a} {b = b} {x = x} {y = y} g h d e) =
      let v = part_levels o x g in
      let l : pad (left_level o x) (level x) ≡ pad (infix_level o) (level x) = ap (λ z. pad z (level x)) v.0 in
      let r : pad (right_level o) (level y) ≡ pad (suc (infix_level o)) (level y) = ap (λ z. pad z (level y)) v.1 in
      omega (arith, pad_none k (infix_level o) h, least d, least e, l, r, infix_length o x y, length-append a (infix_token o ∷ b))
  least (coalescing {k = k} {s = s} h c) =
      let v = stands_bare c in
      let p : pad k (level s) ≡ 0 = ap (λ z. pad k z) v.1 ∙ pad_none k 6 h in
      omega (arith, least_row c, p)
  least (conditional {k = k} {a = a} {b = b} {c = c} {x = x} {y = y} {z = z} h d e g) =
      omega (arith, pad_none k 5 h, least d, least e, least g, size 6 x, size 4 y, size 4 z, length-append a (QUESTION ∷ (b ++ COLON ∷ c)), length-append b (COLON ∷ c), length-append (printed 6 x) (QUESTION ∷ (printed 4 y ++ COLON ∷ printed 4 z)), length-append (printed 4 y) (COLON ∷ printed 4 z))
  least (assignment {k = k} {o = o} {a = a} {b = b} {x = x} {y = y} h d g e) = omega (arith, pad_none k 4 h, least d, least e, size 21 x, size 4 y, length-append a (assign_token o ∷ b), length-append (printed 21 x) (assign_token o ∷ printed 4 y))
  least (sequence {k = k} {a = a} {b = b} {x = x} {ss = ss} h d p) = omega (arith, pad_none k 1 h, least d, least_parts p, size 4 x, length-append a (COMMA ∷ b), length-append (printed 4 x) (COMMA ∷ parts ss))

  least_row : {ts : List Token} {s : Shape} → Coalesces ts s → length (bare s) ≤ length ts
  least_row (first {a = a} {b = b} {x = x} {y = y} d e) = omega (arith, least d, least e, infix_length COALESCE x y, pad_up (left_level COALESCE x) 9 (level x) (coalesce_left x), length-append a (infix_token COALESCE ∷ b))
  least_row (next {a = a} {b = b} {x = x} {y = y} c e) =
      let v = stands_bare c in
      let p = pad_none (left_level COALESCE x) (level x) (omega (arith, v.0, v.1)) in
      omega (arith, least_row c, least e, p, infix_length COALESCE x y, length-append a (infix_token COALESCE ∷ b))

  least_parts : {ts : List Token} {ss : Shapes} → Parts ts ss → length (parts ss) ≤ length ts
  least_parts (last {x = x} d) = omega (arith, least d, size 4 x, length-append (printed 4 x) [])
  least_parts (more {a = a} {b = b} {x = x} {ss = ss} d p) = omega (arith, least d, least_parts p, size 4 x, comma_length ss (parts ss), length-append a (COMMA ∷ b), length-append (printed 4 x) (with_comma ss (parts ss)))

  least_listed : {ts : List Token} {ss : Shapes} → Listed ts ss → length (parts ss) ≤ length ts
  least_listed nothing = omega arith
  least_listed (some p) = least_parts p

pub fewest : PrintedTokensAreFewest
fewest s ts d = omega (arith, least d, size 1 s)
