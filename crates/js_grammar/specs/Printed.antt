-- The tokens that an expression is printed as: parentheses stand exactly where the level asks for them.
use Rattle.std.specs.Prelude.{◌≡◌, ℕ, suc, Bool, false, true, List, [], ◌∷◌, ◌++◌, nat_le, if◌then◌else◌}
use Rattle.syntax_lex.specs.declared.operator.binary.BinaryOperator.TheVariants.{Exponential}
use Rattle.syntax_lex.specs.declared.operator.logical.LogicalOperator.TheVariants.{Coalesce}
use Rattle.js_grammar.specs.Derives.{IsUnreserved}
use Rattle.js_grammar.specs.Shapes.{Array, Assign, Binary, Call, Conditional, Index, Infix, Logical, Member, New, One, Operator, Postfix, Prefix, Sequence, Shape, Shapes, Unary, also, infix_level, is_target, none}
use Rattle.js_grammar.specs.Tokens.{CLOSE, CLOSE_SQUARE, COLON, COMMA, DOT, NEW, OPEN, OPEN_SQUARE, QUESTION, Token, Word, assign_token, infix_token, operand_token, unary_token, update_token}

-- a call, or members over one
abbrev pub is_over_call : Shape → Bool
is_over_call (Call s ss) = true
is_over_call (Member s w) = is_over_call s
is_over_call (Index s x) = is_over_call s
is_over_call _ = false

-- the highest level at which an expression stands with no parentheses around it
abbrev pub level : Shape → ℕ
level (One o) = 23
level (Array ss) = 23
level (New s ss) = 22
level (Member s w) = if is_over_call s then 21 else 22
level (Index s x) = if is_over_call s then 21 else 22
level (Call s ss) = 21
level (Postfix o s) = 19
level (Prefix o s) = 18
level (Unary o s) = 18
level (Infix o x y) = infix_level o
level (Conditional x y z) = 5
level (Assign o x y) = 4
level (Sequence x ss) = 1

abbrev pub is_coalesce : Shape → Bool
is_coalesce (Infix (Logical Coalesce) x y) = true
is_coalesce _ = false

-- the levels at which the parts of an operator stand: a row of `??` stands bare on the left of another
abbrev pub left_level : Operator → Shape → ℕ
left_level (Binary Exponential) x = 19
left_level (Logical Coalesce) x = if is_coalesce x then 6 else 9
left_level o x = infix_level o

abbrev pub right_level : Operator → ℕ
right_level (Binary Exponential) = 17
right_level (Logical Coalesce) = 9
right_level o = suc (infix_level o)

-- tokens of an expression of the second level, at the first
abbrev pub wrapped : ℕ → ℕ → List Token → List Token
wrapped k l ts = if nat_le k l then ts else OPEN ∷ (ts ++ CLOSE ∷ [])

-- before further parts
abbrev pub with_comma : Shapes → List Token → List Token
with_comma none ts = ts
with_comma (also x ss) ts = COMMA ∷ ts

abbrev mutual
  -- with no parentheses around it
  pub bare : Shape → List Token
  bare (One o) = operand_token o ∷ []
  bare (Array ss) = OPEN_SQUARE ∷ (parts ss ++ CLOSE_SQUARE ∷ [])
  bare (New s ss) = NEW ∷ (wrapped 22 (level s) (bare s) ++ OPEN ∷ (parts ss ++ CLOSE ∷ []))
  bare (Member s w) = wrapped 21 (level s) (bare s) ++ DOT ∷ Word w ∷ []
  bare (Index s x) = wrapped 21 (level s) (bare s) ++ OPEN_SQUARE ∷ (wrapped 1 (level x) (bare x) ++ CLOSE_SQUARE ∷ [])
  bare (Call s ss) = wrapped 21 (level s) (bare s) ++ OPEN ∷ (parts ss ++ CLOSE ∷ [])
  bare (Postfix o s) = wrapped 21 (level s) (bare s) ++ update_token o ∷ []
  bare (Prefix o s) = update_token o ∷ wrapped 18 (level s) (bare s)
  bare (Unary o s) = unary_token o ∷ wrapped 18 (level s) (bare s)
  bare (Infix o x y) = wrapped (left_level o x) (level x) (bare x) ++ infix_token o ∷ wrapped (right_level o) (level y) (bare y)
  bare (Conditional x y z) = wrapped 6 (level x) (bare x) ++ QUESTION ∷ (wrapped 4 (level y) (bare y) ++ COLON ∷ wrapped 4 (level z) (bare z))
  bare (Assign o x y) = wrapped 21 (level x) (bare x) ++ assign_token o ∷ wrapped 4 (level y) (bare y)
  bare (Sequence x ss) = wrapped 4 (level x) (bare x) ++ COMMA ∷ parts ss

  -- of parts, with commas between them
  pub parts : Shapes → List Token
  parts none = []
  parts (also x ss) = wrapped 4 (level x) (bare x) ++ with_comma ss (parts ss)

-- at a level
abbrev pub printed : ℕ → Shape → List Token
printed k s = wrapped k (level s) (bare s)

abbrev pub is_none : Shapes → Bool
is_none none = true
is_none (also x ss) = false

-- names are no reserved words, what is assigned to may be, and a sequence has at least two parts
abbrev mutual
  pub IsSound : Shape → Type 0
  IsSound (One o) = IsUnreserved o
  IsSound (Array ss) = AreSound ss
  IsSound (New s ss) = IsSound s × AreSound ss
  IsSound (Member s w) = IsSound s
  IsSound (Index s x) = IsSound s × IsSound x
  IsSound (Call s ss) = IsSound s × AreSound ss
  IsSound (Postfix o s) = IsSound s × (is_target s ≡ true)
  IsSound (Prefix o s) = IsSound s × (is_target s ≡ true)
  IsSound (Unary o s) = IsSound s
  IsSound (Infix o x y) = IsSound x × IsSound y
  IsSound (Conditional x y z) = IsSound x × IsSound y × IsSound z
  IsSound (Assign o x y) = IsSound x × (is_target x ≡ true) × IsSound y
  IsSound (Sequence x ss) = IsSound x × (is_none ss ≡ false) × AreSound ss

  pub AreSound : Shapes → Type 0
  AreSound none = Unit {0}
  AreSound (also x ss) = IsSound x × AreSound ss
