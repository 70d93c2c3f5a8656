-- Which tokens are which expression, by levels of binding (ECMA-262, 13): a row of the grammar holds for each level up to its own.
use Rattle.std.specs.Prelude.{ℕ, suc, ◌≤◌, ◌≡◌, false, true, List, [], ◌∷◌, ◌++◌}
use Rattle.syntax_lex.specs.Keyword.{is_reserved_keyword}
use Rattle.syntax_lex.specs.declared.operator.assignment.AssignmentOperator.{AssignmentOperator}
use Rattle.syntax_lex.specs.declared.operator.unary.UnaryOperator.{UnaryOperator}
use Rattle.syntax_lex.specs.declared.operator.update.UpdateOperator.{UpdateOperator}
use Rattle.tree_nodes.specs.Tree.{Text}
use Rattle.js_grammar.specs.Shapes.{Array, Assign, COALESCE, Call, Conditional, EXPONENTIAL, Index, Infix, Member, Name, New, One, Operand, Operator, Postfix, Prefix, Sequence, Shape, Shapes, Unary, also, groups_left, infix_level, is_target, none}
use Rattle.js_grammar.specs.Tokens.{CLOSE, CLOSE_SQUARE, COLON, COMMA, DOT, NEW, OPEN, OPEN_SQUARE, QUESTION, Token, Word, assign_token, infix_token, operand_token, unary_token, update_token}

-- a name is no reserved word
abbrev pub IsUnreserved : Operand → Type 0
IsUnreserved (Name w) = is_reserved_keyword w ≡ false
IsUnreserved _ = Unit {0}

mutual
  -- the tokens are the expression, at this level
  pub data Derives : ℕ → List Token → Shape → Type 0 where
    operand : {k : ℕ} {o : Operand} → k ≤ 23 → IsUnreserved o → Derives k (operand_token o ∷ []) (One o)
    parentheses : {k : ℕ} {ts : List Token} {s : Shape} → k ≤ 23 → Derives 1 ts s → Derives k (OPEN ∷ (ts ++ CLOSE ∷ [])) s
    array : {k : ℕ} {ts : List Token} {ss : Shapes} → k ≤ 23 → Listed ts ss → Derives k (OPEN_SQUARE ∷ (ts ++ CLOSE_SQUARE ∷ [])) (Array ss)
    new : {k : ℕ} {ts us : List Token} {s : Shape} {ss : Shapes} → k ≤ 22 → Derives 22 ts s → Listed us ss → Derives k (NEW ∷ (ts ++ OPEN ∷ (us ++ CLOSE ∷ []))) (New s ss)
    -- one row at 22 and one at 21, with the object at the row's own level: so the callee of `new` holds no call that stands bare
    member : {k l : ℕ} {ts : List Token} {s : Shape} {w : Text} → k ≤ l → 21 ≤ l → l ≤ 22 → Derives l ts s → Derives k (ts ++ DOT ∷ Word w ∷ []) (Member s w)
    index : {k l : ℕ} {ts us : List Token} {s x : Shape} → k ≤ l → 21 ≤ l → l ≤ 22 → Derives l ts s → Derives 1 us x → Derives k (ts ++ OPEN_SQUARE ∷ (us ++ CLOSE_SQUARE ∷ [])) (Index s x)
    call : {k : ℕ} {ts us : List Token} {s : Shape} {ss : Shapes} → k ≤ 21 → Derives 21 ts s → Listed us ss → Derives k (ts ++ OPEN ∷ (us ++ CLOSE ∷ [])) (Call s ss)
    postfix : {k : ℕ} {o : UpdateOperator} {ts : List Token} {s : Shape} → k ≤ 19 → Derives 21 ts s → is_target s ≡ true → Derives k (ts ++ update_token o ∷ []) (Postfix o s)
    prefix : {k : ℕ} {o : UpdateOperator} {ts : List Token} {s : Shape} → k ≤ 18 → Derives 18 ts s → is_target s ≡ true → Derives k (update_token o ∷ ts) (Prefix o s)
    unary : {k : ℕ} {o : UnaryOperator} {ts : List Token} {s : Shape} → k ≤ 18 → Derives 18 ts s → Derives k (unary_token o ∷ ts) (Unary o s)
    power : {k : ℕ} {a b : List Token} {x y : Shape} → k ≤ 17 → Derives 19 a x → Derives 17 b y → Derives k (a ++ infix_token EXPONENTIAL ∷ b) (Infix EXPONENTIAL x y)
    -- of levels 7 to 16
    between : {k : ℕ} {o : Operator} {a b : List Token} {x y : Shape} → groups_left o ≡ true → k ≤ infix_level o → Derives (infix_level o) a x → Derives (suc (infix_level o)) b y → Derives k (a ++ infix_token o ∷ b) (Infix o x y)
    coalescing : {k : ℕ} {ts : List Token} {s : Shape} → k ≤ 6 → Coalesces ts s → Derives k ts s
    conditional : {k : ℕ} {a b c : List Token} {x y z : Shape} → k ≤ 5 → Derives 6 a x → Derives 4 b y → Derives 4 c z → Derives k (a ++ QUESTION ∷ (b ++ COLON ∷ c)) (Conditional x y z)
    assignment : {k : ℕ} {o : AssignmentOperator} {a b : List Token} {x y : Shape} → k ≤ 4 → Derives 21 a x → is_target x ≡ true → Derives 4 b y → Derives k (a ++ assign_token o ∷ b) (Assign o x y)
    sequence : {k : ℕ} {a b : List Token} {x : Shape} {ss : Shapes} → k ≤ 1 → Derives 4 a x → Parts b ss → Derives k (a ++ COMMA ∷ b) (Sequence x ss)

  -- a row of `??` with no parentheses around it: what stands left of one is another such row, or binds more tightly than `&&` and `||`
  pub data Coalesces : List Token → Shape → Type 0 where
    first : {a b : List Token} {x y : Shape} → Derives 9 a x → Derives 9 b y → Coalesces (a ++ infix_token COALESCE ∷ b) (Infix COALESCE x y)
    next : {a b : List Token} {x y : Shape} → Coalesces a x → Derives 9 b y → Coalesces (a ++ infix_token COALESCE ∷ b) (Infix COALESCE x y)

  -- one expression or more, with commas between them
  pub data Parts : List Token → Shapes → Type 0 where
    last : {a : List Token} {x : Shape} → Derives 4 a x → Parts a (also x none)
    more : {a b : List Token} {x : Shape} {ss : Shapes} → Derives 4 a x → Parts b ss → Parts (a ++ COMMA ∷ b) (also x ss)

  -- any number of them
  pub data Listed : List Token → Shapes → Type 0 where
    nothing : Listed [] none
    some : {ts : List Token} {ss : Shapes} → Parts ts ss → Listed ts ss
