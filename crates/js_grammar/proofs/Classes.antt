-- What a token is to one who reads an expression.
use Rattle.std.proofs.Common.{◌≡◌, ℕ, Bool, true, false, List, [], ◌∷◌, inl, inr, ◌⊎◌, bytes_eq, get_or, if◌then◌else◌, refl, sym, ap, ◌∙◌}
use Rattle.std.specs.Prelude.{codes}
use Rattle.syntax_lex.specs.Keyword.{is_reserved_keyword, reserved_keywords}
use Rattle.syntax_lex.specs.UnaryOperator as unary_text
use Rattle.syntax_lex.specs.declared.operator.assignment.AssignmentOperator.{AssignmentOperator}
use Rattle.syntax_lex.specs.declared.operator.assignment.AssignmentOperator.TheVariants as assign
use Rattle.syntax_lex.specs.declared.operator.binary.BinaryOperator.TheVariants as binary
use Rattle.syntax_lex.specs.declared.operator.logical.LogicalOperator.TheVariants as logical
use Rattle.syntax_lex.specs.declared.operator.unary.UnaryOperator.{UnaryOperator}
use Rattle.syntax_lex.specs.declared.operator.unary.UnaryOperator.TheVariants as unary
use Rattle.syntax_lex.specs.declared.operator.update.UpdateOperator.{UpdateOperator}
use Rattle.syntax_lex.specs.declared.operator.update.UpdateOperator.TheVariants as update
use Rattle.tree_nodes.proofs.Cases.{bytes_equal}
use Rattle.tree_nodes.specs.Tree.{Text}
use Rattle.js_grammar.specs.Derives.{IsUnreserved}
use Rattle.js_grammar.specs.Shapes.{Binary, Boolean, Logical, Name, Null, Operand, Operator, This, Units, Whole, infix_level}
use Rattle.js_grammar.specs.Tokens.{NEW, Number, Punct, Str, Token, Word, assign_token, infix_text, infix_token, operand_token, puncts, unary_token, update_token, written}

-- an expression by itself; brackets and separators; `new`; an operator before an expression, one that is also between two, one before or behind a target, one between two expressions, one of an assignment; another word
pub data Class : Type 0 where
  Alone : Operand → Class
  Opens : Class
  Closes : Class
  OpensSquare : Class
  ClosesSquare : Class
  Dots : Class
  Commas : Class
  Asks : Class
  Colons : Class
  News : Class
  Unaries : UnaryOperator → Class
  Signs : UnaryOperator → Operator → Class
  Updates : UpdateOperator → Class
  Infixes : Operator → Class
  Assigns : AssignmentOperator → Class
  Other : Text → Class

-- of the punctuators, in order
abbrev punct_classes : List Class
punct_classes =
    Opens ∷ Closes ∷ OpensSquare ∷ ClosesSquare ∷ Dots ∷ Commas ∷ Asks ∷ Colons
    ∷ Assigns assign.Assign ∷ Assigns assign.Addition ∷ Assigns assign.Subtraction ∷ Assigns assign.Multiplication
    ∷ Assigns assign.Division ∷ Assigns assign.Remainder ∷ Assigns assign.Exponential ∷ Assigns assign.ShiftLeft
    ∷ Assigns assign.ShiftRight ∷ Assigns assign.ShiftRightZeroFill ∷ Assigns assign.BitwiseOR ∷ Assigns assign.BitwiseXOR
    ∷ Assigns assign.BitwiseAnd ∷ Assigns assign.LogicalOr ∷ Assigns assign.LogicalAnd ∷ Assigns assign.LogicalNullish
    ∷ Infixes (Binary binary.Equality) ∷ Infixes (Binary binary.Inequality) ∷ Infixes (Binary binary.StrictEquality)
    ∷ Infixes (Binary binary.StrictInequality) ∷ Infixes (Binary binary.LessThan) ∷ Infixes (Binary binary.LessEqualThan)
    ∷ Infixes (Binary binary.GreaterThan) ∷ Infixes (Binary binary.GreaterEqualThan)
    ∷ Signs unary.UnaryPlus (Binary binary.Addition) ∷ Signs unary.UnaryNegation (Binary binary.Subtraction)
    ∷ Infixes (Binary binary.Multiplication) ∷ Infixes (Binary binary.Division) ∷ Infixes (Binary binary.Remainder)
    ∷ Infixes (Binary binary.Exponential) ∷ Infixes (Binary binary.ShiftLeft) ∷ Infixes (Binary binary.ShiftRight)
    ∷ Infixes (Binary binary.ShiftRightZeroFill) ∷ Infixes (Binary binary.BitwiseOR) ∷ Infixes (Binary binary.BitwiseXOR)
    ∷ Infixes (Binary binary.BitwiseAnd) ∷ Infixes (Logical logical.Or) ∷ Infixes (Logical logical.And)
    ∷ Infixes (Logical logical.Coalesce) ∷ Unaries unary.LogicalNot ∷ Unaries unary.BitwiseNot
    ∷ Updates update.Increment ∷ Updates update.Decrement ∷ []

-- of the reserved words that may stand in an expression
abbrev word_classes : List (Text × Class)
word_classes =
    (codes "this", Alone This) ∷ (codes "null", Alone Null) ∷ (codes "true", Alone (Boolean true)) ∷ (codes "false", Alone (Boolean false))
    ∷ (codes "new", News) ∷ (codes "typeof", Unaries unary.Typeof) ∷ (codes "void", Unaries unary.Void)
    ∷ (codes "delete", Unaries unary.Delete) ∷ (codes "in", Infixes (Binary binary.In))
    ∷ (codes "instanceof", Infixes (Binary binary.Instanceof)) ∷ []

abbrev listed_class : Text → List (Text × Class) → Class
listed_class w [] = Other w
listed_class w (e ∷ es) = if bytes_eq w e.0 then e.1 else listed_class w es

abbrev pub class_of : Token → Class
class_of (Word w) = if is_reserved_keyword w then listed_class w word_classes else Alone (Name w)
class_of (Punct n) = get_or punct_classes n (Other [])
class_of (Number n) = Alone (Whole n)
class_of (Str u) = Alone (Units u)

-- ---- the text of a word, from its class

abbrev operand_text : Operand → Text
operand_text (Name w) = w
operand_text This = codes "this"
operand_text Null = codes "null"
operand_text (Boolean true) = codes "true"
operand_text (Boolean false) = codes "false"
operand_text (Whole n) = []
operand_text (Units u) = []

abbrev pub text_of_class : Class → Text
text_of_class (Alone o) = operand_text o
text_of_class News = codes "new"
text_of_class (Unaries o) = unary_text.text_of o
text_of_class (Infixes o) = infix_text o
text_of_class (Other w) = w
text_of_class _ = []

abbrev HaveTheirTexts : List (Text × Class) → Type 0
HaveTheirTexts [] = Unit {0}
HaveTheirTexts (e ∷ es) = (text_of_class e.1 ≡ e.0) × HaveTheirTexts es

either_text : (b : Bool) (w text : Text) (c d : Class) → bytes_eq w text ≡ b → text_of_class c ≡ text → text_of_class d ≡ w → text_of_class (if b then c else d) ≡ w
either_text true w text c d h e f = e ∙ sym (bytes_equal w text h)
either_text false w text c d h e f = f

listed_text : (w : Text) (es : List (Text × Class)) → HaveTheirTexts es → text_of_class (listed_class w es) ≡ w
listed_text w [] h = refl
listed_text w (e ∷ es) h = either_text (bytes_eq w e.0) w e.0 e.1 (listed_class w es) refl h.0 (listed_text w es h.1)

word_text : (w : Text) (b : Bool) → text_of_class (if b then listed_class w word_classes else Alone (Name w)) ≡ w
word_text w true = listed_text w word_classes (refl, (refl, (refl, (refl, (refl, (refl, (refl, (refl, (refl, (refl, tt))))))))))
word_text w false = refl

pub text_of_word : (w : Text) → text_of_class (class_of (Word w)) ≡ w
text_of_word w = word_text w (is_reserved_keyword w)

-- ---- the classes of tokens

pub operand_class : (o : Operand) → IsUnreserved o → class_of (operand_token o) ≡ Alone o
unfolding is_reserved_keyword reserved_keywords
operand_class (Name w) h = ap (λ b. if b then listed_class w word_classes else Alone (Name w)) h
operand_class This h = refl
operand_class Null h = refl
operand_class (Boolean true) h = refl
operand_class (Boolean false) h = refl
operand_class (Whole n) h = refl
operand_class (Units u) h = refl

pub new_class : class_of NEW ≡ News
unfolding is_reserved_keyword reserved_keywords
new_class = refl

pub infix_class : (o : Operator) → (class_of (infix_token o) ≡ Infixes o) ⊎ ((u : UnaryOperator) × (class_of (infix_token o) ≡ Signs u o))
unfolding infix_token written puncts is_reserved_keyword reserved_keywords
infix_class (Binary binary.Addition) = inr (unary.UnaryPlus, refl)
infix_class (Binary binary.Subtraction) = inr (unary.UnaryNegation, refl)
infix_class (Logical logical.Or) = inl refl
infix_class _ = inl refl

pub unary_class : (o : UnaryOperator) → (class_of (unary_token o) ≡ Unaries o) ⊎ ((i : Operator) × (class_of (unary_token o) ≡ Signs o i))
unfolding unary_token written puncts is_reserved_keyword reserved_keywords
unary_class unary.UnaryPlus = inr (Binary binary.Addition, refl)
unary_class unary.UnaryNegation = inr (Binary binary.Subtraction, refl)
unary_class _ = inl refl

pub update_class : (o : UpdateOperator) → class_of (update_token o) ≡ Updates o
unfolding update_token written puncts
update_class update.Increment = refl
update_class update.Decrement = refl

pub assign_class : (o : AssignmentOperator) → class_of (assign_token o) ≡ Assigns o
unfolding assign_token written puncts
assign_class assign.Assign = refl
assign_class _ = refl

-- ---- the level of the row that goes on with a token; 0 where none does

abbrev pub goes_on : Class → ℕ
goes_on Dots = 22
goes_on OpensSquare = 22
goes_on Opens = 21
goes_on (Updates o) = 19
goes_on (Infixes o) = infix_level o
goes_on (Signs u o) = infix_level o
goes_on Asks = 5
goes_on (Assigns o) = 4
goes_on Commas = 1
goes_on _ = 0

pub infix_goes_on : (o : Operator) → goes_on (class_of (infix_token o)) ≡ infix_level o
infix_goes_on o = elim (infix_class o) [ inl e ↦ ap goes_on e | inr e ↦ ap goes_on e.1 ]
