-- Tokens of JavaScript, and how they are written.
use Rattle.std.specs.Coded.{Coded, code_by, coded×, coded_list, coded_ℕ}
use Rattle.std.specs.Fmt.{decimal}
use Rattle.std.specs.List.{join_with_byte, position}
use Rattle.std.specs.Prelude.{◌≡◌, ℕ, ◌==◌, true, false, List, [], ◌∷◌, Some, None, bytes_eq, codes, get_or, map, refl, if◌then◌else◌}
use Rattle.json_text.specs.Strings.{quoted_units}
use Rattle.syntax_lex.specs.AssignmentOperator as assignment
use Rattle.syntax_lex.specs.BinaryOperator as binary
use Rattle.syntax_lex.specs.LogicalOperator as logical
use Rattle.syntax_lex.specs.UnaryOperator as unary_operator
use Rattle.syntax_lex.specs.UpdateOperator as update_operator
use Rattle.syntax_lex.specs.declared.operator.assignment.AssignmentOperator.{AssignmentOperator}
use Rattle.syntax_lex.specs.declared.operator.unary.UnaryOperator.{UnaryOperator}
use Rattle.syntax_lex.specs.declared.operator.update.UpdateOperator.{UpdateOperator}
use Rattle.tree_nodes.specs.Tree.{Text}
use Rattle.js_grammar.specs.Shapes.{Binary, Boolean, Logical, Name, Null, Operand, Operator, This, Units, Whole}

-- a word, a punctuator by its number in the list below, a whole number, a string of code units
pub data Token : Type 0 where
  Word : Text → Token
  Punct : ℕ → Token
  Number : ℕ → Token
  Str : List ℕ → Token

-- brackets and separators, then the operators that are no words: of assignments, binary, logical, unary and update ones, each once
unfoldable pub puncts : List Text
puncts =
    codes "(" ∷ codes ")" ∷ codes "[" ∷ codes "]" ∷ codes "." ∷ codes "," ∷ codes "?" ∷ codes ":"
    ∷ codes "=" ∷ codes "+=" ∷ codes "-=" ∷ codes "*=" ∷ codes "/=" ∷ codes "%=" ∷ codes "**=" ∷ codes "<<="
    ∷ codes ">>=" ∷ codes ">>>=" ∷ codes "|=" ∷ codes "^=" ∷ codes "&=" ∷ codes "||=" ∷ codes "&&=" ∷ codes "??="
    ∷ codes "==" ∷ codes "!=" ∷ codes "===" ∷ codes "!==" ∷ codes "<" ∷ codes "<=" ∷ codes ">" ∷ codes ">="
    ∷ codes "+" ∷ codes "-" ∷ codes "*" ∷ codes "/" ∷ codes "%" ∷ codes "**" ∷ codes "<<" ∷ codes ">>" ∷ codes ">>>"
    ∷ codes "|" ∷ codes "^" ∷ codes "&"
    ∷ codes "||" ∷ codes "&&" ∷ codes "??"
    ∷ codes "!" ∷ codes "~"
    ∷ codes "++" ∷ codes "--" ∷ []

-- the token that is written so: a punctuator, or a word where there is no such punctuator
unfoldable pub written : Text → Token
written text = elim (position (bytes_eq text) puncts) [ Some n ↦ Punct n | None ↦ Word text ]

abbrev pub OPEN : Token
OPEN = Punct 0

abbrev pub CLOSE : Token
CLOSE = Punct 1

abbrev pub OPEN_SQUARE : Token
OPEN_SQUARE = Punct 2

abbrev pub CLOSE_SQUARE : Token
CLOSE_SQUARE = Punct 3

abbrev pub DOT : Token
DOT = Punct 4

abbrev pub COMMA : Token
COMMA = Punct 5

abbrev pub QUESTION : Token
QUESTION = Punct 6

abbrev pub COLON : Token
COLON = Punct 7

abbrev pub NEW : Token
NEW = Word (codes "new")

abbrev pub infix_text : Operator → Text
infix_text (Binary o) = binary.text_of o
infix_text (Logical o) = logical.text_of o

unfoldable pub infix_token : Operator → Token
infix_token o = written (infix_text o)

unfoldable pub unary_token : UnaryOperator → Token
unary_token o = written (unary_operator.text_of o)

unfoldable pub update_token : UpdateOperator → Token
update_token o = written (update_operator.text_of o)

unfoldable pub assign_token : AssignmentOperator → Token
assign_token o = written (assignment.text_of o)

abbrev pub operand_token : Operand → Token
operand_token (Name w) = Word w
operand_token This = Word (codes "this")
operand_token Null = Word (codes "null")
operand_token (Boolean true) = Word (codes "true")
operand_token (Boolean false) = Word (codes "false")
operand_token (Whole n) = Number n
operand_token (Units u) = Str u

-- as JSON writes it, where it is a string: a lone surrogate is escaped
unfoldable pub spelling : Token → Text
spelling (Word w) = w
spelling (Punct n) = get_or puncts n []
spelling (Number n) = decimal n
spelling (Str u) = quoted_units u

-- with a space between each two
unfoldable pub text_of_tokens : List Token → Text
text_of_tokens ts = join_with_byte 32 (map spelling ts)

-- ---- for models

abbrev as_numbers : Token → ℕ × (ℕ × List ℕ)
as_numbers (Word w) = (0, (0, w))
as_numbers (Punct n) = (1, (n, []))
as_numbers (Number n) = (2, (n, []))
as_numbers (Str u) = (3, (0, u))

abbrev from_numbers : ℕ × (ℕ × List ℕ) → Token
from_numbers t =
    if t.0 == 0 then Word t.1.1 else
    (if t.0 == 1 then Punct t.1.0 else
    (if t.0 == 2 then Number t.1.0 else Str t.1.1))

pub from_as_numbers : (t : Token) → from_numbers (as_numbers t) ≡ t
from_as_numbers (Word w) = refl
from_as_numbers (Punct n) = refl
from_as_numbers (Number n) = refl
from_as_numbers (Str u) = refl

abbrev pub coded_tokens : Coded (List Token)
coded_tokens = coded_list (code_by (ℕ × (ℕ × List ℕ)) (coded× coded_ℕ (coded× coded_ℕ (coded_list coded_ℕ))) as_numbers from_numbers from_as_numbers)
