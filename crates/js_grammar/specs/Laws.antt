-- The laws on printed expressions.
use Rattle.std.specs.Prelude.{◌≡◌, ◌≤◌, IfSome, List, length, map}
use Rattle.syntax_lex.specs.AssignmentOperator as assignment_text
use Rattle.syntax_lex.specs.BinaryOperator as binary_text
use Rattle.syntax_lex.specs.LogicalOperator as logical_text
use Rattle.syntax_lex.specs.UnaryOperator as unary_text
use Rattle.syntax_lex.specs.UpdateOperator as update_text
use Rattle.tree_nodes.specs.Table.{word_list}
use Rattle.tree_nodes.specs.Tree.{Tree}
use Rattle.tree_nodes.specs.declared.table.Words.TheVariants.{AssignmentOperators, BinaryOperators, LogicalOperators, UnaryOperators, UpdateOperators}
use Rattle.js_grammar.specs.Derives.{Derives}
use Rattle.js_grammar.specs.Expressions.{assignment_operators, binary_operators, logical_operators, shape_of, unary_operators, update_operators}
use Rattle.js_grammar.specs.Printed.{IsSound, printed}
use Rattle.js_grammar.specs.Shapes.{Shape}
use Rattle.js_grammar.specs.Tokens.{Token}

-- the tokens are no other expression
abbrev pub AreNoOther : List Token → Shape → Type 0
AreNoOther ts s = (other : Shape) → Derives 1 ts other → other ≡ s

-- no tokens that are the expression are fewer
abbrev pub AreFewest : List Token → Shape → Type 0
AreFewest ts s = (others : List Token) → Derives 1 others s → length ts ≤ length others

-- the printed tokens of an expression are that expression
abbrev pub PrintedTokensDerive : Type 0
PrintedTokensDerive = (s : Shape) → IsSound s → Derives 1 (printed 1 s) s

-- tokens are at most one expression
abbrev pub TokensDeriveOneShape : Type 0
TokensDeriveOneShape = (ts : List Token) (x y : Shape) → Derives 1 ts x → Derives 1 ts y → x ≡ y

-- no tokens that are the expression are fewer than the printed ones
abbrev pub PrintedTokensAreFewest : Type 0
PrintedTokensAreFewest = (s : Shape) → AreFewest (printed 1 s) s

-- of an expression in a tree that has a shape: names are no reserved words, targets may be assigned to, and sequences have two parts or more
abbrev pub ShapesAreSound : Type 0
ShapesAreSound = (t : Tree) → IfSome (shape_of t) IsSound

-- the operators of each kind of node are its words in the node table, in order
pub record OperatorsAreTheWords : Type 0 where
  pub assignment : map assignment_text.text_of assignment_operators ≡ word_list AssignmentOperators
  pub binary : map binary_text.text_of binary_operators ≡ word_list BinaryOperators
  pub logical : map logical_text.text_of logical_operators ≡ word_list LogicalOperators
  pub unary : map unary_text.text_of unary_operators ≡ word_list UnaryOperators
  pub update : map update_text.text_of update_operators ≡ word_list UpdateOperators
