-- The program that is made as an input: a module of functions, each of which takes a parameter and calls itself with it.
use Rattle.std.specs.Prelude.{ℕ, zero, suc, false, List, ◌++◌, codes, decimal}
use Rattle.json_text.specs.Layout.{compact}
use Rattle.json_text.specs.Text.{text_of}
use Rattle.tree_core.specs.Values.{value_of}
use Rattle.tree_nodes.specs.Tree.{Parts, Text, Tree, atom, child, done, empty, flag, many, text, word}
use Rattle.tree_nodes.specs.declared.kind.Kind.TheVariants.{BlockStatement, CallExpression, FunctionDeclaration, Identifier, Program, ReturnStatement}

-- the name of the k-th function, from 0: f0, f1 and so on
unfoldable pub function_name : ℕ → Text
function_name k = codes "f" ++ decimal k

-- an Identifier of this name, and the rest
abbrev pub identifier : Text → Parts → Parts
identifier x more = child Identifier 0 0 (atom (text x) done) more

abbrev pub parameter : Text
parameter = codes "a"

-- `f(a)`
abbrev pub call : (f : Text) → Parts
call f = child CallExpression 0 0 (identifier f (many (identifier parameter done) (atom (flag false) done))) done

-- `return f(a)`
abbrev pub returned : (f : Text) → Parts
returned f = child ReturnStatement 0 0 (call f) done

-- of `function f(a) { return f(a) }`, neither async nor a generator
abbrev pub function_fields : (f : Text) → Parts
function_fields f =
    identifier f (atom (flag false) (atom (flag false) (many (identifier parameter done)
    (child BlockStatement 0 0 (many (returned f) done) (atom (flag false) done)))))

-- n functions, from the k-th on
abbrev pub functions : (k n : ℕ) → Parts
functions k zero = done
functions k (suc n) = child FunctionDeclaration 0 0 (function_fields (function_name k)) (functions (suc k) n)

-- the module of n functions, which all start and end at 0
unfoldable pub made_tree : ℕ → Tree
made_tree n = record { kind = Program; start = 0; stop = 0; fields = many (functions 0 n) (atom (word 1) (atom empty done)) }

-- its value as JSON, as this project prints it, with no white space
unfoldable pub made_text : ℕ → List ℕ
made_text n = text_of compact (value_of (made_tree n))
