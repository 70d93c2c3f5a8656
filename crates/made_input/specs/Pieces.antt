-- The made text in the pieces in which it is written.
use Rattle.std.specs.Prelude.{ℕ, zero, suc, Bool, true, List, [], ◌∷◌, ◌++◌, codes, decimal, if◌then◌else◌}

-- up to the number in a function's name, from there to that in the call, and the rest
abbrev pub before_name : List ℕ
before_name = codes "{\"type\":\"FunctionDeclaration\",\"start\":0,\"end\":0,\"id\":{\"type\":\"Identifier\",\"start\":0,\"end\":0,\"name\":\"f"

abbrev pub between_names : List ℕ
between_names = codes "\"},\"generator\":false,\"async\":false,\"params\":[{\"type\":\"Identifier\",\"start\":0,\"end\":0,\"name\":\"a\"}],\"body\":{\"type\":\"BlockStatement\",\"start\":0,\"end\":0,\"body\":[{\"type\":\"ReturnStatement\",\"start\":0,\"end\":0,\"argument\":{\"type\":\"CallExpression\",\"start\":0,\"end\":0,\"callee\":{\"type\":\"Identifier\",\"start\":0,\"end\":0,\"name\":\"f"

abbrev pub after_names : List ℕ
after_names = codes "\"},\"arguments\":[{\"type\":\"Identifier\",\"start\":0,\"end\":0,\"name\":\"a\"}],\"optional\":false}}]},\"expression\":false}"

-- the k-th function
unfoldable pub function_text : ℕ → List ℕ
function_text k = before_name ++ (decimal k ++ (between_names ++ (decimal k ++ after_names)))

abbrev pub comma_if : (later : Bool) → List ℕ
comma_if later = if later then 44 ∷ [] else []

-- n functions from the k-th on, with commas between them, and one before the first where it comes later in its list
abbrev pub functions_text : (later : Bool) (k n : ℕ) → List ℕ
functions_text later k zero = []
functions_text later k (suc n) = comma_if later ++ (function_text k ++ functions_text true (suc k) n)

-- up to the first function, and from the end of the last one on
abbrev pub before_functions : List ℕ
before_functions = codes "{\"type\":\"Program\",\"start\":0,\"end\":0,\"body\":["

abbrev pub after_functions : List ℕ
after_functions = codes "],\"sourceType\":\"module\",\"hashbang\":null}"
