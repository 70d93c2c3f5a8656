-- Reserved words (ECMA-262, 12.7.2) and value properties of the global object (ECMA-262, 19.1). A text is its bytes.
use Rattle.std.specs.Prelude.{ℕ, Bool, true, ◌&&◌, List, [], ◌∷◌, codes, nat_eq}
use Rattle.std.specs.Cmp.Lexicographic.{pointwise, slice_cmp}
use Rattle.std.specs.List.{list_any}
use Rattle.std.specs.Ordering.{is_lt, nat_cmp}

-- words, and of these 'let' and 'static', 'await' and 'yield', and the future reserved words are so in some contexts alone
unfoldable pub reserved_keywords : List (List ℕ)
reserved_keywords =
    codes "await" ∷ codes "break" ∷ codes "case" ∷ codes "catch" ∷ codes "class" ∷ codes "const" ∷ codes "continue"
    ∷ codes "debugger" ∷ codes "default" ∷ codes "delete" ∷ codes "do" ∷ codes "else" ∷ codes "enum" ∷ codes "export"
    ∷ codes "extends" ∷ codes "false" ∷ codes "finally" ∷ codes "for" ∷ codes "function" ∷ codes "if"
    ∷ codes "implements" ∷ codes "import" ∷ codes "in" ∷ codes "instanceof" ∷ codes "interface" ∷ codes "let"
    ∷ codes "new" ∷ codes "null" ∷ codes "package" ∷ codes "private" ∷ codes "protected" ∷ codes "public"
    ∷ codes "return" ∷ codes "static" ∷ codes "super" ∷ codes "switch" ∷ codes "this" ∷ codes "throw" ∷ codes "true"
    ∷ codes "try" ∷ codes "typeof" ∷ codes "var" ∷ codes "void" ∷ codes "while" ∷ codes "with" ∷ codes "yield" ∷ []

unfoldable pub global_objects : List (List ℕ)
global_objects = codes "Infinity" ∷ codes "NaN" ∷ codes "globalThis" ∷ codes "undefined" ∷ []

-- a text is one of these
abbrev pub is_among : List (List ℕ) → List ℕ → Bool
is_among words text = list_any (λ word. pointwise nat_eq word text) words

unfoldable pub is_reserved_keyword : List ℕ → Bool
is_reserved_keyword text = is_among reserved_keywords text

unfoldable pub is_global_object : List ℕ → Bool
is_global_object text = is_among global_objects text

-- each text is before the next one, byte by byte
abbrev pub are_rising : List (List ℕ) → Bool
are_rising [] = true
are_rising (text ∷ []) = true
are_rising (text ∷ next ∷ texts) = is_lt (slice_cmp nat_cmp text next) && are_rising (next ∷ texts)
