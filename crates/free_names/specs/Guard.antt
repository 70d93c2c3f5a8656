-- Which names a guard refuses (ECMA-262, Keywords and Reserved Words).
use Rattle.std.specs.Prelude.{◌≡◌, Bool, ◌||◌, List}
use Rattle.name_rules.specs.Kept.{name_arguments}
use Rattle.syntax_lex.specs.Keyword.{is_reserved_keyword}
use Rattle.tree_nodes.specs.Tree.{Text}
use Rattle.scope_rules.specs.Bindings.{same_name}
use Rattle.scope_rules.specs.Evals.{name_eval}
use Rattle.scope_rules.specs.PrivateNames.{is_among}

-- a reserved keyword, `eval` or `arguments`
unfoldable pub is_never_given : Text → Bool
is_never_given x = is_reserved_keyword x || same_name x name_eval || same_name x name_arguments

-- these, and the names that were inserted
unfoldable pub is_refused : (inserted : List Text) → Text → Bool
is_refused inserted x = is_never_given x || is_among inserted x

-- the new names are the old ones and x
abbrev pub HasAlso : (old : List Text) → Text → (new : List Text) → Type 0
HasAlso old x new = (y : Text) → is_among new y ≡ (same_name x y || is_among old y)
