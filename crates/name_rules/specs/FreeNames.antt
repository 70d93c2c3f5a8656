-- Which names may be given (ECMA-262, Keywords and Reserved Words).
use Rattle.std.specs.Prelude.{ℕ, zero, suc, Bool, true, false, not, ◌&&◌, ◌||◌, nat_eq, List, [], ◌∷◌, take, is_some}
use Rattle.std.specs.List.{list_all, list_any}
use Rattle.name_rules.specs.Groups.{Member}
use Rattle.name_rules.specs.Kept.{is_reserved}
use Rattle.name_rules.specs.Options.{Options}
use Rattle.name_rules.specs.ShortNames.{characters}
use Rattle.syntax_lex.specs.Keyword.{is_reserved_keyword}
use Rattle.tree_nodes.specs.Tree.{Text}
use Rattle.scope_rules.specs.Bindings.{same_name}
use Rattle.scope_rules.specs.Evals.{name_eval}
use Rattle.scope_rules.specs.Homes.{declares, refers}

-- a variable place declares or refers
unfoldable pub is_variable : Member → Bool
is_variable m = declares m.place.site || refers m.place.site

-- a variable place that keeps its name: it has no binding, or a kept one
unfoldable pub is_unchanged : Member → Bool
is_unchanged m = is_variable m && not (is_some m.group)

-- a name that must not be given: a reserved keyword, `eval`, `arguments`, a reserved name, and what a place anywhere in the tree keeps as its name
unfoldable pub is_taken : Options → List Member → Text → Bool
is_taken o ms x =
    is_reserved_keyword x || same_name x name_eval || is_reserved o x
    || list_any (λ m. is_unchanged m && same_name m.place.name x) ms

-- names of the 64 characters, the first one of the first 54
unfoldable pub is_spelled : Text → Bool
is_spelled [] = false
is_spelled (c ∷ cs) = list_any (nat_eq c) (take 54 characters) && list_all (λ d. list_any (nat_eq d) characters) cs

unfoldable pub is_free : Options → List Member → Text → Bool
is_free o ms x = is_spelled x && not (is_taken o ms x)

-- the first n candidates, from the k-th on, that aren't taken. Fuel is how many are asked
unfoldable pub first_untaken : (ℕ → Text) → (Text → Bool) → (fuel : ℕ) → ℕ → ℕ → List Text
first_untaken candidate taken zero n k = []
first_untaken candidate taken (suc fuel) zero k = []
first_untaken candidate taken (suc fuel) (suc n) k =
    elim (taken (candidate k)) [ true ↦ first_untaken candidate taken fuel (suc n) (suc k) | false ↦ candidate k ∷ first_untaken candidate taken fuel n (suc k) ]
