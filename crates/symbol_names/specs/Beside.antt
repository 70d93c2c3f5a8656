-- What stands beside the items that pass a test.
use Rattle.std.specs.Prelude.{ℕ, suc, Bool, List, [], ◌∷◌, map, get_or, slice_get, Option, Some, None, if◌then◌else◌}
use Rattle.scope_rules.specs.Bindings.{same_name}
use Rattle.scope_rules.specs.Symbols.{is_symbol}
use Rattle.tree_nodes.specs.Tree.{Text}
use Rattle.tree_places.specs.Places.{Place}

-- what a function has at the numbers of those that pass, if the first has the number n
unfoldable pub beside : {X : Type 0} → (passes : List Bool) → (ℕ → X) → ℕ → List X
beside [] f n = []
beside (b ∷ bs) f n = if b then f n ∷ beside bs f (suc n) else beside bs f (suc n)

-- the name that the i-th of these choices gives, if it gives one
unfoldable pub name_at : (names : List Text) → (choices : List (Option ℕ)) → ℕ → Option Text
name_at names cs i = elim (get_or cs i None) [ None ↦ None | Some n ↦ slice_get names n ]

-- of each place whether it is a symbol
abbrev pub symbol_flags : List Place → List Bool
symbol_flags ps = map (is_symbol same_name ps) ps
