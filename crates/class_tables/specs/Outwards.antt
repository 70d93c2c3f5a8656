-- Class bodies by number, each with the next one outwards.
use Rattle.std.specs.Prelude.{◌≡◌, ◌<◌, ℕ, zero, suc, List, [], ◌∷◌, Option, Some, None, slice_get}
use Rattle.scope_rules.specs.Bindings.{or_else}
use Rattle.place_list.specs.declared.tables.ClassEntry.{ClassEntry}

-- from k outwards, as far as so many steps go
unfoldable pub steps : (ℕ → Option ℕ) → ℕ → ℕ → List ℕ
steps next zero k = []
steps next (suc n) k = k ∷ elim (next k) [ None ↦ [] | Some p ↦ steps next n p ]

-- from k outwards to the end, where numbers fall
unfoldable pub chain : (ℕ → Option ℕ) → ℕ → List ℕ
chain next k = steps next (suc k) k

-- the same from what may be none
unfoldable pub chain_from : (ℕ → Option ℕ) → Option ℕ → List ℕ
chain_from next None = []
chain_from next (Some k) = chain next k

abbrev pub Falls : (ℕ → Option ℕ) → Type 0
Falls next = (k p : ℕ) → next k ≡ Some p → p < k

-- the next class body outwards, by a table of them
unfoldable pub outer : List ClassEntry → ℕ → Option ℕ
outer bodies k = elim (slice_get bodies k) [ None ↦ None | Some e ↦ e.parent ]

-- the first answer
unfoldable pub nearest : {X : Type 0} → (ℕ → Option X) → List ℕ → Option X
nearest f [] = None
nearest f (c ∷ cs) = or_else (f c) (nearest f cs)
