-- Scopes, and which lies inside which (ECMA-262, Environment Records, has them as a chain of outer environments).
use Rattle.std.specs.Prelude.{ℕ, Bool, false, not, ◌&&◌, ◌||◌, List, [], ◌∷◌, Option, Some, None, bytes_eq}

-- a scope is the numbers of the scopes from itself outwards: its own number first, the root's last
abbrev pub Scope : Type 0
Scope = List ℕ

-- a scope's own number, as a list of it, and none of no scope
unfoldable pub number_of : Scope → List ℕ
number_of [] = []
number_of (n ∷ outer) = n ∷ []

unfoldable pub same_scope : Scope → Scope → Bool
same_scope = bytes_eq

-- the first is the second, or lies inside it
unfoldable pub is_inside : Scope → Scope → Bool
is_inside [] outer = same_scope [] outer
is_inside (n ∷ further) outer = same_scope (n ∷ further) outer || is_inside further outer

-- the first answer from a scope outwards
unfoldable pub first_outwards : {X : Type 0} → (Scope → Option X) → Scope → Option X
first_outwards f [] = None
first_outwards f (n ∷ further) = elim (f (n ∷ further)) [ Some x ↦ Some x | None ↦ first_outwards f further ]

-- a scope passes that lies inside home, at this one or further out
unfoldable pub any_below : (Scope → Bool) → Scope → Scope → Bool
any_below test home [] = false
any_below test home (n ∷ further) = not (same_scope (n ∷ further) home) && (test (n ∷ further) || any_below test home further)
