-- What places are called by the names of symbols and the new private names of classes.
use Rattle.std.specs.Prelude.{◌<◌, ◌^◌, ℕ, suc, List, [], ◌∷◌, length, Option, Some, None, if◌then◌else◌}
use Rattle.std.specs.Option.{unwrap_or}
use Rattle.scope_rules.specs.Bindings.{same_name}
use Rattle.scope_rules.specs.PrivateNames.{declaring_class}
use Rattle.scope_rules.specs.Symbols.{symbol_of}
use Rattle.tree_nodes.specs.Tree.{Text}
use Rattle.tree_places.specs.Places.{Place}

-- a place of a symbol by the symbol's name, which is its own where none is set; a private name by the new name that the class which declares it has for it, if it has one; all others by their own
unfoldable pub applied : List Place → (name : ℕ → Option Text) → (private : ℕ → Text → Option Text) → Place → Text
applied ps name private p =
    if p.site.private then elim (declaring_class ps p.name p.site.setting.classes) [ None ↦ p.name | Some c ↦ unwrap_or (private c p.name) p.name ]
    else elim (symbol_of same_name ps p) [ None ↦ p.name | Some k ↦ unwrap_or (name k) p.name ]

-- ---- the names that are given anew

-- a name, where it differs from another
unfoldable pub differing : Text → Text → Option Text
differing x y = if same_name x y then None else Some x

unfoldable pub private_new : List Place → (ℕ → Text → Option Text) → Place → Option Text
private_new ps private p = elim (declaring_class ps p.name p.site.setting.classes) [ None ↦ None | Some c ↦ private c p.name ]

unfoldable pub symbol_new : List Place → (ℕ → Option Text) → Place → Option Text
symbol_new ps name p = elim (symbol_of same_name ps p) [ None ↦ None | Some k ↦ differing (unwrap_or (name k) p.name) p.name ]

-- the new name of a place, if it gets one
unfoldable pub new_of : List Place → (ℕ → Option Text) → (ℕ → Text → Option Text) → Place → Option Text
new_of ps name private p = if p.site.private then private_new ps private p else symbol_new ps name p

-- at most 4,294,967,295 bytes
abbrev pub HasFewBytes : Text → Type 0
HasFewBytes x = length x < 2 ^ 32

-- of these new names, some of which are none: those that are some, and of each its number among them from n on
unfoldable pub taken : List (Option Text) → List Text
taken [] = []
taken (None ∷ os) = taken os
taken (Some x ∷ os) = x ∷ taken os

unfoldable pub numbered : ℕ → List (Option Text) → List (Option ℕ)
numbered n [] = []
numbered n (None ∷ os) = None ∷ numbered n os
numbered n (Some x ∷ os) = Some n ∷ numbered (suc n) os
