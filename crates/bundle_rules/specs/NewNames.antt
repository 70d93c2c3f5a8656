-- Which bindings of the roots need new names where modules come into one scope, and which names these are.
use Rattle.std.specs.Prelude.{◌≡◌, ◌≤◌, ◌<◌, ℕ, Bool, ◌&&◌, ◌||◌, nat_eq, List, [], ◌∷◌, ◌++◌, map, filter, Option, Some, None, codes, decimal, IsTrue, IsFalse, ⊤, if◌then◌else◌}
use Rattle.std.specs.List.{list_any}
use Rattle.bundle_rules.specs.Mentions.{Mention}
use Rattle.scope_rules.specs.Bindings.{or_else, same_name}
use Rattle.scope_rules.specs.PrivateNames.{is_among}
use Rattle.tree_nodes.specs.Tree.{Text}
use Rattle.tree_places.specs.Chosen.{or_own}

-- the mentions of each module
abbrev pub Modules : Type 0
Modules = List (List Mention)

-- one that passes has this name, among these and in some module
unfoldable pub is_named : (Mention → Bool) → List Mention → Text → Bool
is_named test ms x = list_any (λ m. test m && same_name m.name x) ms

unfoldable pub is_named_in : (Mention → Bool) → Modules → Text → Bool
is_named_in test modules x = list_any (λ ms. is_named test ms x) modules

-- a binding of the root needs a new name where a module before its own has such a binding of its name, or another module a reference of its name without a binding. In its own module there is none, since all of it lies in the root: so all modules may be asked
unfoldable pub needs_new_name : (all before : Modules) → Mention → Bool
needs_new_name all before m = m.root && (is_named_in (λ q. q.root) before m.name || is_named_in (λ q. q.unresolved) all m.name)

unfoldable pub needing : (all before : Modules) → List Mention → List Mention
needing all before ms = filter (needs_new_name all before) ms

-- ---- new names

-- a name, `$` and a number
unfoldable pub numbered : Text → ℕ → Text
numbered x k = x ++ (codes "$" ++ decimal k)

-- it stands at a variable place of some module, or was given before
unfoldable pub is_taken : Modules → (given : List Text) → Text → Bool
is_taken all given x = is_named_in (λ m. m.variable) all x || is_among given x

-- k is the least number from 1 under which the name isn't taken
pub record IsLeast (taken : Text → Bool) (x : Text) (k : ℕ) : Type 0 where
  pub from_one : 1 ≤ k
  pub free : IsFalse (taken (numbered x k))
  pub least : (j : ℕ) → 1 ≤ j → j < k → IsTrue (taken (numbered x j))

-- the new name of x, after those that were given
abbrev pub IsNewName : Modules → (given : List Text) → (x new : Text) → Type 0
IsNewName all given x new = (k : ℕ) × IsLeast (is_taken all given) x k × (new ≡ numbered x k)

-- the new names of these mentions, one each, in turn
abbrev pub AreNewNames : Modules → (given : List Text) → List Mention → (new : List Text) → Type 0
AreNewNames all given [] [] = ⊤
AreNewNames all given [] (x ∷ xs) = ⊥
AreNewNames all given (m ∷ ms) [] = ⊥
AreNewNames all given (m ∷ ms) (x ∷ xs) = IsNewName all given m.name x × AreNewNames all (given ++ x ∷ []) ms xs

-- ---- names under new names

-- the new name of the binding n, if it is one of these, which have these names. No two are one node, so the last may be taken
unfoldable pub new_name : List Mention → List Text → ℕ → Option Text
new_name [] xs n = None
new_name (m ∷ ms) [] n = None
new_name (m ∷ ms) (x ∷ xs) n = or_else (new_name ms xs n) (if nat_eq m.node n then Some x else None)

unfoldable pub name_given : List Mention → List Text → Option ℕ → Option Text
name_given ms xs None = None
name_given ms xs (Some n) = new_name ms xs n

-- the names of all places of a module: that of the binding if it is new, else its own
unfoldable pub names_after : (needing : List Mention) → List Text → List Mention → List Text
names_after needing xs ms = map (λ m. or_own (name_given needing xs m.binding) m.name) ms
