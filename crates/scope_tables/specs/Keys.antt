-- What a map has at a name within a scope or class body.
use Rattle.std.specs.Prelude.{◌≡◌, ℕ, suc, Bool, ◌&&◌, nat_eq, Option, Some, None, if◌then◌else◌}
use Rattle.std.specs.BTreeMap.{BTreeMap, get_by, is_at}
use Rattle.std.specs.Ordering.{nat_cmp, ordering_then}
use Rattle.std.specs.declared.cmp.Ordering.{Ordering}
use Rattle.scope_rules.specs.Bindings.{or_else}
use Rattle.scope_tables.specs.declared.key.Key.{Key}

-- one number for none, and one for each number
unfoldable pub number_from : Option ℕ → ℕ
number_from None = 0
number_from (Some n) = suc n

-- how the name x within s lies to a key in their order
abbrev pub key_order : ℕ → ℕ → Key → Ordering
key_order s x k = ordering_then (nat_cmp s k.within) (nat_cmp x k.name)

abbrev pub is_key : ℕ → ℕ → Key → Bool
is_key s x = is_at (key_order s x)

-- what a map has at the name x within s
abbrev pub at_key : BTreeMap Key ℕ → ℕ → ℕ → Option ℕ
at_key m s x = get_by (key_order s x) m

-- the same at each other key, and at k what is there, or else n
abbrev pub PutsFirst : BTreeMap Key ℕ → BTreeMap Key ℕ → Key → ℕ → Type 0
PutsFirst old new k n = (s x : ℕ) → at_key new s x ≡ or_else (at_key old s x) (if nat_eq k.within s && nat_eq k.name x then Some n else None)
