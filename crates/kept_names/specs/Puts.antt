-- A map in which a key is set where it isn't yet.
use Rattle.std.specs.Prelude.{◌≡◌, ℕ, Bool, false, ◌&&◌, nat_eq, Option, Some, None, if◌then◌else◌}
use Rattle.std.specs.BTreeMap.{BTreeMap, get_by}
use Rattle.std.specs.Ordering.{nat_cmp}
use Rattle.kept_names.specs.Marks.{at_declarator}
use Rattle.kept_names.specs.declared.values.InDeclarator.{InDeclarator}
use Rattle.scope_rules.specs.Bindings.{or_else}

-- the key has these numbers
unfoldable pub is_at_key : Option InDeclarator → ℕ → ℕ → Bool
is_at_key None d n = false
is_at_key (Some k) d n = nat_eq k.declarator d && nat_eq k.binding n

-- the same at each other key, and at k what is there, or else v
abbrev pub PutsFirst : BTreeMap InDeclarator Bool → BTreeMap InDeclarator Bool → InDeclarator → Bool → Type 0
PutsFirst old new k v = (d n : ℕ) → at_declarator new d n ≡ or_else (at_declarator old d n) (if is_at_key (Some k) d n then Some v else None)

-- ---- the same by one number

abbrev pub at_node : {X : Type 0} → BTreeMap ℕ X → ℕ → Option X
at_node m n = get_by (nat_cmp n) m

abbrev pub PutsFirstAt : {X : Type 0} → BTreeMap ℕ X → BTreeMap ℕ X → ℕ → X → Type 0
PutsFirstAt old new k v = (n : ℕ) → at_node new n ≡ or_else (at_node old n) (if nat_eq k n then Some v else None)
