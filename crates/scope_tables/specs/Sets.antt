-- Sets of bindings by number.
use Rattle.std.specs.Prelude.{◌≡◌, ℕ, Bool, ◌||◌, List, Option}
use Rattle.std.specs.BTreeSet.{BTreeSet, contains_by}
use Rattle.std.specs.List.{list_any}
use Rattle.std.specs.Ordering.{nat_cmp}
use Rattle.scope_rules.specs.Bindings.{Bound, is_node}
use Rattle.tree_nodes.specs.Tree.{Text}

abbrev pub has : BTreeSet ℕ → ℕ → Bool
has s n = contains_by (nat_cmp n) s

-- a set with this number too, if it is one
abbrev pub Puts : BTreeSet ℕ → Option ℕ → BTreeSet ℕ → Type 0
Puts old o new = (n : ℕ) → has new n ≡ (has old n || is_node o n)

-- it has those numbers that one of these marks
abbrev pub HasMarked : (ℕ → Bound Text → Bool) → List (Bound Text) → BTreeSet ℕ → Type 0
HasMarked marks bs s = (n : ℕ) → has s n ≡ list_any (marks n) bs
