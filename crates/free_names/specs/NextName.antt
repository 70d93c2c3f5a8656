-- The next name that may be given.
use Rattle.std.specs.Prelude.{◌≡◌, ◌≤◌, ◌<◌, ℕ, true, false, List}
use Rattle.free_names.specs.Guard.{is_refused}
use Rattle.name_rules.specs.ShortNames.{short}
use Rattle.tree_nodes.specs.Tree.{Text}

-- the least number from n on whose short name isn't refused
pub record IsNextName (inserted : List Text) (n number : ℕ) : Type 0 where
  pub from : n ≤ number
  pub given : is_refused inserted (short number) ≡ false
  pub least : (k : ℕ) → n ≤ k → k < number → is_refused inserted (short k) ≡ true
