-- Visits of the items of a list, one after the other.
use Rattle.std.proofs.Common.{ℕ, List, ◌++◌, take, drop}
use Rattle.syntax_module.specs.Visits.{on_each}

module _ {V T : Type 0} (visit : V → T → V × T) where
  -- what is left once the items before i were visited
  abbrev pub visited_from : ℕ → V → List T → V × List T
  visited_from i v items = let a = on_each visit v (drop i items) in (a.0, take i items ++ a.1)
