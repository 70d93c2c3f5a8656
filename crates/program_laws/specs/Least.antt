-- How good the new names of a program are.
use Rattle.std.specs.Prelude.{◌≡◌, ◌<◌, ◌≤◌, ℕ, ◌+◌, ◌^◌, map, length, IsFalse}
use Rattle.std.specs.List.{Contains}
use Rattle.name_rules.specs.Bounds.{candidate_limit}
use Rattle.name_rules.specs.Mangled.{IsRival, cost}
use Rattle.name_rules.specs.MangledLaws.{HasNewNames}
use Rattle.name_rules.specs.Options.{Options}
use Rattle.name_rules.specs.ShortNames.{candidate}
use Rattle.name_rules.specs.Shortest.{IsChoice, changed_names}
use Rattle.scope_rules.specs.PrivateNames.{distinct}
use Rattle.tree_core.specs.Program.{IsProgram}
use Rattle.tree_nodes.specs.NodeCount.{node_count}
use Rattle.tree_nodes.specs.Tree.{Parts, Text, Tree, alone}

-- u is t under names of which none does better
pub record IsLeast (t : Parts) (o : Options) (u : Parts) : Type 0 where
  -- the bindings that aren't kept have in each rival at least as many different names
  pub fewest : (w : Parts) → IsRival t o w → length (distinct (changed_names o t u)) ≤ length (distinct (changed_names o t w))
  -- with other free names in their places, different ones for different ones, the references to them are in sum no shorter, unless readable names are asked for
  pub shortest : IsFalse o.readable → (w : Parts) (g : Text → Text) → IsChoice o t u g → changed_names o t w ≡ map g (changed_names o t u) → cost o t u ≤ cost o t w
  -- each of their names is a candidate below the limit
  pub bounded : (x : Text) → Contains (changed_names o t u) x → (n : ℕ) × (x ≡ candidate o.readable n) × (n < candidate_limit o t)
  pub limited : candidate_limit o t < 2 ^ 31

-- a program under its new names is such, where its nodes and the reserved names are fewer than 2^30
abbrev pub ProgramsGetLeastNames : Type 0
ProgramsGetLeastNames = (t u : Tree) (o : Options) → IsProgram t → node_count t + length o.reserved < 2 ^ 30
    → HasNewNames o (alone t) (alone u) → IsLeast (alone t) o (alone u)
