-- The laws on joined modules.
use Rattle.std.specs.Prelude.{◌≡◌, ◌<◌, ◌≤◌, IfSome, IsFalse, ⊤, ℕ, ◌+◌, List, [], ◌∷◌, ◌++◌, map, Option, option_map}
use Rattle.std.specs.List.{AllByRecursion}
use Rattle.bundle_rules.specs.Bundles.{IsBundle}
use Rattle.bundle_rules.specs.Joined.{body}
use Rattle.bundle_rules.specs.Moves.{IsBare, Moves, moves_after, no_moves}
use Rattle.scope_rules.specs.Bindings.{bindings, same_name}
use Rattle.scope_rules.specs.Faults.{has_fault}
use Rattle.scope_rules.specs.PrivateNames.{private_bindings}
use Rattle.tree_nodes.specs.NodeCount.{nodes_in}
use Rattle.tree_nodes.specs.Tree.{Tree, alone}
use Rattle.tree_places.specs.Places.{Place, places}

-- the binding of each place of a module, as a node of the joined module
unfoldable pub bindings_moved : Moves → List (Option ℕ) → List (Option ℕ)
bindings_moved m bs = map (option_map (λ n. m.nodes + n)) bs

-- those of modules one after another
unfoldable pub all_moved : (List Place → List (Option ℕ)) → Moves → List Tree → List (Option ℕ)
all_moved bound m [] = []
all_moved bound m (t ∷ ts) = bindings_moved m (bound (places (alone t))) ++ all_moved bound (moves_after m t) ts

-- every place of a module has in the joined one the binding that it has in its own, moved, or none in both
abbrev pub BundlesKeepBindings : Type 0
BundlesKeepBindings = (ts : List Tree) (w : Tree) → AllByRecursion IsBare ts → IsBundle ts w → bindings same_name (places (alone w)) ≡ all_moved (bindings same_name) no_moves ts

-- the same of private names
abbrev pub BundlesKeepPrivateNames : Type 0
BundlesKeepPrivateNames = (ts : List Tree) (w : Tree) → AllByRecursion IsBare ts → IsBundle ts w → private_bindings same_name (places (alone w)) ≡ all_moved (private_bindings same_name) no_moves ts

abbrev pub AreFaultless : List Tree → Type 0
AreFaultless ts = AllByRecursion (λ t. IsFalse (has_fault same_name (places (alone t)))) ts

-- modules without a fault have none together
abbrev pub BundlesHaveNoFault : Type 0
BundlesHaveNoFault = (ts : List Tree) (w : Tree) → AllByRecursion IsBare ts → AreFaultless ts → IsBundle ts w → IsFalse (has_fault same_name (places (alone w)))

-- bindings among nodes past the first ones, so many
abbrev pub LieWithin : ℕ → ℕ → List (Option ℕ) → Type 0
LieWithin first many bs = AllByRecursion (λ b. IfSome b (λ n. (first < n) × (n ≤ first + many))) bs

-- those of each module are among its own nodes, which come after those of the modules before
abbrev pub AreApart : (List Place → List (Option ℕ)) → Moves → List Tree → Type 0
AreApart bound m [] = ⊤
AreApart bound m (t ∷ ts) = LieWithin m.nodes (nodes_in (body t)) (bindings_moved m (bound (places (alone t)))) × AreApart bound (moves_after m t) ts

-- so no two modules have places of one binding, nor of one private name's
abbrev pub ModulesShareNoBinding : Type 0
ModulesShareNoBinding = (ts : List Tree) → AllByRecursion IsBare ts → AreApart (bindings same_name) no_moves ts × AreApart (private_bindings same_name) no_moves ts
