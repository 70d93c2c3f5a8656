-- Where the places of modules stand once their bodies are one after another: all numbers are moved, but for that of the root's scope, which all share.
use Rattle.std.specs.Prelude.{◌≡◌, ℕ, zero, suc, ◌+◌, ◌-◌, List, [], ◌∷◌, ◌++◌, length, map}
use Rattle.std.specs.List.{AllByRecursion}
use Rattle.bundle_rules.specs.Joined.{body, joined}
use Rattle.tree_nodes.specs.NodeCount.{nodes_in}
use Rattle.tree_nodes.specs.Tree.{Tree, alone, atom, done, empty, many, word}
use Rattle.tree_nodes.specs.declared.kind.Kind.TheVariants.{Program}
use Rattle.tree_places.specs.Places.{Setting, Site, scopes, seen, sites}
use Rattle.tree_places.specs.Scopes.{Scope}

-- by how much the numbers of nodes, of scopes and of class bodies are moved
pub record Moves : Type 0 where
  pub nodes : ℕ
  pub scopes : ℕ
  pub bodies : ℕ

abbrev pub no_moves : Moves
no_moves = record { nodes = 0; scopes = 0; bodies = 0 }

-- of a scope: the root's number is 0
abbrev pub moved_number : ℕ → ℕ → ℕ
moved_number d zero = zero
moved_number d (suc n) = suc (d + n)

abbrev pub moved_scope : ℕ → Scope → Scope
moved_scope d s = map (moved_number d) s

abbrev pub moved_setting : Moves → Setting → Setting
moved_setting m e = record e {
  scope = moved_scope m.scopes e.scope;
  var_scope = moved_scope m.scopes e.var_scope;
  classes = map (λ c. m.bodies + c) e.classes;
  heads = map (moved_number m.scopes) e.heads;
  pattern = map (λ n. m.nodes + n) e.pattern;
}

abbrev pub moved_site : Moves → Site → Site
moved_site m s = record s { node = m.nodes + s.node; setting = moved_setting m s.setting }

-- what comes after a module is moved by its nodes, scopes and class bodies too, without the root
unfoldable pub moves_after : Moves → Tree → Moves
moves_after m t = record { nodes = m.nodes + nodes_in (body t); scopes = m.scopes + (length (scopes (alone t)) - 1); bodies = m.bodies + (seen (alone t)).classes }

unfoldable pub moved_sites : Moves → List Tree → List Site
moved_sites m [] = []
moved_sites m (t ∷ ts) = map (moved_site m) (sites (alone t)) ++ moved_sites (moves_after m t) ts

-- a program of a module's statements alone
abbrev pub IsBare : Tree → Type 0
IsBare t = (t.kind ≡ Program) × (t.fields ≡ many (body t) (atom (word 1) (atom empty done)))

-- the places of modules one after another are theirs, moved
abbrev pub JoiningMovesPlaces : Type 0
JoiningMovesPlaces = (ts : List Tree) → AllByRecursion IsBare ts → sites (alone (joined ts)) ≡ moved_sites no_moves ts
