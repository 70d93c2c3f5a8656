-- What the places of a module are to its root: which are bindings of the root, and which are references without a binding.
use Rattle.std.specs.Prelude.{ℕ, Bool, true, false, not, ◌&&◌, ◌||◌, List, [], ◌∷◌, map, Option, is_some}
use Rattle.scope_rules.specs.Bindings.{binding, is_node, node, same_name}
use Rattle.scope_rules.specs.Evals.{is_eval}
use Rattle.scope_rules.specs.Homes.{declares, home, refers}
use Rattle.tree_nodes.specs.Tree.{Text, Tree, alone}
use Rattle.tree_places.specs.Places.{Place, places}
use Rattle.tree_places.specs.Scopes.{Scope}

-- a place of a module
pub record Mention : Type 0 where
  -- its own node, and its binding's
  pub node : ℕ
  pub name : Text
  pub binding : Option ℕ
  -- it declares a variable, or refers to one
  pub variable : Bool
  -- it is a binding of the root
  pub root : Bool
  -- it is a reference without a binding
  pub unresolved : Bool
  -- it is the callee of a direct eval
  pub calls_eval : Bool

-- the root's scope, around which no other lies
unfoldable pub is_root : Scope → Bool
is_root (n ∷ []) = true
is_root _ = false

unfoldable pub mention : Place → Option ℕ → Mention
mention p b = record {
  node = node p;
  name = p.name;
  binding = b;
  variable = declares p.site || refers p.site;
  root = declares p.site && is_node b (node p) && is_root (home p.site);
  unresolved = refers p.site && not (is_some b);
  calls_eval = is_eval p;
}

-- in printing order
unfoldable pub mentions : List Place → List Mention
mentions ps = map (λ p. mention p (binding same_name ps p)) ps

abbrev pub mentions_of : Tree → List Mention
mentions_of t = mentions (places (alone t))
