-- The laws on private names.
use Rattle.std.specs.Prelude.{◌≡◌, ◌<◌, ℕ, List, ◌∷◌, length, IsTrue, IsFalse}
use Rattle.std.specs.List.{Contains}
use Rattle.name_rules.specs.PrivateNumbers.{new_private_name, number_in}
use Rattle.tree_nodes.specs.Tree.{Parts, Text}
use Rattle.tree_places.specs.Places.{Place, places}
use Rattle.tree_places.specs.Scopes.{is_inside}
use Rattle.scope_rules.specs.Bindings.{same_name}
use Rattle.scope_rules.specs.Evals.{is_open}
use Rattle.scope_rules.specs.Faults.{has_undeclared}
use Rattle.scope_rules.specs.PrivateNames.{private_bindings, private_names}
use Rattle.scope_rules.specs.Renamings.{all_under}

-- c is a class whose body is around a place of the tree, it isn't open, and outer are the class bodies around it, from inside out
pub record IsClosedAround (t : Parts) (p : Place) (c : ℕ) (outer : List ℕ) : Type 0 where
  pub around : IsTrue (is_inside p.site.setting.classes (c ∷ outer))
  pub closed : IsFalse (is_open (places t) c)

-- along the class bodies around a place, the numbers of the private names of those that aren't open are all different: one number is one class and one name
abbrev pub PrivateNumbersDiffer : Type 0
PrivateNumbersDiffer = (t : Parts) (p : Place) → Contains (places t) p → (c d : ℕ) (outside_c outside_d : List ℕ) → IsClosedAround t p c outside_c → IsClosedAround t p d outside_d
    → (i j : ℕ) → i < length (private_names (places t) c) → j < length (private_names (places t) d) → number_in (places t) outside_c i ≡ number_in (places t) outside_d j
    → (c ≡ d) × (i ≡ j)

-- where each private name gets its new private name, every private place keeps its binding, if none was without
abbrev pub PrivateNamesKeepBindings : Type 0
PrivateNamesKeepBindings = (t : Parts) (new : Place → Text) → IsFalse (has_undeclared same_name (places t))
    → ((p : Place) → Contains (places t) p → IsTrue p.site.private → new p ≡ new_private_name (places t) p)
    → private_bindings same_name (all_under new (places t)) ≡ private_bindings same_name (places t)
