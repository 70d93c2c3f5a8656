-- What a mangled tree is, its rivals, and what a tree's names cost.
use Rattle.std.specs.Prelude.{◌≡◌, ℕ, Bool, true, false, not, ◌&&◌, ◌||◌, nat_eq, List, [], ◌∷◌, map, length, Option, Some, is_some, is_none, sum, IsTrue, IsFalse, if◌then◌else◌}
use Rattle.std.specs.List.{list_all}
use Rattle.name_rules.specs.FreeNames.{is_free, is_unchanged}
use Rattle.name_rules.specs.Groups.{Member, greatest_width, members}
use Rattle.name_rules.specs.Options.{Options}
use Rattle.name_rules.specs.PrivateNumbers.{is_of_open_class}
use Rattle.tree_nodes.specs.Tree.{Parts, Text}
use Rattle.tree_places.specs.Places.{Place, places}
use Rattle.tree_places.specs.Renaming.{IsRenamed}
use Rattle.scope_rules.specs.Bindings.{bindings, same_name, shadower}
use Rattle.scope_rules.specs.Faults.{has_fault}
use Rattle.scope_rules.specs.Homes.{names_function, refers}
use Rattle.scope_rules.specs.PrivateNames.{distinct, private_bindings}

-- the names in u of the places whose member in t passes
unfoldable pub names_where : (Member → Bool) → List Member → List Place → List Text
names_where test [] us = []
names_where test (m ∷ ms) [] = []
names_where test (m ∷ ms) (u ∷ us) = if test m then u.name ∷ names_where test ms us else names_where test ms us

-- places that keep their names: variable ones without a binding or of a kept one, and private ones of an open class
unfoldable pub stays : List Place → Member → Bool
stays ps m = is_unchanged m || is_of_open_class ps m.place

-- places of bindings that aren't kept
unfoldable pub changes : Member → Bool
changes m = is_some m.group

unfoldable pub same_number : Option ℕ → Option ℕ → Bool
same_number (Some m) (Some n) = nat_eq m n
same_number _ _ = false

-- both are places of one binding that isn't kept
unfoldable pub is_with : Member → Member → Bool
is_with m n = changes m && same_number m.binding n.binding

unfoldable pub is_one_name : List Text → Bool
is_one_name [] = true
is_one_name (x ∷ xs) = list_all (same_name x) xs

-- u is t mangled: renamed, every place has the binding that it had, what must keep its name does, each other binding has one name and a free one, and these are as few as are ever live at once. Kept, free and live are said of t
pub record IsMangled (t : Parts) (o : Options) (u : Parts) : Type 0 where
  pub renamed : IsRenamed t u
  pub bound : bindings same_name (places u) ≡ bindings same_name (places t)
  pub private : private_bindings same_name (places u) ≡ private_bindings same_name (places t)
  pub stay : names_where (stays (places t)) (members o t) (places u) ≡ names_where (stays (places t)) (members o t) (places t)
  pub one : IsTrue (list_all (λ m. is_one_name (names_where (is_with m) (members o t) (places u))) (members o t))
  pub free : IsTrue (list_all (is_free o (members o t)) (names_where changes (members o t) (places u)))
  pub fewest : length (distinct (names_where changes (members o t) (places u))) ≡ greatest_width o t

-- of each place, whether it is a function-name that isn't shadowed
unfoldable pub unshadowed : List Place → List Bool
unshadowed ps = map (λ p. names_function p.site && is_none (shadower same_name ps p)) ps

unfoldable pub implied : List Bool → List Bool → Bool
implied (x ∷ xs) (y ∷ ys) = (not x || y) && implied xs ys
implied [] ys = true
implied (x ∷ xs) [] = false

-- w is another renaming of t that keeps bindings and what must keep its name: without fault, and no function-name is newly shadowed. Its names need not be free
pub record IsRival (t : Parts) (o : Options) (w : Parts) : Type 0 where
  pub renamed : IsRenamed t w
  pub sound : IsFalse (has_fault same_name (places w))
  pub bound : bindings same_name (places w) ≡ bindings same_name (places t)
  pub private : private_bindings same_name (places w) ≡ private_bindings same_name (places t)
  pub stay : names_where (stays (places t)) (members o t) (places w) ≡ names_where (stays (places t)) (members o t) (places t)
  pub shadows : IsTrue (implied (unshadowed (places t)) (unshadowed (places w)))

-- the summed length, in u, of the references of t whose binding isn't kept
unfoldable pub cost : Options → Parts → Parts → ℕ
cost o t u = sum (map length (names_where (λ m. refers m.place.site && changes m) (members o t) (places u)))
