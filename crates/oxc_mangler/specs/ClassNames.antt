-- The new names of private names, by class.
use Rattle.std.specs.Prelude.{◌≡◌, ℕ, suc, List, [], ◌∷◌, Option, Some, None, option_map, IsTrue, IsFalse, if◌then◌else◌}
use Rattle.std.specs.List.{Contains}
use Rattle.name_rules.specs.PrivateNumbers.{private_number}
use Rattle.name_rules.specs.ShortNames.{short}
use Rattle.place_list.specs.TableViews.{places_in}
use Rattle.place_list.specs.declared.tables.PlaceList.{PlaceList}
use Rattle.private_numbers.specs.Numbers.{class_number, classes_around}
use Rattle.scope_rules.specs.Bindings.{same_name}
use Rattle.scope_rules.specs.PrivateNames.{is_among, private_names}
use Rattle.syntax_lex.specs.Identifier.{is_identifier_name}
use Rattle.tree_nodes.specs.Tree.{Text}
use Rattle.tree_places.specs.Places.{Place}
use Rattle.tree_places.specs.Scopes.{is_inside}
use Rattle.tree_semantic.specs.Renamed.{class_count, new_name}
use Rattle.tree_semantic.specs.declared.private_names.PrivateNames.{PrivateNames}

-- of the classes of these places, so many: each private name that a class declares, which with those around it in `outer` lies around some place, has its new private name, if it gets one, as in a class that isn't open; there are no others; and all are identifier names
pub record AreClassNames (ps : List Place) (classes : ℕ) (m : PrivateNames) : Type 0 where
  pub count : class_count m ≡ classes
  pub declared : (p : Place) → Contains ps p → (c : ℕ) (outer : List ℕ) → IsTrue (is_inside p.site.setting.classes (c ∷ outer)) → (x : Text) → IsTrue (is_among (private_names ps c) x)
      → new_name m c x ≡ option_map short (private_number ps x (c ∷ outer))
  pub no_others : (c : ℕ) (x : Text) → IsFalse (is_among (private_names ps c) x) → new_name m c x ≡ None
  pub identifiers : (c : ℕ) (x y : Text) → new_name m c x ≡ Some y → IsTrue (is_identifier_name y)

-- what a function has at the number of a name in a list, if it is there and the first has the number n
unfoldable pub looked_up : List Text → (ℕ → Option Text) → ℕ → Text → Option Text
looked_up [] f n x = None
looked_up (y ∷ ys) f n x = if same_name y x then f n else looked_up ys f (suc n) x

-- the new name of a class body's private name, by its number, if it gets one
unfoldable pub new_class_name : PlaceList → ℕ → ℕ → Option Text
new_class_name l c i = option_map short (class_number (places_in l) (classes_around l c) c i)
