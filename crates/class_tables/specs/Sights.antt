-- What private names are told by, of a place.
use Rattle.std.specs.Prelude.{◌≡◌, ◌<◌, ℕ, Bool, ◌&&◌, List, map, length, Option, IfSome, option_map, find, filter}
use Rattle.std.specs.List.{All}
use Rattle.tree_nodes.specs.Tree.{Text}
use Rattle.tree_places.specs.Places.{Place}
use Rattle.scope_rules.specs.Bindings.{same_name}
use Rattle.scope_rules.specs.Evals.{contains, is_called, name_eval}
use Rattle.scope_rules.specs.PrivateNames.{distinct, is_innermost, is_member_key}
use Rattle.class_tables.specs.Outwards.{Falls, chain_from, outer}
use Rattle.place_list.specs.declared.tables.ClassEntry.{ClassEntry}
use Rattle.place_list.specs.declared.tables.PlaceEntry.{PlaceEntry}

pub record Sight : Type 0 where
  pub node : ℕ
  pub name : Text
  pub private : Bool
  pub member_key : Bool
  pub called : Bool
  pub classes : List ℕ

-- of a place
unfoldable pub sight : Place → Sight
sight p = record { node = p.site.node; name = p.name; private = p.site.private; member_key = is_member_key p.site.setting.role; called = is_called p.site.setting.role; classes = p.site.setting.classes }

-- of an entry, by the class bodies outside each
unfoldable pub sight_of : List ClassEntry → PlaceEntry → Sight
sight_of bodies e = record { node = e.node; name = e.name.now; private = e.private; member_key = is_member_key e.setting.role; called = is_called e.setting.role; classes = chain_from (outer bodies) e.setting.class_body }

-- these entries are those of these places
abbrev pub AreOf : List ClassEntry → List PlaceEntry → List Place → Type 0
AreOf bodies es ps = map sight ps ≡ map (sight_of bodies) es

-- what a walk over the tree keeps: a class body comes after those around it, and places name class bodies of the table
pub record AreKnown (bodies : List ClassEntry) (es : List PlaceEntry) : Type 0 where
  pub fall : Falls (outer bodies)
  pub classes : All (λ e. IfSome e.setting.class_body (λ c. c < length bodies)) es

-- ---- what is declared

unfoldable pub declares_in : ℕ → Sight → Bool
declares_in c s = s.private && s.member_key && is_innermost c s.classes

unfoldable pub declares_name : Text → ℕ → Sight → Bool
declares_name x c s = declares_in c s && same_name s.name x

-- the distinct names that a class body declares
unfoldable pub names_in : List Sight → ℕ → List Text
names_in ss c = distinct (map (λ s. s.name) (filter (declares_in c) ss))

-- the node of the first place that declares the name in a class body
unfoldable pub node_in : List Sight → ℕ → Text → Option ℕ
node_in ss c x = option_map (λ s. s.node) (find (declares_name x c) ss)

-- a direct eval in the body of a class, at any depth
unfoldable pub evals_in : ℕ → Sight → Bool
evals_in c s = (s.called && same_name s.name name_eval) && contains s.classes c
