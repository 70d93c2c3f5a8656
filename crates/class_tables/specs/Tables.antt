-- The tables of class bodies, as data.
use Rattle.std.specs.Prelude.{◌≡◌, ℕ, suc, not, ◌&&◌, nat_eq, List, [], ◌∷◌, ◌++◌, length, map, Option, Some, None, is_some, slice_get, option_map, if◌then◌else◌}
use Rattle.std.specs.BTreeMap.{get_by}
use Rattle.std.specs.Cmp.Lexicographic.{slice_cmp}
use Rattle.std.specs.Ordering.{nat_cmp}
use Rattle.tree_nodes.specs.Tree.{Text}
use Rattle.tree_places.specs.Places.{Place}
use Rattle.scope_rules.specs.Bindings.{or_else, same_name}
use Rattle.class_tables.specs.Sights.{Sight, names_in, node_in, sight}
use Rattle.class_tables.specs.declared.class_table.ClassTable.{ClassTable}
use Rattle.class_tables.specs.declared.class_table.Declared.{Declared}
use Rattle.class_tables.specs.declared.nearest.Found.{Found}

-- the names of a class body, and where one is declared
abbrev pub names_of : ClassTable → List Text
names_of t = map (λ n. n.now) t.names.items

abbrev pub declared_at : ClassTable → Text → Option Declared
declared_at t x = get_by (λ k. slice_cmp nat_cmp x k.now) t.firsts

-- a table with a place more that declares the name n
pub record Declares (old new : ClassTable) (n : Text) (node : ℕ) : Type 0 where
  pub names : names_of new ≡ (if is_some (declared_at old n) then names_of old else names_of old ++ n ∷ [])
  pub at : (x : Text) → declared_at new x ≡ or_else (declared_at old x) (if same_name n x then Some (record { index = length (names_of old); node = node }) else None)

-- ---- by the numbers of class bodies

unfoldable pub names_at : List ClassTable → ℕ → List Text
names_at ts c = elim (slice_get ts c) [ None ↦ [] | Some t ↦ names_of t ]

unfoldable pub at : List ClassTable → ℕ → Text → Option Declared
at ts c x = elim (slice_get ts c) [ None ↦ None | Some t ↦ declared_at t x ]

-- tables with a place more that declares the name n in the class body c
pub record DeclaresIn (old new : List ClassTable) (c : ℕ) (n : Text) (node : ℕ) : Type 0 where
  pub names : (k : ℕ) → names_at new k ≡ (if nat_eq c k && not (is_some (at old k n)) then names_at old k ++ n ∷ [] else names_at old k)
  pub at : (k : ℕ) (x : Text) → at new k x ≡ or_else (at old k x) (if nat_eq c k && same_name n x then Some (record { index = length (names_at old k); node = node }) else None)

unfoldable pub place_in : Text → List Text → Option ℕ
place_in x [] = None
place_in x (y ∷ ys) = if same_name x y then Some 0 else option_map (λ k. suc k) (place_in x ys)

-- the tables hold what some places declare
pub record Hold (ss : List Sight) (ts : List ClassTable) : Type 0 where
  pub names : (c : ℕ) → names_at ts c ≡ names_in ss c
  pub index : (c : ℕ) (x : Text) → option_map (λ d. d.index) (at ts c x) ≡ place_in x (names_in ss c)
  pub node : (c : ℕ) (x : Text) → option_map (λ d. d.node) (at ts c x) ≡ node_in ss c x

-- these are the tables of these places
abbrev pub AreTablesOf : List ClassTable → List Place → Type 0
AreTablesOf ts ps = Hold (map sight ps) ts

-- what a class body declares under a name
unfoldable pub found_in : List ClassTable → Text → ℕ → Option Found
found_in ts x c = option_map (λ d. record { class = c; index = d.index; node = d.node }) (at ts c x)
