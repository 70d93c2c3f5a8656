-- What the rows say of a tree, what is asked, and another tree.
use Rattle.std.specs.Prelude.{◌≡◌, ℕ, Bool, true, false, not, ◌&&◌, nat_eq, List, [], ◌∷◌, length, map, filter, IsTrue}
use Rattle.std.specs.List.{list_all, list_any}
use Rattle.name_rules.specs.FreeNames.{is_free}
use Rattle.name_rules.specs.Groups.{greatest_width, members}
use Rattle.name_rules.specs.Kept.{name_kept}
use Rattle.name_rules.specs.Mangled.{IsMangled, changes, is_one_name, is_with, names_where, stays}
use Rattle.name_rules.specs.Options.{Options}
use Rattle.name_rules.specs.PrivateNumbers.{new_names}
use Rattle.tree_nodes.specs.Along.{all}
use Rattle.tree_nodes.specs.Standing.{root_column, stands}
use Rattle.tree_nodes.specs.Tree.{Parts, Text, done}
use Rattle.tree_nodes.specs.declared.table.Role.TheVariants.{Plain as PlainRole}
use Rattle.tree_places.specs.Places.{names, places, sites}
use Rattle.tree_places.specs.Renaming.{agreements, blind, both, marks, plain_names}
use Rattle.scope_rules.specs.Bindings.{Bound as BoundPlace, bindings, bound, is_binding, same_name}
use Rattle.scope_rules.specs.Faults.{has_crossing, has_fault, has_reach, has_redeclaration, has_sloppy_function, has_undeclared}
use Rattle.scope_rules.specs.PrivateNames.{distinct, private_bindings}

-- each node stands where the node table has one of its kind
unfoldable pub is_tree : Parts → Bool
is_tree t = stands t (all root_column) PlainRole done

-- a tree without a fault in its scopes
unfoldable pub is_valid : Parts → Bool
is_valid t = is_tree t && not (has_fault same_name (places t))

-- u is the answer to t where this is asked: u is t mangled, under the names that are given, and valid as t is
pub record IsAnswer (asked : Parts → Options) (t u : Parts) : Type 0 where
  pub valid : IsTrue (is_valid t)
  pub mangled : IsMangled t (asked t) u
  pub given : names u ≡ new_names (asked t) t
  pub again : IsTrue (is_valid u)

-- ---- why a tree is no answer

-- the clauses of IsMangled and of IsRenamed in it
pub data Clause : Type 0 where
  Alike : Clause
  Plain : Clause
  Marked : Clause
  Bound : Clause
  Private : Clause
  Stay : Clause
  One : Clause
  Free : Clause
  Fewest : Clause

abbrev pub clause_number : Clause → ℕ
clause_number Alike = 0
clause_number Plain = 1
clause_number Marked = 2
clause_number Bound = 3
clause_number Private = 4
clause_number Stay = 5
clause_number One = 6
clause_number Free = 7
clause_number Fewest = 8

abbrev pub is_listed : List Clause → Clause → Bool
is_listed cs c = list_any (λ d. nat_eq (clause_number c) (clause_number d)) cs

-- a clause that is listed fails, another holds
abbrev pub judged : (listed : Bool) → Type 0 → Type 0
judged true A = ¬ A
judged false A = A

-- of the clauses of IsMangled exactly the listed ones fail
pub record FailsBy (cs : List Clause) (t : Parts) (o : Options) (u : Parts) : Type 0 where
  pub alike : judged (is_listed cs Alike) (blind u ≡ blind t)
  pub plain : judged (is_listed cs Plain) (plain_names (sites u) (names u) ≡ plain_names (sites t) (names t))
  pub marked : judged (is_listed cs Marked) (marks u ≡ both (marks t) (agreements u))
  pub bound : judged (is_listed cs Bound) (bindings same_name (places u) ≡ bindings same_name (places t))
  pub private : judged (is_listed cs Private) (private_bindings same_name (places u) ≡ private_bindings same_name (places t))
  pub stay : judged (is_listed cs Stay) (names_where (stays (places t)) (members o t) (places u) ≡ names_where (stays (places t)) (members o t) (places t))
  pub one : judged (is_listed cs One) (IsTrue (list_all (λ m. is_one_name (names_where (is_with m) (members o t) (places u))) (members o t)))
  pub free : judged (is_listed cs Free) (IsTrue (list_all (is_free o (members o t)) (names_where changes (members o t) (places u))))
  pub fewest : judged (is_listed cs Fewest) (length (distinct (names_where changes (members o t) (places u))) ≡ greatest_width o t)

-- t is valid, and u is t mangled in all but these clauses
pub record IsRefusedBy (cs : List Clause) (asked : Parts → Options) (t u : Parts) : Type 0 where
  pub valid : IsTrue (is_valid t)
  pub fails : FailsBy cs t (asked t) u

-- that a clause fails is that the tree isn't mangled, and that none does that it is
abbrev pub FailingRefuses : Type 0
FailingRefuses = (c : Clause) (cs : List Clause) (t : Parts) (o : Options) (u : Parts) → FailsBy (c ∷ cs) t o u → ¬ IsMangled t o u

abbrev pub NoneFailingMangles : Type 0
NoneFailingMangles = (t : Parts) (o : Options) (u : Parts) → FailsBy [] t o u → IsMangled t o u

-- ---- faults

pub data Fault : Type 0 where
  Redeclaration : Fault
  Crossing : Fault
  SloppyFunction : Fault
  Undeclared : Fault
  Reach : Fault

abbrev pub fault_where : Bool → Fault → List Fault → List Fault
fault_where true f fs = f ∷ fs
fault_where false f fs = fs

-- the faults that a tree's scopes have
unfoldable pub faults : Parts → List Fault
faults t =
    fault_where (has_redeclaration same_name (places t)) Redeclaration
    (fault_where (has_crossing same_name (places t)) Crossing
    (fault_where (has_sloppy_function (places t)) SloppyFunction
    (fault_where (has_undeclared same_name (places t)) Undeclared
    (fault_where (has_reach (bound same_name (places t))) Reach []))))

-- it is a tree of the node table, and this is its only fault
pub record IsFaulty (f : Fault) (t : Parts) : Type 0 where
  pub tree : IsTrue (is_tree t)
  pub faulty : IsTrue (has_fault same_name (places t))
  pub only : faults t ≡ f ∷ []

-- ---- names kept for a function or class

-- the names of the bindings that keep their names since a function or class takes its name from them
unfoldable pub names_kept : Options → Parts → List Text
names_kept o t =
    let bs : List (BoundPlace Text) = bound same_name (places t) in
    map (λ b. b.place.name) (filter (name_kept o bs) (filter is_binding bs))
