-- The scopes of the made tree have no fault.
use Rattle.std.proofs.Common.{◌≡◌, ℕ, zero, suc, true, false, [], ◌∷◌, codes, inl, inr, refl}
use Rattle.list_laws.proofs.AllOf.{AllOf, AllOf_reverse}
use Rattle.scope_rules.specs.Bindings.{same_name}
use Rattle.scope_rules.specs.Faults.{has_fault}
use Rattle.scope_rules.specs.Open.{all_open}
use Rattle.tree_nodes.specs.Along.{all, each}
use Rattle.tree_nodes.specs.Table.{Column, inner, node, row}
use Rattle.tree_nodes.specs.Tree.{Parts, Text, alone, atom, done, empty, many, word}
use Rattle.tree_nodes.specs.declared.kind.Kind.TheVariants.{FunctionDeclaration}
use Rattle.tree_nodes.specs.declared.table.Class.TheVariants.{Many}
use Rattle.tree_nodes.specs.declared.table.Group.TheVariants.{ModuleItems}
use Rattle.tree_nodes.specs.declared.table.Role.TheVariants.{Plain}
use Rattle.tree_places.specs.Places.{Around, Seen, Setting, at_field, enter, hide, met, names, no_value, nowhere, places, seen, sites, walk}
use Rattle.made_input.proofs.QuietSites.{IsQuiet, quiet_places, quiet_places_are_sound}
use Rattle.made_input.specs.Made.{function_fields, function_name, functions, made_tree}

-- the column in which the items of a program's body stand
abbrev body_column : Column
body_column = inner (node (codes "body") (Many (ModuleItems 1)))

-- what holds in a module, and around its fields
abbrev module_setting : Setting
module_setting = record {
  role = Plain;
  scope = 0 ∷ [];
  var_scope = 0 ∷ [];
  classes = [];
  heads = [];
  strict = true;
  exported = false;
  bare = false;
  value = no_value;
  pattern = [];
  in_rest = false;
}

abbrev in_module : Parts → Around
in_module fields = record { outside = nowhere; inside = module_setting; fields = fields; number = 0 }

-- what the walk of a module with these fields has met after the function of this name, and s before it
abbrev after_function : (f : Text) (fields : Parts) → Seen → Seen
after_function f fields s =
    let here : Setting = at_field body_column (in_module fields) in
    let around : Around = enter (row FunctionDeclaration) (hide FunctionDeclaration (function_fields f)) here s in
    walk (function_fields f) (each (row FunctionDeclaration).columns) around (met (row FunctionDeclaration).opens 0 here around.inside.scope s)

-- its four places: the last first, two that refer and two that declare
function_quiet : (f : Text) (fields : Parts) (s : Seen) → AllOf IsQuiet s.sites → AllOf IsQuiet (after_function f fields s).sites
unfolding all_open
function_quiet f fields s quiet = (
  record { not_private = refl; no_var = refl; joins = inr refl; plain = refl; outside = inr refl },
  (
    record { not_private = refl; no_var = refl; joins = inr refl; plain = refl; outside = inr refl },
    (
      record { not_private = refl; no_var = refl; joins = inl refl; plain = refl; outside = inl refl },
      (
        record { not_private = refl; no_var = refl; joins = inl refl; plain = refl; outside = inl refl },
        quiet,
      ),
    ),
  ),
)

functions_quiet : (k n : ℕ) (fields : Parts) (s : Seen) → AllOf IsQuiet s.sites → AllOf IsQuiet (walk (functions k n) (all body_column) (in_module fields) s).sites
unfolding all_open
functions_quiet k zero fields s quiet = quiet
functions_quiet k (suc n) fields s quiet =
    functions_quiet (suc k) n fields (after_function (function_name k) fields s) (function_quiet (function_name k) fields s quiet)

sites_quiet : (n : ℕ) → AllOf IsQuiet (sites (alone (made_tree n)))
unfolding all_open made_tree
sites_quiet n =
    let fields : Parts = many (functions 0 n) (atom (word 1) (atom empty done)) in
    let first : Seen = record { nodes = 1; classes = 0; scopes = (0 ∷ []) ∷ []; sites = []; withs = [] } in
    AllOf_reverse IsQuiet (seen (alone (made_tree n))).sites (functions_quiet 0 n fields first tt)

pub made_tree_sound : (n : ℕ) → has_fault same_name (places (alone (made_tree n))) ≡ false
unfolding places
made_tree_sound n =
    quiet_places_are_sound (places (alone (made_tree n))) (quiet_places (sites (alone (made_tree n))) (names (alone (made_tree n))) (sites_quiet n))
