-- In a tree that fits the node table, and whose nodes stand where they may, each function expression has one Identifier as its
-- name, or none: its first field is null or one node, and that node is an Identifier.
use Rattle.std.specs.Prelude.{◌≡◌, ℕ, Bool, true, false, not, ◌||◌, List, [], ◌∷◌, None, nat_eq}
use Rattle.std.proofs.Common.{refl, ap, ◌∙◌}
use Rattle.std.proofs.lemmas.Bool.{and_parts, and_from}
use Rattle.json_text.specs.Json.{null}
use Rattle.tree_core.proofs.Fits.{FitFields, FitItems, Fits, TakesList}
use Rattle.tree_nodes.proofs.EachKind.{kind_told}
use Rattle.tree_nodes.specs.Along.{all, each}
use Rattle.tree_nodes.specs.Kinds.{kind_number}
use Rattle.tree_nodes.specs.Standing.{is_placed, root_column, stands}
use Rattle.tree_nodes.specs.Table.{Column, row}
use Rattle.tree_nodes.specs.Tree.{Parts, Tree, alone, atom, child, done, many}
use Rattle.tree_nodes.specs.declared.kind.Kind.{Kind}
use Rattle.tree_nodes.specs.declared.kind.Kind.TheVariants.{FunctionExpression, Identifier}
use Rattle.tree_nodes.specs.declared.table.Class.TheVariants.{Maybe}
use Rattle.tree_nodes.specs.declared.table.Group.{Group}
use Rattle.tree_nodes.specs.declared.table.Group.TheVariants.{Only}
use Rattle.tree_nodes.specs.declared.table.Role.{Role}
use Rattle.tree_nodes.specs.declared.table.Role.TheVariants.{Plain}
use Rattle.scope_rules.specs.FunctionNames.{begins_with_name, is_function_expression, is_identifier_kind, names_functions_once}
use Rattle.scope_rules.specs.Open.{all_open}

-- a field of null or one node is no list
no_list : (g : Group) (holes : Bool) → TakesList (Maybe g) holes → ⊥
no_list g holes takes = absurd (cc (takes.1 [] null None (λ h. None)))

-- the first field of a function expression
name_once : (fields : Parts) (own : Role) → FitFields fields (row FunctionExpression).columns
    → stands fields (each (row FunctionExpression).columns) own fields ≡ true → begins_with_name fields ≡ true
unfolding all_open
name_once done own f h = absurd f
name_once (atom a more) own f h = refl
name_once (many items more) own f h = absurd (no_list (Only Identifier) f.0 f.1)
name_once (child k s e inner more) own f h =
    let admitted : nat_eq (kind_number k) (kind_number Identifier) ≡ true = (and_parts _ _ (and_parts _ _ (and_parts _ _ h).0).0).0 in
    ap is_identifier_kind (kind_told k Identifier admitted)

-- a node of any kind
node_once : (k : Kind) (fields : Parts) (own : Role) → FitFields fields (row k).columns
    → stands fields (each (row k).columns) own fields ≡ true → (not (is_function_expression k) || begins_with_name fields) ≡ true
unfolding is_function_expression
node_once FunctionExpression fields own f h = name_once fields own f h
node_once _ fields own f h = refl

-- from a node, what lies in it and what comes after it to the run of both
and_once : (k : Kind) (s e : ℕ) (fields more : Parts) → (not (is_function_expression k) || begins_with_name fields) ≡ true
    → names_functions_once fields ≡ true → names_functions_once more ≡ true → names_functions_once (child k s e fields more) ≡ true
unfolding names_functions_once
and_once k s e fields more named inner rest = and_from _ _ (and_from _ _ named inner) rest

mutual
  unfolding all_open

  fields_once : (ps : Parts) (cs : List Column) (own : Role) (within : Parts) → FitFields ps cs
      → stands ps (each cs) own within ≡ true → names_functions_once ps ≡ true
  fields_once done cs own within f h = refl
  fields_once (atom a more) [] own within f h = absurd f
  fields_once (atom a more) (c ∷ cs) own within f h = fields_once more cs own within f.2 h
  fields_once (many items more) [] own within f h = absurd f
  fields_once (many items more) (c ∷ cs) own within f h =
      let both = and_parts _ _ h in
      and_from _ _ (items_once items f.0 c own within f.2 both.0) (fields_once more cs own within f.3 both.1)
  fields_once (child k s e fields more) [] own within f h = absurd f
  fields_once (child k s e fields more) (c ∷ cs) own within f h =
      let both = and_parts _ _ h in
      let inside = (and_parts _ _ both.0).1 in
      and_once k s e fields more (node_once k fields _ f.2 inside) (fields_once fields (row k).columns _ fields f.2 inside) (fields_once more cs own within f.3 both.1)

  items_once : (ps : Parts) (holes : Bool) (c : Column) (own : Role) (within : Parts) → FitItems ps holes
      → stands ps (all c) own within ≡ true → names_functions_once ps ≡ true
  items_once done holes c own within f h = refl
  items_once (atom a more) holes c own within f h = items_once more holes c own within f.2 h
  items_once (many items more) holes c own within f h = absurd f
  items_once (child k s e fields more) holes c own within f h =
      let both = and_parts _ _ h in
      let inside = (and_parts _ _ both.0).1 in
      and_once k s e fields more (node_once k fields _ f.1 inside) (fields_once fields (row k).columns _ fields f.1 inside) (items_once more holes c own within f.2 both.1)

-- a tree is a list of one node
pub tree_once : (t : Tree) → Fits t → is_placed t ≡ true → names_functions_once (alone t) ≡ true
unfolding is_placed
tree_once t f h = items_once (alone t) false root_column Plain done (f.0, f.1, tt) h
