-- What each kind binds, by the columns of its row.
use Rattle.std.proofs.Common.{◌≡◌, ℕ, Bool, true, false, List, [], ◌∷◌, ◌++◌, Option, Some, None, if◌then◌else◌, refl, sym, ap, ◌∙◌}
use Rattle.std.proofs.lemmas.List.{append-nil}
use Rattle.tree_nodes.specs.Along.{each, first_column, other_columns}
use Rattle.tree_nodes.specs.Kinds.{is_kind}
use Rattle.tree_nodes.specs.Look.{onto}
use Rattle.tree_nodes.specs.Roles.{role_at}
use Rattle.tree_nodes.specs.Standing.{declares_role}
use Rattle.tree_nodes.specs.Table.{row}
use Rattle.tree_nodes.specs.Tree.{Atom, Parts, Tree, alone, atom, before, done, empty, flag_of, many}
use Rattle.tree_nodes.specs.Views.{item_of}
use Rattle.tree_nodes.specs.declared.kind.Kind.TheVariants.{ArrayPattern, AssignmentPattern, ClassDeclaration, FunctionDeclaration, Identifier, ObjectPattern, Property, RestElement, VariableDeclaration, VariableDeclarator}
use Rattle.tree_nodes.specs.declared.table.Role.TheVariants.{Plain, Read}
use Rattle.tree_patterns.specs.BoundNames.{bound, bound_in, bound_names, declares}
use Rattle.tree_patterns.specs.ByKind.{BindByKind, Binds, made}
use Rattle.tree_patterns.proofs.BoundAlong.{entered, if_so, of_node, passed_over}

-- a key declares nothing, computed or not
no_key : (computed : Bool) → declares_role (if computed then Read else Plain) ≡ false
unfolding declares_role
no_key true = refl
no_key false = refl

one : (t : Tree) → bound_names t ++ [] ≡ bound_names t
one t = append-nil (bound_names t)

twice : (xs : List Tree) → (xs ++ []) ++ [] ≡ xs
twice xs = append-nil (xs ++ []) ∙ append-nil xs

identifier : (start stop : ℕ) (fields : Parts) → bound_names (made Identifier start stop fields) ≡ made Identifier start stop fields ∷ []
unfolding bound first_column other_columns declares declares_role role_at is_kind
identifier start stop fields = refl

property : (kind method shorthand computed : Atom) (key value : Tree) → Binds Property (atom kind (before key (before value (atom method (atom shorthand (atom computed done)))))) (bound_names value)
unfolding bound first_column other_columns declares declares_role role_at is_kind
property kind method shorthand computed key value = λ start stop.
    ap (λ b. (if_so b (of_node key) ++ bound_names value) ++ []) (no_key (flag_of (atom computed done))) ∙ one value

object_pattern : (properties : Parts) → Binds ObjectPattern (many properties done) (bound_in properties)
unfolding bound first_column other_columns declares declares_role role_at is_kind
object_pattern properties = λ start stop.
    ap (λ xs. (xs ++ []) ++ []) (entered (first_column (each (row ObjectPattern).columns)) (many properties done) properties refl) ∙ twice (bound_in properties)

array_pattern : (elements : Parts) → Binds ArrayPattern (many elements done) (bound_in elements)
unfolding bound first_column other_columns declares declares_role role_at is_kind
array_pattern elements = λ start stop.
    ap (λ xs. (xs ++ []) ++ []) (entered (first_column (each (row ArrayPattern).columns)) (many elements done) elements refl) ∙ twice (bound_in elements)

rest_element : (argument : Tree) → Binds RestElement (alone argument) (bound_names argument)
unfolding bound first_column other_columns declares declares_role role_at is_kind
rest_element argument = λ start stop. one argument

assignment_pattern : (left right : Tree) → Binds AssignmentPattern (before left (alone right)) (bound_names left)
unfolding bound first_column other_columns declares declares_role role_at is_kind
assignment_pattern left right = λ start stop. one left

declarator : (id : Tree) (init : Option Tree) → Binds VariableDeclarator (before id (item_of init)) (bound_names id)
unfolding bound first_column other_columns declares declares_role role_at is_kind
declarator id None = λ start stop. one id
declarator id (Some init) = λ start stop. one id

declaration : (kind : Atom) (declarators : Parts) → Binds VariableDeclaration (atom kind (many declarators done)) (bound_in declarators)
unfolding bound first_column other_columns declares declares_role role_at is_kind
declaration kind declarators = λ start stop.
    ap (λ xs. (xs ++ []) ++ []) (entered (first_column (other_columns (each (row VariableDeclaration).columns))) (atom kind (many declarators done)) declarators refl) ∙ twice (bound_in declarators)

function_declaration : (id body : Tree) (params : Parts) (generator is_async expression : Atom) → Binds FunctionDeclaration (before id (atom generator (atom is_async (many params (before body (atom expression done)))))) (bound_names id)
unfolding bound first_column other_columns declares declares_role role_at is_kind
function_declaration id body params generator is_async expression = λ start stop.
    ap (λ xs. (of_node id ++ (xs ++ [])) ++ [])
    (passed_over (first_column (other_columns (other_columns (other_columns (each (row FunctionDeclaration).columns))))) (before id (atom generator (atom is_async (many params (before body (atom expression done)))))) params refl)
    ∙ one id

class_declaration : (id body : Tree) (super_class : Option Tree) → Binds ClassDeclaration (before id (onto (item_of super_class) (alone body))) (bound_names id)
unfolding bound first_column other_columns declares declares_role role_at is_kind
class_declaration id body None = λ start stop. one id
class_declaration id body (Some super_class) = λ start stop. one id

no_items : bound_in done ≡ []
unfolding bound
no_items = refl

hole : (more : Parts) → bound_in (atom empty more) ≡ bound_in more
unfolding bound other_columns
hole more = refl

item : (t : Tree) (more : Parts) → bound_in (before t more) ≡ bound_names t ++ bound_in more
unfolding bound first_column other_columns declares declares_role role_at is_kind
item t more = ap (λ xs. xs ++ bound_in more) (sym (append-nil (of_node t)))

pub by_kind : BindByKind
by_kind = record {
  identifier = identifier;
  property = property;
  object_pattern = object_pattern;
  array_pattern = array_pattern;
  rest_element = rest_element;
  assignment_pattern = assignment_pattern;
  declarator = declarator;
  declaration = declaration;
  function_declaration = function_declaration;
  class_declaration = class_declaration;
  no_items = no_items;
  hole = hole;
  item = item;
}
