-- What each kind of pattern and of declaration binds, field by field.
use Rattle.std.specs.Prelude.{◌≡◌, ℕ, List, [], ◌∷◌, ◌++◌, Option}
use Rattle.tree_nodes.specs.Look.{onto}
use Rattle.tree_nodes.specs.Tree.{Atom, Parts, Tree, alone, atom, before, done, empty, many}
use Rattle.tree_nodes.specs.Views.{item_of}
use Rattle.tree_nodes.specs.declared.kind.Kind.{Kind}
use Rattle.tree_nodes.specs.declared.kind.Kind.TheVariants.{ArrayPattern, AssignmentPattern, ClassDeclaration, FunctionDeclaration, Identifier, ObjectPattern, Property, RestElement, VariableDeclaration, VariableDeclarator}
use Rattle.tree_patterns.specs.BoundNames.{bound_in, bound_names}

abbrev pub made : Kind → ℕ → ℕ → Parts → Tree
made kind start stop fields = record { kind = kind; start = start; stop = stop; fields = fields }

-- a node of this kind with these fields binds these names
abbrev pub Binds : Kind → Parts → List Tree → Type 0
Binds kind fields names = (start stop : ℕ) → bound_names (made kind start stop fields) ≡ names

pub record BindByKind : Type 0 where
  pub identifier : (start stop : ℕ) (fields : Parts) → bound_names (made Identifier start stop fields) ≡ made Identifier start stop fields ∷ []
  -- not the key, computed or not
  pub property : (kind method shorthand computed : Atom) (key value : Tree) → Binds Property (atom kind (before key (before value (atom method (atom shorthand (atom computed done)))))) (bound_names value)
  pub object_pattern : (properties : Parts) → Binds ObjectPattern (many properties done) (bound_in properties)
  pub array_pattern : (elements : Parts) → Binds ArrayPattern (many elements done) (bound_in elements)
  pub rest_element : (argument : Tree) → Binds RestElement (alone argument) (bound_names argument)
  -- not the default
  pub assignment_pattern : (left right : Tree) → Binds AssignmentPattern (before left (alone right)) (bound_names left)
  pub declarator : (id : Tree) (init : Option Tree) → Binds VariableDeclarator (before id (item_of init)) (bound_names id)
  pub declaration : (kind : Atom) (declarators : Parts) → Binds VariableDeclaration (atom kind (many declarators done)) (bound_in declarators)
  -- neither parameters nor body
  pub function_declaration : (id body : Tree) (params : Parts) (generator is_async expression : Atom) → Binds FunctionDeclaration (before id (atom generator (atom is_async (many params (before body (atom expression done)))))) (bound_names id)
  pub class_declaration : (id body : Tree) (super_class : Option Tree) → Binds ClassDeclaration (before id (onto (item_of super_class) (alone body))) (bound_names id)
  -- of a list those of its nodes in order, holes or not
  pub no_items : bound_in done ≡ []
  pub hole : (more : Parts) → bound_in (atom empty more) ≡ bound_in more
  pub item : (t : Tree) (more : Parts) → bound_in (before t more) ≡ bound_names t ++ bound_in more
