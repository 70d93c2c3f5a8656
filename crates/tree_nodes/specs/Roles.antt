-- The role that a field gives to an Identifier in it.
use Rattle.std.specs.Prelude.{ℕ, zero, suc, Bool, ◌||◌, if◌then◌else◌}
use Rattle.tree_nodes.specs.Tree.{Parts, flag_of, is_empty, part, word_of}
use Rattle.tree_nodes.specs.declared.table.Declared.{Declared}
use Rattle.tree_nodes.specs.declared.table.Declared.TheVariants.{Const, Function, FunctionName, Let, Var}
use Rattle.tree_nodes.specs.declared.table.Mode.{Mode}
use Rattle.tree_nodes.specs.declared.table.Mode.TheVariants.{ByKind, ByOperator, Gives, Leaves, NamesExpression, NamesFunction, Same, UnlessComputed, UnlessOptional, UnlessSource}
use Rattle.tree_nodes.specs.declared.table.Role.{Role}
use Rattle.tree_nodes.specs.declared.table.Role.TheVariants.{Called, Declares, Plain, Read, ReadWrite, Write}

-- the declaring role of a declaration of the n-th word: `using` and `await using` declare as `const`
unfoldable pub declared_by : ℕ → Declared
declared_by zero = Var
declared_by (suc zero) = Let
declared_by (suc (suc n)) = Const

unfoldable pub written_by : ℕ → Role
written_by zero = Write
written_by (suc n) = ReadWrite

-- whether a function with these fields is async or a generator
unfoldable pub is_special : ℕ → ℕ → Parts → Bool
is_special i j fields = flag_of (part fields i) || flag_of (part fields j)

-- the role in a field of this mode, in a node of this role with these fields
unfoldable pub role_at : Mode → Role → Parts → Role
role_at (Gives r) own fields = r
role_at Same own fields = own
role_at Leaves own fields = elim own [ ReadWrite ↦ Write | r ↦ r ]
role_at (UnlessComputed i r) own fields = if flag_of (part fields i) then Read else r
role_at (ByKind i) own fields = Declares (declared_by (word_of (part fields i)))
role_at (UnlessOptional i) own fields = if flag_of (part fields i) then Read else Called
role_at (ByOperator i) own fields = written_by (word_of (part fields i))
role_at (UnlessSource i) own fields = if is_empty (part fields i) then Read else Plain
role_at (NamesFunction i j) own fields = Declares (Function (is_special i j fields))
role_at (NamesExpression i j) own fields = Declares (FunctionName (is_special i j fields))
