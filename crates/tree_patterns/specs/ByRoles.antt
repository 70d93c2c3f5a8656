-- Bound names by the walk that hands each role on, and the law that they are the same, whichever role declares.
use Rattle.std.specs.Prelude.{◌≡◌, List, [], ◌∷◌, ◌++◌, if◌then◌else◌}
use Rattle.tree_nodes.specs.Along.{Along, all, each, first_column, other_columns}
use Rattle.tree_nodes.specs.Kinds.{is_kind}
use Rattle.tree_nodes.specs.Roles.{role_at}
use Rattle.tree_nodes.specs.Table.{row}
use Rattle.tree_nodes.specs.Tree.{Parts, Tree, alone, atom, child, done, many}
use Rattle.tree_nodes.specs.declared.kind.Kind.TheVariants.{Identifier}
use Rattle.tree_nodes.specs.declared.table.Declared.{Declared}
use Rattle.tree_nodes.specs.declared.table.Role.{Role}
use Rattle.tree_nodes.specs.declared.table.Role.TheVariants.{Declares}
use Rattle.tree_patterns.specs.BoundNames.{bound_names, declares, hands_on}

-- in a run beside these columns, of a node of this role with these fields: the Identifiers that get a declaring role, by fields that all declare
unfoldable pub declared : Parts → Along → Role → Parts → List Tree
declared done cs own within = []
declared (atom a more) cs own within = declared more (other_columns cs) own within
declared (many items more) cs own within = declared items (all (first_column cs)) own within ++ declared more (other_columns cs) own within
declared (child k s e fields more) cs own within =
    (if declares own (first_column cs) within
    then (if is_kind k Identifier then record { kind = k; start = s; stop = e; fields = fields } ∷ [] else declared fields (each (row k).columns) (role_at (first_column cs).mode own within) fields)
    else [])
    ++ declared more (other_columns cs) own within

abbrev pub declared_as : Role → Tree → List Tree
declared_as role t = declared (alone t) (all hands_on) role done

-- whichever declaring role a node stands in, its bound names are the Identifiers that are declared then
abbrev pub BoundNamesAreDeclared : Type 0
BoundNamesAreDeclared = (t : Tree) (d : Declared) → declared_as (Declares d) t ≡ bound_names t
