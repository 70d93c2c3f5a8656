-- Bound names: the Identifiers that a pattern or a declaration itself declares, in printing order.
use Rattle.std.specs.Prelude.{◌≡◌, Bool, not, ◌&&◌, List, [], ◌∷◌, ◌++◌, map, All, if◌then◌else◌}
use Rattle.std.specs.Borrow.{Bor}
use Rattle.tree_nodes.specs.Along.{Along, all, each, first_column, other_columns}
use Rattle.tree_nodes.specs.Kinds.{is_kind}
use Rattle.tree_nodes.specs.Roles.{role_at}
use Rattle.tree_nodes.specs.Standing.{declares_role}
use Rattle.tree_nodes.specs.Table.{Column, mode, node, row}
use Rattle.tree_nodes.specs.Tree.{Parts, Tree, alone, atom, child, done, many}
use Rattle.tree_nodes.specs.declared.kind.Kind.TheVariants.{Identifier}
use Rattle.tree_nodes.specs.declared.table.Class.TheVariants.{Flag}
use Rattle.tree_nodes.specs.declared.table.Declared.TheVariants.{Let}
use Rattle.tree_nodes.specs.declared.table.Mode.TheVariants.{Same}
use Rattle.tree_nodes.specs.declared.table.Role.{Role}
use Rattle.tree_nodes.specs.declared.table.Role.TheVariants.{Declares}

-- the role in which a pattern stands that declares: one of them, since which one makes no difference here
abbrev pub declaring : Role
declaring = Declares Let

-- whether a field declares, in a node of this role: it gives a declaring role, and lies outside the scope that the node opens
unfoldable pub declares : Role → Column → Parts → Bool
declares own column fields = not column.inside && declares_role (role_at column.mode own fields)

-- in a run beside these columns, of a node with these fields: the Identifiers to which fields lead that all declare
unfoldable pub bound : Parts → Along → Parts → List Tree
bound done cs within = []
bound (atom a more) cs within = bound more (other_columns cs) within
bound (many items more) cs within = bound items (all (first_column cs)) within ++ bound more (other_columns cs) within
bound (child k s e fields more) cs within =
    (if declares declaring (first_column cs) within
    then (if is_kind k Identifier then record { kind = k; start = s; stop = e; fields = fields } ∷ [] else bound fields (each (row k).columns) fields)
    else [])
    ++ bound more (other_columns cs) within

-- a field that hands the role of its node on
abbrev pub hands_on : Column
hands_on = mode Same (node [] Flag)

-- in a run that stands where it declares
abbrev pub bound_in : Parts → List Tree
bound_in ps = bound ps (all hands_on) done

abbrev pub bound_names : Tree → List Tree
bound_names t = bound_in (alone t)

-- the trees that references to nodes stand for
abbrev pub trees_of : List (Bor Tree) → List Tree
trees_of nodes = map (λ n. n.now) nodes

-- each bound name is an Identifier
abbrev pub BoundNamesAreIdentifiers : Type 0
BoundNamesAreIdentifiers = (t : Tree) → All (λ (n : Tree). n.kind ≡ Identifier) (bound_names t)
