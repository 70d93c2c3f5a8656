-- The places of a tree, each with what holds where it stands, found by one walk over the node table. A place is an Identifier or PrivateIdentifier of the tree. Its site is all of it but the name, and no walk looks at a name: so a renaming cannot move a place.
use Rattle.std.specs.Prelude.{ℕ, suc, Bool, true, false, ◌||◌, nat_eq, List, [], ◌∷◌, ◌++◌, reverse, length, bytes_eq, codes, if◌then◌else◌}
use Rattle.tree_nodes.specs.Along.{Along, all, each, first_column, other_columns}
use Rattle.tree_nodes.specs.Roles.{role_at}
use Rattle.tree_nodes.specs.Table.{Column, Row, row, unlisted}
use Rattle.tree_nodes.specs.Tree.{Parts, Text, atom, child, done, flag, is_empty, many, part, text, text_of, word_of}
use Rattle.tree_nodes.specs.declared.kind.Kind.{Kind}
use Rattle.tree_nodes.specs.declared.kind.Kind.TheVariants.{ArrowFunctionExpression, BlockStatement, ClassExpression, ExpressionStatement, FunctionExpression, Identifier, PrivateIdentifier, Property}
use Rattle.tree_nodes.specs.declared.table.Mark.{Mark}
use Rattle.tree_nodes.specs.declared.table.Mark.TheVariants.{Body, Declarator, Exported, Head, Rest, Usual, Valued}
use Rattle.tree_nodes.specs.declared.table.Mode.{Mode}
use Rattle.tree_nodes.specs.declared.table.Mode.TheVariants.{Leaves, Same}
use Rattle.tree_nodes.specs.declared.table.Opens.{Opens}
use Rattle.tree_nodes.specs.declared.table.Opens.TheVariants.{BareBlock, Block, ClassMembers, Hoisting, NameHere, Nothing, PrivateNameHere, WithBody}
use Rattle.tree_nodes.specs.declared.table.Role.{Role}
use Rattle.tree_nodes.specs.declared.table.Role.TheVariants.{Plain}
use Rattle.tree_nodes.specs.declared.table.Strict.{Strict}
use Rattle.tree_nodes.specs.declared.table.Strict.TheVariants.{Always, AsOutside, ByBlock, ByList}
use Rattle.tree_places.specs.Scopes.{Scope, number_of}

-- the expression that gives an Identifier its value, as far as that value takes its own name from it (ECMA-262, NamedEvaluation)
pub data Value : Type 0 where
  no_value : Value
  other_value : Value
  anonymous_function : Value
  anonymous_class : Value

-- what holds where a node stands
pub record Setting : Type 0 where
  -- what an Identifier is here
  pub role : Role
  pub scope : Scope
  -- the nearest scope outwards that a `var` may declare in
  pub var_scope : Scope
  -- the class bodies around it, by number, from inside out
  pub classes : List ℕ
  -- the scopes in whose parameters or catch pattern it lies
  pub heads : List ℕ
  pub strict : Bool
  -- it lies in the declaration of an export
  pub exported : Bool
  -- a block here opens no scope of its own
  pub bare : Bool
  pub value : Value
  -- the declarator in whose pattern it lies, by number, and whether it lies in a rest there
  pub pattern : List ℕ
  pub in_rest : Bool

-- a place but for its name: its node's number in printing order, where the node starts, whether it is a private name's
pub record Site : Type 0 where
  pub node : ℕ
  pub start : ℕ
  pub private : Bool
  pub setting : Setting

-- a site under a name
pub record Named (N : Type 0) : Type 0 where
  pub site : Site
  pub name : N

abbrev pub Place : Type 0
Place = Named Text

-- ---- strict code (ECMA-262, Directive Prologues and Strict Mode Code)

abbrev pub use_strict : Text
use_strict = codes "use strict"

-- whether the leading statements with a directive, their second field, include `use strict`
unfoldable pub directs : Parts → Bool
directs (child ExpressionStatement start stop fields more) = elim (part fields 1) [ atom (text t) r ↦ bytes_eq t use_strict || directs more | _ ↦ false ]
directs _ = false

unfoldable pub list_items : Parts → Parts
list_items (many items more) = items
list_items _ = done

unfoldable pub block_items : Parts → Parts
block_items (child BlockStatement start stop fields more) = list_items (part fields 0)
block_items _ = done

-- whether the code in a node with these fields is strict: a module's always
unfoldable pub strict_in : Strict → Bool → Parts → Bool
strict_in AsOutside outside fields = outside
strict_in Always outside fields = true
strict_in (ByList i j) outside fields = nat_eq (word_of (part fields i)) 1 || directs (list_items (part fields j))
strict_in (ByBlock i) outside fields = outside || directs (block_items (part fields i))

-- ---- from a node to its fields

-- what holds around a node, and what holds in the scope that it opens
pub record Around : Type 0 where
  pub outside : Setting
  pub inside : Setting
  pub fields : Parts
  pub number : ℕ

unfoldable pub side : Bool → Around → Setting
side true a = a.inside
side false a = a.outside

unfoldable pub naming_value : Parts → Value
naming_value (child ArrowFunctionExpression start stop fields r) = anonymous_function
naming_value (child FunctionExpression start stop fields r) = if is_empty (part fields 0) then anonymous_function else other_value
naming_value (child ClassExpression start stop fields r) = if is_empty (part fields 0) then anonymous_class else other_value
naming_value _ = other_value

-- what the mark of a field does, in a node with these fields, whose number is n and which opens this scope
unfoldable pub with_mark : Mark → Parts → ℕ → List ℕ → Setting → Setting
with_mark Usual fields n opened e = e
with_mark Body fields n opened e = record e { bare = true }
with_mark Head fields n opened e = record e { heads = opened ++ e.heads }
with_mark Exported fields n opened e = record e { exported = true }
with_mark (Valued i) fields n opened e = record e { value = naming_value (part fields i) }
with_mark (Declarator i) fields n opened e = record e { value = naming_value (part fields i); pattern = n ∷ []; in_rest = false }
with_mark Rest fields n opened e = record e { in_rest = true }

-- a pattern goes on through the fields that pass the node's role on
unfoldable pub pattern_on : Mode → List ℕ → List ℕ
pattern_on Same declarator = declarator
pattern_on Leaves declarator = declarator
pattern_on _ declarator = []

-- what holds in a field, where e holds on its side of the node
unfoldable pub field_setting : Column → Around → Setting → Setting
field_setting f a e =
    with_mark f.mark a.fields a.number (number_of a.inside.scope)
    (record e { role = role_at f.mode a.outside.role a.fields; bare = false; value = no_value; pattern = pattern_on f.mode e.pattern })

unfoldable pub at_field : Column → Around → Setting
at_field f a = field_setting f a (side f.inside a)

-- what holds inside a node where e holds, if n scopes and c class bodies come before it
unfoldable pub opened : Opens → ℕ → ℕ → Setting → Setting
opened Nothing n c e = e
opened Block n c e = record e { scope = n ∷ e.scope }
opened BareBlock n c e = if e.bare then e else record e { scope = n ∷ e.scope }
opened WithBody n c e = record e { scope = n ∷ e.scope }
opened Hoisting n c e = record e { scope = n ∷ e.scope; var_scope = n ∷ e.scope }
opened ClassMembers n c e = record e { classes = c ∷ e.classes }
opened NameHere n c e = e
opened PrivateNameHere n c e = e

-- ---- what no walk looks at: a name, and a shorthand mark

-- a Property's fields with its shorthand mark, the fifth, off
unfoldable pub unmarked : Parts → Parts
unmarked (atom kind (child k s e key (child k' s' e' value (atom method (atom (flag mark) more))))) =
    atom kind (child k s e key (child k' s' e' value (atom method (atom (flag false) more))))
unmarked fields = fields

-- the fields of an Identifier or PrivateIdentifier with the name emptied
unfoldable pub unnamed : Parts → Parts
unnamed (atom (text x) more) = atom (text []) more
unnamed fields = fields

-- a node's fields without what a renaming may change
unfoldable pub hide : Kind → Parts → Parts
hide Identifier fields = unnamed fields
hide PrivateIdentifier fields = unnamed fields
hide Property fields = unmarked fields
hide _ fields = fields

-- ---- the walk

-- what the walk has met: how many nodes and class bodies, and, the last first, the scopes, the sites, the scopes around the WithStatements
pub record Seen : Type 0 where
  pub nodes : ℕ
  pub classes : ℕ
  pub scopes : List Scope
  pub sites : List Site
  pub withs : List Scope

unfoldable pub enter : Row → Parts → Setting → Seen → Around
enter r fields e s = record {
  outside = e;
  inside = opened r.opens (length s.scopes) s.classes (record e { strict = strict_in r.strict e.strict fields });
  fields = fields;
  number = s.nodes;
}

-- a node is met that opens this and starts at b, where e holds and inner is the scope inside it
unfoldable pub met : Opens → ℕ → Setting → Scope → Seen → Seen
met Nothing b e inner s = record s { nodes = suc s.nodes }
met Block b e inner s = record s { nodes = suc s.nodes; scopes = inner ∷ s.scopes }
met BareBlock b e inner s = record s { nodes = suc s.nodes; scopes = if e.bare then s.scopes else inner ∷ s.scopes }
met WithBody b e inner s = record s { nodes = suc s.nodes; scopes = inner ∷ s.scopes; withs = e.scope ∷ s.withs }
met Hoisting b e inner s = record s { nodes = suc s.nodes; scopes = inner ∷ s.scopes }
met ClassMembers b e inner s = record s { nodes = suc s.nodes; classes = suc s.classes }
met NameHere b e inner s = record s { nodes = suc s.nodes; sites = record { node = s.nodes; start = b; private = false; setting = e } ∷ s.sites }
met PrivateNameHere b e inner s = record s { nodes = suc s.nodes; sites = record { node = s.nodes; start = b; private = true; setting = e } ∷ s.sites }

-- over a run of parts, with the columns beside it
unfoldable pub walk : Parts → Along → Around → Seen → Seen
walk done columns a s = s
walk (atom x more) columns a s = walk more (other_columns columns) a s
walk (many items more) columns a s = walk more (other_columns columns) a (walk items (all (first_column columns)) a s)
walk (child k b e fields more) columns a s =
    let here : Setting = at_field (first_column columns) a in
    let around : Around = enter (row k) (hide k fields) here s in
    walk more (other_columns columns) a (walk fields (each (row k).columns) around (met (row k).opens b here around.inside.scope s))

unfoldable pub nowhere : Setting
nowhere = record { role = Plain; scope = []; var_scope = []; classes = []; heads = []; strict = false; exported = false; bare = false; value = no_value; pattern = []; in_rest = false }

unfoldable pub before_all : Around
before_all = record { outside = nowhere; inside = nowhere; fields = done; number = 0 }

unfoldable pub nothing_yet : Seen
nothing_yet = record { nodes = 0; classes = 0; scopes = []; sites = []; withs = [] }

-- all that the walk of a tree meets. Here and below a tree is a run of one node
unfoldable pub seen : Parts → Seen
seen t = walk t (all unlisted) before_all nothing_yet

-- in printing order, so that the n-th scope, from 0, has the number n: the scopes, the sites, the scopes around the WithStatements
unfoldable pub scopes : Parts → List Scope
scopes t = reverse (seen t).scopes

unfoldable pub sites : Parts → List Site
sites t = reverse (seen t).sites

unfoldable pub withs : Parts → List Scope
withs t = reverse (seen t).withs

-- ---- names

unfoldable pub is_place : Opens → Bool
is_place NameHere = true
is_place PrivateNameHere = true
is_place _ = false

-- the names at the places, in printing order
unfoldable pub names : Parts → List Text
names done = []
names (atom x more) = names more
names (many items more) = names items ++ names more
names (child k s e fields more) = (if is_place (row k).opens then text_of fields ∷ names fields else names fields) ++ names more

-- each site under the name beside it
unfoldable pub named_by : {N : Type 0} → List Site → List N → List (Named N)
named_by (s ∷ ss) (x ∷ xs) = record { site = s; name = x } ∷ named_by ss xs
named_by [] xs = []
named_by (s ∷ ss) [] = []

unfoldable pub places : Parts → List Place
places t = named_by (sites t) (names t)
