-- The value of a tree, and the paths to its literals that are marked.
use Rattle.std.specs.Prelude.{ℕ, suc, pos, Bool, true, false, ◌&&◌, List, [], ◌∷◌, ◌++◌, map, get_or, codes, if◌then◌else◌}
use Rattle.json_text.specs.Json.{Json, null, truth, whole as number, string, list, object, Items, no_items, item, Members, no_members, member}
use Rattle.tree_nodes.specs.declared.table.Class.{Class as FieldClass}
use Rattle.json_text.specs.Units.{units_of}
use Rattle.oxc_estree.specs.Out.{Meaning, Part, key, index, path_value}
use Rattle.tree_nodes.specs.Literals.{is_fixed}
use Rattle.tree_nodes.specs.Table.{Column, row, word_list}
use Rattle.tree_nodes.specs.Tree.{Atom, Parts, Tree, atom, child, done, empty, flag, many, text, units, whole, word}
use Rattle.tree_nodes.specs.declared.kind.Kind.{Kind}
use Rattle.tree_nodes.specs.declared.kind.Kind.TheVariants.{Literal}
use Rattle.tree_nodes.specs.declared.table.Class.TheVariants.{Pattern, Raw, Word}

abbrev pub word_text : FieldClass → ℕ → List ℕ
word_text (Word w) k = get_or (word_list w) k []
word_text _ k = []

abbrev pub atom_value : FieldClass → Atom → Json
atom_value c empty = null
atom_value c (flag b) = truth b
atom_value c (word k) = string (word_text c k)
atom_value c (text t) = string (units_of t)
atom_value c (units us) = string us
atom_value c (whole n) = number (pos n)

abbrev pub is_null_atom : Atom → Bool
is_null_atom empty = true
is_null_atom _ = false

-- the first of two fields in one object takes the member after it into that object
abbrev pub held : List ℕ → List ℕ → Json → Members → Members
held outer k v no_members = no_members
held outer k v (member l w more) = member outer (object (member k v (member l w no_members))) more

abbrev pub without_next : Members → Members
without_next no_members = no_members
without_next (member l w more) = more

-- the members of a field and of those after it; `regex` is left out where there is none
abbrev pub put_member : Column → Atom → Members → Members
put_member c a rest = elim c.class [
  | Pattern ↦ (if is_null_atom a then without_next rest else held (codes "regex") c.key (atom_value c.class a) rest)
  | Raw ↦ held (codes "value") c.key (atom_value c.class a) rest
  | _ ↦ (if c.omit && is_null_atom a then rest else member c.key (atom_value c.class a) rest)
]

abbrev pub node_value : Kind → ℕ → ℕ → Members → Json
node_value k s e fields = object (member (codes "type") (string (row k).name) (member (codes "start") (number (pos s)) (member (codes "end") (number (pos e)) fields)))

abbrev mutual
  pub fields_value : Parts → List Column → Members
  fields_value done cs = no_members
  fields_value (atom a rest) [] = no_members
  fields_value (atom a rest) (c ∷ cs) = put_member c a (fields_value rest cs)
  fields_value (child k s e fs rest) [] = no_members
  fields_value (child k s e fs rest) (c ∷ cs) = member c.key (node_value k s e (fields_value fs (row k).columns)) (fields_value rest cs)
  fields_value (many items rest) [] = no_members
  fields_value (many items rest) (c ∷ cs) = member c.key (list (items_value items)) (fields_value rest cs)

  pub items_value : Parts → Items
  items_value done = no_items
  items_value (atom a rest) = item null (items_value rest)
  items_value (child k s e fs rest) = item (node_value k s e (fields_value fs (row k).columns)) (items_value rest)
  items_value (many items rest) = items_value rest

abbrev pub value_of : Tree → Json
value_of t = node_value t.kind t.start t.stop (fields_value t.fields (row t.kind).columns)

-- ---- paths

-- a Literal that JSON can't hold: it prints as null, and its `value` is marked
unfoldable pub is_marked : Kind → Parts → Bool
is_marked Literal fields = is_fixed fields
is_marked _ fields = false

-- the path from a node to itself, where it is such a Literal
abbrev pub own_path : Kind → Parts → List (List Part)
own_path k fields = if is_marked k fields then [] ∷ [] else []

abbrev mutual
  pub fields_paths : Parts → List Column → List (List Part)
  fields_paths done cs = []
  fields_paths (atom a rest) [] = []
  fields_paths (atom a rest) (c ∷ cs) = fields_paths rest cs
  fields_paths (child k s e fs rest) [] = []
  fields_paths (child k s e fs rest) (c ∷ cs) =
      map (λ p. key c.key ∷ p) (own_path k fs ++ fields_paths fs (row k).columns) ++ fields_paths rest cs
  fields_paths (many items rest) [] = []
  fields_paths (many items rest) (c ∷ cs) = map (λ p. key c.key ∷ p) (items_paths items 0) ++ fields_paths rest cs

  pub items_paths : Parts → ℕ → List (List Part)
  items_paths done i = []
  items_paths (atom a rest) i = items_paths rest (suc i)
  items_paths (child k s e fs rest) i =
      map (λ p. index i ∷ p) (own_path k fs ++ fields_paths fs (row k).columns) ++ items_paths rest (suc i)
  items_paths (many items rest) i = items_paths rest i

-- the paths from the root to the literals that are BigInt or RegExp, in printing order
abbrev pub fix_paths : Tree → List (List Part)
fix_paths t = own_path t.kind t.fields ++ fields_paths t.fields (row t.kind).columns

-- the value, and the path to the `value` of each such literal
abbrev pub meaning_of : Tree → Meaning
meaning_of t = record { value = value_of t; marks = map (λ p. p ++ key (codes "value") ∷ []) (fix_paths t) }

-- ---- both in one value

-- paths as a JSON list, each a list of its keys and positions
abbrev pub paths_value : List (List Part) → Items
paths_value [] = no_items
paths_value (p ∷ ps) = item (path_value p) (paths_value ps)

-- the object of exactly `node`, the value of a tree, and `fixes`, its fix paths
abbrev pub wrapped_value : Tree → Json
wrapped_value t = object (member (codes "node") (value_of t) (member (codes "fixes") (list (paths_value (fix_paths t))) no_members))
