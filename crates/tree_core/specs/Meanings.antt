-- What is printed of a tree, field by field: the values, and what is marked in them.
use Rattle.std.specs.Prelude.{ℕ, pos, Bool, true, false, not, ◌&&◌, ◌||◌, List, [], ◌∷◌, ◌++◌, codes, Option, Some, None, is_some, if◌then◌else◌}
use Rattle.json_text.specs.Json.{null, string, whole as number}
use Rattle.json_text.specs.Units.{units_of}
use Rattle.oxc_estree.specs.Open.{Field, OpenList, OpenStruct, list_of, object_of}
use Rattle.oxc_estree.specs.Out.{Meaning, Out, plain}
use Rattle.tree_nodes.specs.Table.{Column, row}
use Rattle.tree_nodes.specs.Tree.{Atom, Parts, Tree, atom, child, done, is_empty, many}
use Rattle.tree_core.specs.Values.{atom_value, is_marked, is_null_atom}
use Rattle.tree_nodes.specs.declared.kind.Kind.{Kind}
use Rattle.tree_nodes.specs.declared.table.Class.{Class as FieldClass}
use Rattle.tree_nodes.specs.declared.table.Class.TheVariants.{LiteralValue, Pattern, Raw}

abbrev pub field : List ℕ → Meaning → Field
field k m = record { name = k; meaning = m }

-- a struct that stands open, of which the brace is written
abbrev pub inside : Bool → Out → OpenStruct
inside first o = record { out = o; begun = true; first = first }

abbrev pub is_value_class : FieldClass → Bool
is_value_class LiteralValue = true
is_value_class _ = false

-- null, which stands for what JSON can't hold where it is marked
abbrev pub null_meaning : Bool → Meaning
null_meaning marked = record { value = null; marks = if marked then [] ∷ [] else [] }

-- of a node whose `value` is marked, or isn't
abbrev pub atom_meaning : Bool → FieldClass → Atom → Meaning
atom_meaning marked c a = if is_null_atom a then null_meaning (marked && is_value_class c) else plain (atom_value c a)

-- the first of two fields in one object takes the field after it into that object
abbrev pub held_field : List ℕ → Field → List Field → List Field
held_field outer f [] = []
held_field outer f (g ∷ more) = field outer (object_of (f ∷ g ∷ [])) ∷ more

abbrev pub without_next : List Field → List Field
without_next [] = []
without_next (g ∷ more) = more

-- a field and those after it, as `put_member` puts their values
abbrev pub put_field : Bool → Column → Atom → List Field → List Field
put_field marked c a rest = let f = field c.key (atom_meaning marked c.class a) in elim c.class [
  | Pattern ↦ (if is_null_atom a then without_next rest else held_field (codes "regex") f rest)
  | Raw ↦ held_field (codes "value") f rest
  | _ ↦ (if c.omit && is_null_atom a then rest else f ∷ rest)
]

abbrev pub head_fields : List ℕ → ℕ → ℕ → List Field
head_fields name s e = field (codes "type") (plain (string (units_of name)))
    ∷ field (codes "start") (plain (number (pos s))) ∷ field (codes "end") (plain (number (pos e))) ∷ []

-- a node with these fields
abbrev pub node_of : Kind → ℕ → ℕ → List Field → Meaning
node_of k s e fields = object_of (head_fields (row k).name s e ++ fields)

abbrev mutual
  pub field_meanings : Bool → Parts → List Column → List Field
  field_meanings marked done cs = []
  field_meanings marked (atom a rest) [] = []
  field_meanings marked (atom a rest) (c ∷ cs) = put_field marked c a (field_meanings marked rest cs)
  field_meanings marked (child k s e fs rest) [] = []
  field_meanings marked (child k s e fs rest) (c ∷ cs) =
      field c.key (node_of k s e (field_meanings (is_marked k fs) fs (row k).columns)) ∷ field_meanings marked rest cs
  field_meanings marked (many items rest) [] = []
  field_meanings marked (many items rest) (c ∷ cs) = field c.key (list_of (item_meanings items)) ∷ field_meanings marked rest cs

  pub item_meanings : Parts → List Meaning
  item_meanings done = []
  item_meanings (atom a rest) = plain null ∷ item_meanings rest
  item_meanings (child k s e fs rest) =
      node_of k s e (field_meanings (is_marked k fs) fs (row k).columns) ∷ item_meanings rest
  item_meanings (many items rest) = item_meanings rest

abbrev pub node_meaning : Tree → Meaning
node_meaning t = node_of t.kind t.start t.stop (field_meanings (is_marked t.kind t.fields) t.fields (row t.kind).columns)

-- one field alone, in a column of this class
abbrev pub part_meaning : Bool → FieldClass → Parts → Meaning
part_meaning marked c done = plain null
part_meaning marked c (atom a more) = atom_meaning marked c a
part_meaning marked c (child k s e fs more) = node_of k s e (field_meanings (is_marked k fs) fs (row k).columns)
part_meaning marked c (many items more) = list_of (item_meanings items)

-- one item of a list
abbrev pub item_meaning : Option Tree → Meaning
item_meaning None = plain null
item_meaning (Some t) = node_meaning t

abbrev pub inside_list : ℕ → Out → OpenList
inside_list i o = record { out = o; begun = true; count = i }

abbrev pub is_atom : Parts → Bool
is_atom (atom a more) = true
is_atom _ = false

-- the key of the object that a field of the class shares with the one after it
abbrev pub object_key : FieldClass → Option (List ℕ)
object_key Pattern = Some (codes "regex")
object_key Raw = Some (codes "value")
object_key _ = None

-- the same for a field that is this part
abbrev pub shared_key : FieldClass → Parts → Option (List ℕ)
shared_key class p = if is_atom p then object_key class else None

-- whether the object that begins with this part is left out
abbrev pub is_left_out : FieldClass → Parts → Bool
is_left_out Pattern p = is_empty p
is_left_out _ p = false

abbrev pub pair_meaning : Bool → Column → Parts → Column → Parts → Meaning
pair_meaning marked c p d q = object_of (field c.key (part_meaning marked c.class p) ∷ field d.key (part_meaning marked d.class q) ∷ [])

-- the object of two fields, which is left out where there is no second
abbrev pub shared_field : Bool → List ℕ → Column → Parts → Option Column → Option Parts → List Field
shared_field marked outer c p (Some d) (Some q) = if is_left_out c.class p then [] else field outer (pair_meaning marked c p d q) ∷ []
shared_field marked outer c p _ _ = []

-- a field of its own, which is left out where it is null and its column says so
abbrev pub single_field : Bool → Column → Parts → List Field
single_field marked c p = if c.omit && is_empty p then [] else field c.key (part_meaning marked c.class p) ∷ []

-- a field that lies in no object with another, and is printed also where it is null
abbrev pub is_always : Column → Bool
is_always c = not c.omit && not (is_some (object_key c.class))

abbrev pub has_next : FieldClass → List Column → Bool
has_next class [] = true
has_next class (c ∷ cs) = not (is_some (object_key class)) || is_always c

-- what shares its object with the field after it stands before one that does so with no other
abbrev pub are_paired : List Column → Bool
are_paired [] = true
are_paired (c ∷ cs) = has_next c.class cs && are_paired cs
