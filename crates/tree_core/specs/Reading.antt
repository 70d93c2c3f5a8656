-- The tree that a JSON value is: first its shape, each field of its class, then whether each node stands where it may.
use Rattle.std.specs.Prelude.{ℕ, pos, ◌^◌, ◌&&◌, ◌||◌, List, [], ◌∷◌, codes, Bool, true, false, not, if◌then◌else◌, nat_lt, Option, Some, None, option_map, option_and_then, bytes_eq, is_some}
use Rattle.std.specs.List.{position_from}
use Rattle.json_text.specs.Json.{Json, null, truth, whole as number, other_number, string, list, object, Items, no_items, item, Members, no_members, member}
use Rattle.tree_nodes.specs.declared.table.Class.{Class as FieldClass}
use Rattle.tree_nodes.specs.declared.table.Class.TheVariants.{Text as TextClass}
use Rattle.json_text.specs.Units.{are_code_units, text_of_units}
use Rattle.syntax_lex.specs.Identifier.{is_identifier_name}
use Rattle.tree_nodes.specs.Look.{onto}
use Rattle.tree_nodes.specs.Standing.{is_placed}
use Rattle.tree_nodes.specs.Table.{Column, Row, row_named, word_list}
use Rattle.tree_nodes.specs.Tree.{Atom, Parts, Text, Tree, alone, atom, done, empty, flag, many, text, units, whole, word}
use Rattle.tree_nodes.specs.declared.kind.Kind.{Kind}
use Rattle.tree_nodes.specs.declared.kind.Kind.TheVariants.{Literal}
use Rattle.tree_nodes.specs.declared.table.Class.TheVariants.{Cooked, Flag, Flags, Holes, LiteralValue, Many, ManyOr, Maybe, Name, One, Pattern, Raw, TextOr, Word}

-- ---- values

abbrev pub find_member : List ℕ → Members → Option Json
find_member k no_members = None
find_member k (member l d ms) = if bytes_eq l k then Some d else find_member k ms

-- no key stands twice
abbrev pub are_distinct : Members → Bool
are_distinct no_members = true
are_distinct (member k d ms) = not (is_some (find_member k ms)) && are_distinct ms

abbrev pub is_null_value : Json → Bool
is_null_value null = true
is_null_value _ = false

abbrev pub is_object : Option Json → Bool
is_object (Some (object ms)) = true
is_object _ = false

-- a string in which no surrogate stands alone, as a text
abbrev pub text_in : Json → Option Text
text_in (string us) = text_of_units us
text_in _ = None

-- a whole number below a bound
abbrev pub below : ℕ → Json → Option ℕ
below bound (number (pos n)) = if nat_lt n bound then Some n else None
below bound _ = None

abbrev pub units_in_list : Items → Option (List ℕ)
units_in_list no_items = Some []
units_in_list (item d ds) = option_and_then (λ u. option_map (λ us. u ∷ us) (units_in_list ds)) (below (2 ^ 16) d)

-- a string, or a list of code units
abbrev pub units_in : Json → Option (List ℕ)
units_in (string us) = if are_code_units us then Some us else None
units_in (list ds) = units_in_list ds
units_in _ = None

abbrev pub word_number : List (List ℕ) → List ℕ → Option ℕ
word_number ws s = position_from (λ x. bytes_eq x s) 0 ws

-- what a field that isn't listed may hold
abbrev pub is_blank : Json → Bool
is_blank null = true
is_blank (truth b) = not b
is_blank (list no_items) = true
is_blank _ = false

-- ---- one field

abbrev pub one : Atom → Parts
one a = atom a done

abbrev pub or_null : Json → Option Parts → Option Parts
or_null d p = if is_null_value d then Some (one empty) else p

-- of a Literal's value
abbrev pub value_part : Json → Option Parts
value_part null = Some (one empty)
value_part (truth b) = Some (one (flag b))
value_part (number n) = option_map (λ k. one (whole k)) (below (2 ^ 64) (number n))
value_part other_number = None
value_part (string us) = option_map (λ x. one (units x)) (units_in (string us))
value_part (list ds) = option_map (λ x. one (units x)) (units_in (list ds))
value_part (object no_members) = Some (one empty)
value_part (object (member k d ms)) = None

-- of an identifier name
abbrev pub name_part : Json → Option Parts
name_part d = option_and_then (λ x. if is_identifier_name x then Some (one (text x)) else None) (text_in d)

-- an object with these two keys and no others
abbrev pub has_only : List ℕ → List ℕ → Members → Bool
has_only k l no_members = true
has_only k l (member m d ms) = (bytes_eq m k || bytes_eq m l) && has_only k l ms

-- the object that holds a field, where one does
abbrev pub holder : FieldClass → Option (List ℕ)
holder Pattern = Some (codes "regex")
holder Flags = Some (codes "regex")
holder Raw = Some (codes "value")
holder Cooked = Some (codes "value")
holder _ = None

-- the key under which a node's object has the field
abbrev pub outer_key : Column → List ℕ
outer_key c = elim (holder c.class) [ Some k ↦ k | None ↦ c.key ]

-- of `regex`, both texts
abbrev pub regex_part : List ℕ → Json → Option Parts
regex_part k null = Some (one empty)
regex_part k (object ms) =
    if are_distinct ms && has_only (codes "pattern") (codes "flags") ms
    then option_map (λ t. one (text t)) (option_and_then text_in (find_member k ms)) else None
regex_part k _ = None

abbrev pub template_part : Bool → List ℕ → Json → Option Parts
template_part optional k (object ms) =
    if are_distinct ms && has_only (codes "raw") (codes "cooked") ms
    then elim (find_member k ms) [ None ↦ (if optional then Some (one empty) else None) | Some d ↦ (if optional && is_null_value d then Some (one empty) else option_map (λ us. one (units us)) (units_in d)) ] else None
template_part optional k _ = None

-- a field that is missing
abbrev pub absent : FieldClass → Option Parts
absent Flag = Some (one (flag false))
absent (Word w) = None
absent TextClass = None
absent TextOr = Some (one empty)
absent Name = None
absent LiteralValue = Some (one empty)
absent Pattern = Some (one empty)
absent Flags = Some (one empty)
absent Raw = None
absent Cooked = None
absent (One g) = None
absent (Maybe g) = Some (one empty)
absent (Many g) = None
absent (ManyOr g) = Some (many done done)
absent (Holes g) = None

-- a field that holds d, by the tree whose shape d has, and the list that it is, with holes or without
abbrev pub part_from : FieldClass → List ℕ → Json → Option Tree → (Bool → Option Parts) → Option Parts
part_from Flag k d t ts = elim d [ truth b ↦ Some (one (flag b)) | _ ↦ None ]
part_from (Word w) k d t ts = option_map (λ n. one (word n)) (option_and_then (word_number (word_list w)) (text_in d))
part_from TextClass k d t ts = option_map (λ x. one (text x)) (text_in d)
part_from TextOr k d t ts = or_null d (option_map (λ x. one (text x)) (text_in d))
part_from Name k d t ts = name_part d
part_from LiteralValue k d t ts = value_part d
part_from Pattern k d t ts = regex_part k d
part_from Flags k d t ts = regex_part k d
part_from Raw k d t ts = template_part false k d
part_from Cooked k d t ts = template_part true k d
part_from (One g) k d t ts = option_map alone t
part_from (Maybe g) k d t ts = or_null d (option_map alone t)
part_from (Many g) k d t ts = option_map (λ us. many us done) (ts false)
part_from (ManyOr g) k d t ts = option_map (λ us. many us done) (ts false)
part_from (Holes g) k d t ts = option_map (λ us. many us done) (ts true)

-- ---- a node

abbrev pub offset_of : Option Json → Option ℕ
offset_of None = Some 0
offset_of (Some d) = below (2 ^ 32) d

abbrev pub is_listed : List ℕ → List Column → Bool
is_listed k [] = false
is_listed k (c ∷ cs) = bytes_eq (outer_key c) k || is_listed k cs

abbrev pub is_known : List ℕ → List Column → Bool
is_known k cs = bytes_eq (codes "type") k || bytes_eq (codes "start") k || bytes_eq (codes "end") k || is_listed k cs

-- each field is listed, or blank
abbrev pub only_known : List Column → Members → Bool
only_known cs no_members = true
only_known cs (member k d ms) = (is_known k cs || is_blank d) && only_known cs ms

-- a Literal has an empty object as its value only beside `regex`
abbrev pub is_paired : Kind → Members → Bool
is_paired Literal ms = not (is_object (find_member (codes "value") ms)) || is_object (find_member (codes "regex") ms)
is_paired _ ms = true

-- the fields of these columns
abbrev pub run_of : (Column → Option Parts) → List Column → Option Parts
run_of part [] = Some done
run_of part (c ∷ cs) = option_and_then (λ p. option_map (onto p) (run_of part cs)) (part c)

-- the row of the kind that an object names
abbrev pub row_for : Members → Option Row
row_for ms = option_and_then row_named (option_and_then text_in (find_member (codes "type") ms))

-- the tree whose shape an object has, by the parts that its fields are
abbrev pub shape_from : Members → (Column → Option Parts) → Option Tree
shape_from ms part =
    option_and_then (λ (r : Row).
    option_and_then (λ s.
    option_and_then (λ e.
    if are_distinct ms && only_known r.columns ms && is_paired r.kind ms then option_map (λ ps. record { kind = r.kind; start = s; stop = e; fields = ps }) (run_of part r.columns) else None)
    (offset_of (find_member (codes "end") ms)))
    (offset_of (find_member (codes "start") ms)))
    (row_for ms)

abbrev pub or_hole : Bool → Json → Option Parts → Option Parts
or_hole holes d p = if holes && is_null_value d then Some (one empty) else p

abbrev mutual
  pub shape_of : Json → Option Tree
  shape_of (object ms) = shape_from ms (λ c. part_in ms c)
  shape_of _ = None

  pub list_of : Json → Bool → Option Parts
  list_of (list ds) holes = items_from ds holes
  list_of _ holes = None

  pub items_from : Items → Bool → Option Parts
  items_from no_items holes = Some done
  items_from (item d ds) holes = option_and_then (λ p. option_map (onto p) (items_from ds holes)) (or_hole holes d (option_map alone (shape_of d)))

  pub part_in : Members → Column → Option Parts
  part_in no_members c = absent c.class
  part_in (member k d ms) c = if bytes_eq k (outer_key c) then part_from c.class c.key d (shape_of d) (list_of d) else part_in ms c

-- ---- the tree

unfoldable pub tree_of : Json → Option Tree
tree_of v = option_and_then (λ t. if is_placed t then Some t else None) (shape_of v)
