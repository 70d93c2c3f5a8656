-- Structs and lists that stand open, and what ends them.
use Rattle.std.specs.Prelude.{ℕ, suc, pos, List, [], ◌∷◌, ◌++◌, Bool, true, false, cond, map, codes}
use Rattle.json_text.specs.Json.{list, object, whole, Items, no_items, item, Members, no_members, member}
use Rattle.json_text.specs.Units.{units_of}
use Rattle.oxc_estree.specs.Out.{Out, Flags, Part, key, index, Meaning, plain, wrote, begun_struct, begun_field, ended_field, ended_struct, begun_list, begun_element, ended_list, is_zero}

-- a key, as the bytes of its text, and what stands there
pub record Field : Type 0 where
  pub name : List ℕ
  pub meaning : Meaning

-- A struct: what was written, whether its opening brace is among it, and whether it has no field yet.
pub record OpenStruct : Type 0 where
  pub out : Out
  pub begun : Bool
  pub first : Bool

-- A list: what was written, whether its opening bracket is among it, and how many elements it has.
pub record OpenList : Type 0 where
  pub out : Out
  pub begun : Bool
  pub count : ℕ

-- a struct of which nothing is written yet, and one of which the brace is
abbrev pub new_struct : Out → OpenStruct
new_struct o = record { out = o; begun = false; first = true }

abbrev pub opened : Out → OpenStruct
opened o = record { out = begun_struct o; begun = true; first = true }

-- with the opening brace
abbrev pub with_brace : OpenStruct → Out
with_brace s = cond s.begun s.out (begun_struct s.out)

abbrev pub add_field : OpenStruct → List ℕ → Meaning → OpenStruct
add_field s k m =
    record { out = ended_field (wrote (begun_field s.first k (with_brace s)) m); begun = true; first = false }

abbrev pub closed : OpenStruct → Out
closed s = ended_struct s.first (with_brace s)

abbrev pub add_fields : OpenStruct → List Field → OpenStruct
add_fields s [] = s
add_fields s (f ∷ fs) = add_fields (add_field s f.name f.meaning) fs

abbrev pub members_of : List Field → Members
members_of [] = no_members
members_of (f ∷ fs) = member (units_of f.name) f.meaning.value (members_of fs)

abbrev pub field_marks : List Field → List (List Part)
field_marks [] = []
field_marks (f ∷ fs) = map (λ m. key f.name ∷ m) f.meaning.marks ++ field_marks fs

-- the struct of these fields
abbrev pub object_of : List Field → Meaning
object_of fs = record { value = object (members_of fs); marks = field_marks fs }

-- a field that is there only without TS fields, and one that is there only with them
abbrev pub js_field : Flags → List ℕ → Meaning → List Field
js_field f k m = cond f.ts [] (record { name = k; meaning = m } ∷ [])

abbrev pub ts_field : Flags → List ℕ → Meaning → List Field
ts_field f k m = cond f.ts (record { name = k; meaning = m } ∷ []) []

-- a list of which nothing is written yet, and one of which the bracket is
abbrev pub new_list : Out → OpenList
new_list o = record { out = o; begun = false; count = 0 }

abbrev pub opened_list : Out → OpenList
opened_list o = record { out = begun_list o; begun = true; count = 0 }

-- with the opening bracket
abbrev pub with_bracket : OpenList → Out
with_bracket s = cond s.begun s.out (begun_list s.out)

abbrev pub add_element : OpenList → Meaning → OpenList
add_element s m =
    record { out = ended_field (wrote (begun_element s.count (with_bracket s)) m); begun = true; count = suc s.count }

abbrev pub closed_list : OpenList → Out
closed_list s = ended_list (is_zero s.count) (with_bracket s)

abbrev pub add_elements : OpenList → List Meaning → OpenList
add_elements s [] = s
add_elements s (m ∷ ms) = add_elements (add_element s m) ms

abbrev pub items_of : List Meaning → Items
items_of [] = no_items
items_of (m ∷ ms) = item m.value (items_of ms)

abbrev pub element_marks : ℕ → List Meaning → List (List Part)
element_marks i [] = []
element_marks i (m ∷ ms) = map (λ p. index i ∷ p) m.marks ++ element_marks (suc i) ms

-- the list of these elements
abbrev pub list_of : List Meaning → Meaning
list_of ms = record { value = list (items_of ms); marks = element_marks 0 ms }

abbrev pub number : ℕ → Meaning
number n = plain (whole (pos n))

-- the field with both ends of a span, where ranges are asked for
abbrev pub range_field : Flags → ℕ → ℕ → List Field
range_field f start end =
    cond f.ranges (record { name = codes "range"; meaning = list_of (number start ∷ number end ∷ []) } ∷ []) []

-- the fields of a span
abbrev pub span_fields : Flags → ℕ → ℕ → List Field
span_fields f start end =
    record { name = codes "start"; meaning = number start }
    ∷ record { name = codes "end"; meaning = number end }
    ∷ range_field f start end
