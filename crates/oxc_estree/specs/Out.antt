-- What a serializer holds, what each step makes of it, and what a value adds.
use Rattle.std.specs.Prelude.{◌≡◌, ℕ, zero, suc, ◌-◌, pos, List, [], ◌∷◌, ◌++◌, Bool, true, false, cond, take, length}
use Rattle.json_text.specs.Json.{Json, whole, string, list, Items, no_items, item}
use Rattle.json_text.specs.Units.{units_of}
use Rattle.json_text.specs.Layout.{Layout, compact, deeper, shallower, start_layout}
use Rattle.json_text.specs.Text.{text_of, before, closing, key_text}

-- A step of a path: a key, as the bytes of its text, or a position in a list.
pub data Part : Type 0 where
  key : List ℕ → Part
  index : ℕ → Part

-- The text so far, where white space stands in it, the path of the field or element that is being
-- written (where fix paths are recorded), the text of the fix paths so far (a comma before each), and
-- what was asked for: whether fix paths are recorded, and whether there are TS fields and ranges.
pub record Out : Type 0 where
  pub text : List ℕ
  pub layout : Layout
  pub path : List Part
  pub fixes : List ℕ
  pub records : Bool
  pub ts : Bool
  pub ranges : Bool

-- What a value may go by: whether there are TS fields, and ranges.
pub record Flags : Type 0 where
  pub ts : Bool
  pub ranges : Bool

-- A value, and the paths of what is marked in it, in order; the empty path is the value's own mark.
pub record Meaning : Type 0 where
  pub value : Json
  pub marks : List (List Part)

abbrev pub flags : Out → Flags
flags o = record { ts = o.ts; ranges = o.ranges }

-- a value in which nothing is marked
abbrev pub plain : Json → Meaning
plain v = record { value = v; marks = [] }

-- a path less its last part
abbrev pub front : List Part → List Part
front ps = take (length ps - 1) ps

abbrev pub part_value : Part → Json
part_value (key k) = string (units_of k)
part_value (index i) = whole (pos i)

abbrev pub parts_items : List Part → Items
parts_items [] = no_items
parts_items (p ∷ ps) = item (part_value p) (parts_items ps)

-- a path as a JSON list
abbrev pub path_value : List Part → Json
path_value ps = list (parts_items ps)

-- what a path adds to the fix paths
abbrev pub path_text : List Part → List ℕ
path_text ps = 44 ∷ text_of compact (path_value ps)

-- what the marks of a value add that stands here: each path less its last part
abbrev pub fixes_text : List Part → List (List Part) → List ℕ
fixes_text here [] = []
fixes_text here (m ∷ ms) = path_text (front (here ++ m)) ++ fixes_text here ms

abbrev pub with_text : Out → List ℕ → Out
with_text o t = record o { text = t }

abbrev pub adds : Out → List ℕ → Out
adds o t = with_text o (o.text ++ t)

-- with the path to the node that holds the field which is being written
abbrev pub recorded : Out → Out
recorded o = record o { fixes = cond o.records (o.fixes ++ path_text (front o.path)) o.fixes }

-- with the text of a value, and the paths of its marks
abbrev pub wrote : Out → Meaning → Out
wrote o m = record o {
  text = o.text ++ text_of o.layout m.value;
  fixes = cond o.records (o.fixes ++ fixes_text o.path m.marks) o.fixes;
}

-- the layout inside a struct or list, of which it says whether nothing stands there yet
abbrev pub layout_inside : Bool → Layout → Layout
layout_inside first l = cond first (deeper l) l

-- the layout once a struct or list is closed, of which it says whether it is empty
abbrev pub layout_outside : Bool → Layout → Layout
layout_outside empty l = cond empty l (shallower l)

-- the path inside a field or element, and after it; there is no path where none is recorded
abbrev pub path_inside : Bool → List Part → Part → List Part
path_inside records path p = cond records (path ++ p ∷ []) path

abbrev pub path_outside : Bool → List Part → List Part
path_outside records path = cond records (front path) path

abbrev pub is_zero : ℕ → Bool
is_zero zero = true
is_zero (suc n) = false

abbrev pub begun_struct : Out → Out
begun_struct o = adds o (123 ∷ [])

abbrev pub begun_list : Out → Out
begun_list o = adds o (91 ∷ [])

abbrev pub begun_field : Bool → List ℕ → Out → Out
begun_field first k o = let l = layout_inside first o.layout in
    record o {
      text = o.text ++ (before first l ++ key_text l (units_of k));
      layout = l;
      path = path_inside o.records o.path (key k);
    }

abbrev pub begun_element : ℕ → Out → Out
begun_element i o = let l = layout_inside (is_zero i) o.layout in
    record o { text = o.text ++ before (is_zero i) l; layout = l; path = path_inside o.records o.path (index i) }

-- after a field, and after an element
abbrev pub ended_field : Out → Out
ended_field o = record o { path = path_outside o.records o.path }

abbrev pub ended_struct : Bool → Out → Out
ended_struct empty o = let l = layout_outside empty o.layout in
    record o { text = o.text ++ (closing empty l ++ 125 ∷ []); layout = l }

abbrev pub ended_list : Bool → Out → Out
ended_list empty o = let l = layout_outside empty o.layout in
    record o { text = o.text ++ (closing empty l ++ 93 ∷ []); layout = l }

-- nothing is written yet
abbrev pub new_out : Bool → Bool → Bool → Bool → Out
new_out records is_compact ts ranges = record {
  text = [];
  layout = start_layout is_compact;
  path = [];
  fixes = [];
  records = records;
  ts = ts;
  ranges = ranges;
}

-- nothing is written yet, and this is the layout
abbrev pub IsNew : Bool → Out → Type 0
IsNew is_compact o = o ≡ new_out o.records is_compact o.ts o.ranges
