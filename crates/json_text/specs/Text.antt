-- The exact text of a value in a layout.
use Rattle.std.specs.Prelude.{ℕ, List, [], ◌∷◌, ◌++◌, Bool, true, false, cond, codes}
use Rattle.std.specs.Fmt.{signed_decimal}
use Rattle.json_text.specs.Json.{Json, null, truth, whole, other_number, string, list, object, Items, no_items, item, Members, no_members, member}
use Rattle.json_text.specs.Strings.{quoted_units}
use Rattle.json_text.specs.Layout.{Layout, deeper, new_line, space}

abbrev pub comma_unless : Bool → List ℕ
comma_unless first = cond first [] (44 ∷ [])

-- what stands before an element; l is the layout inside
abbrev pub before : Bool → Layout → List ℕ
before first l = comma_unless first ++ new_line l

-- what stands before the closing bracket; l is the layout outside
abbrev pub closing : Bool → Layout → List ℕ
closing empty l = cond empty [] (new_line l)

abbrev pub key_text : Layout → List ℕ → List ℕ
key_text l k = quoted_units k ++ 58 ∷ space l

abbrev mutual
  pub text_of : Layout → Json → List ℕ
  text_of l null = codes "null"
  text_of l (truth b) = cond b (codes "true") (codes "false")
  text_of l (whole n) = signed_decimal n
  text_of l other_number = []
  text_of l (string us) = quoted_units us
  text_of l (list xs) = 91 ∷ (items_text true l xs ++ 93 ∷ [])
  text_of l (object ms) = 123 ∷ (members_text true l ms ++ 125 ∷ [])

  -- the rest of a list, of which nothing stands there yet if first
  pub items_text : Bool → Layout → Items → List ℕ
  items_text first l no_items = closing first l
  items_text first l (item x xs) = before first (deeper l) ++ (text_of (deeper l) x ++ items_text false l xs)

  pub members_text : Bool → Layout → Members → List ℕ
  members_text first l no_members = closing first l
  members_text first l (member k x ms) = before first (deeper l) ++ (key_text (deeper l) k ++ (text_of (deeper l) x ++ members_text false l ms))
