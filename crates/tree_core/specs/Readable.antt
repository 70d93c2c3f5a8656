-- The columns that the reader takes, which all rows have, and what it reads in them.
use Rattle.std.specs.Prelude.{ℕ, Bool, ◌&&◌, List, Option, option_map, nat_lt}
use Rattle.std.specs.List.{list_all}
use Rattle.json_text.specs.Json.{Json, Members}
use Rattle.tree_core.specs.Reading.{outer_key, run_of, part_in, part_from, shape_of, list_of, or_hole}
use Rattle.tree_nodes.specs.Table.{Column}
use Rattle.tree_nodes.specs.Tree.{Parts, alone}

-- a key that is its own code units
abbrev pub is_ascii : List ℕ → Bool
is_ascii key = list_all (λ b. nat_lt b 128) key

-- its keys are their own code units
abbrev pub is_readable : Column → Bool
is_readable c = is_ascii (outer_key c) && is_ascii c.key

-- the field that a value is in a column
abbrev pub field_from : Column → Json → Option Parts
field_from c d = part_from c.class c.key d (shape_of d) (list_of d)

-- the fields of an object in these columns
abbrev pub fields_in : Members → List Column → Option Parts
fields_in ms cs = run_of (λ c. part_in ms c) cs

-- an item of a list, where holes are taken or not
abbrev pub item_from : Bool → Json → Option Parts
item_from holes d = or_hole holes d (option_map alone (shape_of d))

abbrev pub are_readable : List Column → Bool
are_readable cs = list_all is_readable cs
