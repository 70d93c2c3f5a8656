-- A program beside a map: as a text, as a JSON value, and in a value that was read.
use Rattle.std.specs.Prelude.{ℕ, false, List, ◌++◌, codes, Option, option_and_then}
use Rattle.json_text.specs.Json.{Json, object, no_members, member}
use Rattle.json_text.specs.Layout.{compact}
use Rattle.json_text.specs.Text.{text_of}
use Rattle.name_map.specs.Reading.{map_of}
use Rattle.name_map.specs.Undoing.{Undoing}
use Rattle.name_map.specs.Written.{map_value}
use Rattle.oxc_estree.specs.Out.{Flags}
use Rattle.serde_json.specs.Data.{Data}
pub use Rattle.tool_commands.specs.Pairs.{both}
use Rattle.tool_commands.specs.Pairs.{pair_in}
use Rattle.tree_core.specs.JsonOf.{json_of}
use Rattle.tree_core.specs.Reading.{tree_of}
use Rattle.tree_core.specs.Values.{value_of}
use Rattle.tree_nodes.specs.Tree.{Tree}

-- neither TS fields nor ranges
abbrev pub plain_flags : Flags
plain_flags = record { ts = false; ranges = false }

-- ---- as it is written

abbrev pub mapped_text : Tree → Undoing → List ℕ
mapped_text u m = codes "{\"node\":\n" ++ (text_of compact (value_of u) ++ (codes "\n,\"map\":" ++ (text_of compact (map_value m) ++ codes "}")))

-- the value that the text is
abbrev pub mapped_value : Tree → Undoing → Json
mapped_value u m = object (member (codes "node") (value_of u) (member (codes "map") (map_value m) no_members))

-- ---- as it is read

-- a tree and a map
pub record Mapped : Type 0 where
  pub tree : Tree
  pub undoing : Undoing

abbrev pub mapped : Tree → Undoing → Mapped
mapped t m = record { tree = t; undoing = m }

-- those that a value has as its `node` and `map`
abbrev pub mapped_in : Data → Option Mapped
mapped_in d = option_and_then (λ p. both mapped (tree_of (json_of p.first)) (map_of (json_of p.second))) (pair_in (codes "node") (codes "map") d)
