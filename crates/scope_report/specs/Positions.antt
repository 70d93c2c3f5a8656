-- The line and the column of each offset of a text.
use Rattle.std.specs.Prelude.{◌≡◌, ◌+◌, ℕ, List, Some, slice_get, if◌then◌else◌}
use Rattle.std.specs.Str.{IsCharBoundary}
use Rattle.oxc_data_structures.specs.Rope.{column_of, ends_line, len_utf16, line_of}
use Rattle.scope_report.specs.declared.positions.Position.{Position}
use Rattle.tree_nodes.specs.Tree.{Text}

unfoldable pub position_of : Text → ℕ → Position
position_of text offset = record { line = line_of text offset; column = column_of text offset }

-- behind a character that these follow
unfoldable pub position_past : Position → ℕ → List ℕ → Position
position_past p c following = if ends_line c following then record { line = p.line + 1; column = 0 } else record { line = p.line; column = p.column + len_utf16 c }

-- by offset, where the text may be cut
abbrev pub ArePositions : Text → List Position → Type 0
ArePositions text ps = (offset : ℕ) → IsCharBoundary text offset → slice_get ps offset ≡ Some (position_of text offset)
