use Rattle.std.proofs.Common.{ap, subst, arith}
use Rattle.std.specs.Str.{IsUtf8}
use Rattle.oxc_data_structures.proofs.RopeLines.{line-IsLine, line-le-start, line_of-IsInLine}
use Rattle.oxc_data_structures.specs.Rope.{line_start}
use Rattle.oxc_data_structures.proofs.rope.get_line_column.Goals as goal

pub range-requires-clause-start_le_end : goal.range-requires-clause-start_le_end
range-requires-clause-start_le_end c =
    omega (
      arith,
      c.start_of-start.ensures,
      ap (line_start c.args.rope.now) c.line_at-line.ensures.line,
      (line_of-IsInLine c.args.rope.now c.args.offset).from_start,
    )

pub range-requires-clause-start_boundary : goal.range-requires-clause-start_boundary
range-requires-clause-start_boundary c =
    let utf8 : IsUtf8 c.args.rope.now = subst IsUtf8 c.requires.own_text c.utf8.source_text in
    λ _. rw (c.requires.own_text, c.start_of-start.ensures)
    (line-IsLine c.args.rope.now c.line_at-line.result utf8 c.line_at-line.ensures.in_range).start_boundary

pub overflow_cast-result : goal.overflow_cast-result
overflow_cast-result c =
    omega (
      arith,
      line-le-start c.args.rope.now c.line_at-line.result c.line_at-line.ensures.in_range,
      c.start_of-start.ensures,
      c.start_of-start.type_inv,
    )
