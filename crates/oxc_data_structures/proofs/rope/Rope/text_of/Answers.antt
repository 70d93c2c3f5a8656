use Rattle.std.proofs.Common.{◌∙◌, length, ap, subst, arith}
use Rattle.std.proofs.lemmas.Str.{IsUtf8-string_bytes}
use Rattle.std.specs.Str.{IsUtf8}
use Rattle.oxc_data_structures.proofs.RopeLines.{IsLine, line-IsLine}
use Rattle.oxc_data_structures.proofs.rope.Rope.text_of.Goals as goal

is_line : (c : goal.After-deref) → IsLine c.args.self.now c.args.line
is_line c = line-IsLine c.args.self.now c.args.line (subst IsUtf8 c.self.view_is (IsUtf8-string_bytes c.self.inside.text)) c.requires

pub range-requires-clause-start_le_end : goal.range-requires-clause-start_le_end
range-requires-clause-start_le_end c = omega (arith, c.start_of-start.ensures, c.end_of-end.ensures, (is_line c).ordered)

pub range-requires-clause-start_boundary : goal.range-requires-clause-start_boundary
range-requires-clause-start_boundary c = λ _. rw (c.deref.ensures ∙ c.self.view_is, c.start_of-start.ensures) (is_line c).start_boundary

pub range-requires-clause-end_boundary : goal.range-requires-clause-end_boundary
range-requires-clause-end_boundary c = rw (c.deref.ensures ∙ c.self.view_is, c.end_of-end.ensures) (is_line c).end_boundary

pub returns-clause-in_range : goal.returns-clause-in_range
returns-clause-in_range c =
    let utf8 : IsUtf8 c.args.self.now = subst IsUtf8 c.self.view_is (IsUtf8-string_bytes c.self.inside.text) in
    let line = line-IsLine c.args.self.now c.args.line utf8 c.requires in
    omega (
      arith,
      c.range.ensures.len,
      c.start_of-start.ensures,
      c.end_of-end.ensures,
      line.ordered,
      line.in_range,
      c.self.invariant.1,
      ap length c.self.view_is,
    )

pub returns-clause-utf8 : goal.returns-clause-utf8
returns-clause-utf8 c = subst IsUtf8 c.self.view_is (IsUtf8-string_bytes c.self.inside.text)
