-- Findings by line and column in the source text, and when there are none to tell.
use Rattle.std.specs.Prelude.{List, map}
use Rattle.std.specs.List.{Contains}
use Rattle.std.specs.Str.{IsCharBoundary}
use Rattle.oxc_data_structures.specs.Rope.{column_of, line_of}
use Rattle.scope_report.specs.Found.{Found, found_in}
use Rattle.scope_report.specs.declared.error.ReportError.{ReportError}
use Rattle.scope_report.specs.declared.error.ReportError.TheVariants.{BadSpan, Memory}
use Rattle.scope_report.specs.declared.finding.Finding.{Finding}
use Rattle.tree_nodes.specs.Tree.{Text, Tree}

unfoldable pub located : Text → Found → Finding
located text f = record { rule = f.rule; name = f.name; line = line_of text f.start; column = column_of text f.start }

-- the findings of a tree whose source is this text
unfoldable pub findings : Text → Tree → List Finding
findings text t = map (located text) (found_in t)

-- each place that has a finding starts in the text, or at its end, at a character
abbrev pub StartInText : Text → List Found → Type 0
StartInText text fs = (f : Found) → Contains fs f → IsCharBoundary text f.start

-- one of them lies past the text or within a character
abbrev pub HasBadSpan : Text → List Found → Type 0
HasBadSpan text fs = (f : Found) × Contains fs f × ¬ IsCharBoundary text f.start

-- what the error says of a tree: that it has a bad span, as this fact has it, or that memory ran out
abbrev pub Says : ReportError → Type 0 → Type 0
Says BadSpan bad_span = bad_span
Says Memory bad_span = Unit {0}
