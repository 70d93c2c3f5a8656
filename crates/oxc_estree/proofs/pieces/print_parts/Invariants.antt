use Rattle.std.proofs.Common.{◌≡◌, ◌++◌, drop, true}
use Rattle.json_text.specs.Layout.{compact}
use Rattle.json_text.specs.Text.{items_text}
use Rattle.oxc_data_structures.specs.CodeBuffer.{KeepsSettings}
use Rattle.oxc_estree.specs.TracePathPart.{path_of}
use Rattle.oxc_estree.specs.Out.{is_zero, parts_items}
use Rattle.oxc_estree.proofs.pieces.print_parts.Given as goal

abbrev pub invariant-loop-i : goal.invariant-loop-i
invariant-loop-i l = record {
  settings : KeepsSettings l.fn.fixes l.fixes;
  left : l.fixes.bytes ++ items_text (is_zero l.i) compact (parts_items (path_of (drop l.i l.parts)))
      ≡ l.fn.fixes.bytes ++ items_text true compact (parts_items (path_of l.parts));
}
