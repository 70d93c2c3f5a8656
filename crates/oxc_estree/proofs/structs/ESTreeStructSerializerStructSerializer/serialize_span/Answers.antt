use Rattle.std.proofs.Common.{not, ◌∙◌, sym}
use Rattle.std.proofs.lemmas.Result.{on_err_weaker}
use Rattle.oxc_estree.specs.Open.{OpenStruct}
use Rattle.oxc_estree.proofs.Refusals.{at_err}
use Rattle.oxc_estree.proofs.Spans.{end_refused, range_refused}
use Rattle.oxc_estree.proofs.structs.ESTreeStructSerializerStructSerializer.serialize_span.Goals as goal

pub returns-in_err-serialize_field-2-clause-refused :
    goal.returns-in_err-serialize_field-2-clause-refused
returns-in_err-serialize_field-2-clause-refused g c =
    let before : OpenStruct = record { out = g.S.Serializer.out c.args.self.now.serializer.now; begun = not c.args.self.now.first; first = c.args.self.now.first } in
    at_err _
    (end_refused before c.range-range.result (g.T.ESTreeSpan.start c.args.span) (g.T.ESTreeSpan.end c.args.span) c.range-range.ensures
    c.in_ok-serialize_field.ensures.ok c.in_err-serialize_field-2.ensures.refused)

pub returns-then-ranges-clause-refused : goal.returns-then-ranges-clause-refused
returns-then-ranges-clause-refused g c =
    let before : OpenStruct = record { out = g.S.Serializer.out c.args.self.now.serializer.now; begun = not c.args.self.now.first; first = c.args.self.now.first } in
    on_err_weaker c.serialize_field-then-ranges.result
    (range_refused before c.range-range.result (g.T.ESTreeSpan.start c.args.span) (g.T.ESTreeSpan.end c.args.span) c.range-range.ensures
    c.in_ok-serialize_field.ensures.ok c.in_ok-serialize_field-2.ensures.ok (sym c.ranges-2.ensures ∙ c.if-ranges.true))
    c.serialize_field-then-ranges.ensures.refused
