use Rattle.std.specs.Prelude.{map}
use Rattle.std.proofs.Common.{ap, sym, take_all, ◌∙◌}
use Rattle.std.proofs.lemmas.Simd.{map-map}
use Rattle.scope_report.proofs.Starts.{listed_at, offset_there, position_there}
use Rattle.scope_report.specs.Findings.{located}
use Rattle.scope_report.specs.Views.{found_view}
use Rattle.scope_report.specs.declared.finding.Finding.{Finding}
use Rattle.scope_report.specs.declared.found.FoundAt.{FoundAt}
use Rattle.scope_tables.proofs.BindingCases.{mapped_more}
use Rattle.scope_report.proofs.lines.locate.Goals as goal

pub position_at-position-requires : goal.position_at-position-requires
position_at-position-requires c =
    offset_there c.args.source_text.now _ _ _ c.as_slice.ensures.value c.in_ok-positions.ensures (c.requires.starts _ (listed_at c.args.found.now c.loop-one.one-index _ c.loop-one-test.true))

pub loop-one-preserved : goal.loop-one-preserved
loop-one-preserved c =
    let view : FoundAt → Finding = λ f. located c.args.source_text.now (found_view f) in
    mapped_more view c.args.found.now c.loop-one.one-index _ c.loop-one-test.true c.loop-one.findings.items _ c.loop-one.invariant _
    (c.in_ok-finding.ensures c.args.source_text.now
    (position_there c.args.source_text.now _ _ _ c.as_slice.ensures.value c.in_ok-positions.ensures (c.requires.starts _ (listed_at c.args.found.now c.loop-one.one-index _ c.loop-one-test.true)) _ c.position_at-position.ensures))
    c.in_ok-push_finding.ensures

pub returns : goal.returns
returns c =
    let view : FoundAt → Finding = λ f. located c.args.source_text.now (found_view f) in
    c.loop-one.invariant ∙ ap (map view) (take_all c.loop-one.one-index c.args.found.now c.loop-one-test.false) ∙ sym (map-map (located c.args.source_text.now) found_view c.args.found.now)
