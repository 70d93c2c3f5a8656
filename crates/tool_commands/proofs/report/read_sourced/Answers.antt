use Rattle.std.proofs.Common.{codes, string_bytes, sym, ◌∙◌}
use Rattle.std.proofs.lemmas.Result.{IfOk-weaker}
use Rattle.serde_json.specs.View.{view}
use Rattle.tool_commands.proofs.Pairs.{pair_within}
use Rattle.tool_commands.proofs.Reports.{text_short}
use Rattle.tool_commands.proofs.report.read_sourced.Goals as goal

pub read_both-requires-clause-short : goal.read_both-requires-clause-short
read_both-requires-clause-short c = (pair_within (codes "source") (codes "node") (view c.args.value.now) (view c.in-Some.source.now) (view c.in-Some.node.now) (sym c.in-Some.ensures) (sym c.is_too_large.ensures ∙ c.if-is_too_large.false)).0

pub read_both-requires-clause-within : goal.read_both-requires-clause-within
read_both-requires-clause-within c = (pair_within (codes "source") (codes "node") (view c.args.value.now) (view c.in-Some.source.now) (view c.in-Some.node.now) (sym c.in-Some.ensures) (sym c.is_too_large.ensures ∙ c.if-is_too_large.false)).1

pub returns-in-Some-clause-short : goal.returns-in-Some-clause-short
returns-in-Some-clause-short c =
    IfOk-weaker c.read_both.result _ _ (λ s told. text_short (view c.in-Some.source.now) (string_bytes s.source) told
    (pair_within (codes "source") (codes "node") (view c.args.value.now) (view c.in-Some.source.now) (view c.in-Some.node.now) (sym c.in-Some.ensures) (sym c.is_too_large.ensures ∙ c.if-is_too_large.false)).0)
    c.read_both.ensures.source
