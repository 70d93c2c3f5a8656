use Rattle.std.proofs.Common.{codes, sym, ◌∙◌}
use Rattle.serde_json.specs.View.{view}
use Rattle.tool_commands.proofs.Pairs.{pair_within}
use Rattle.tool_commands.proofs.pair.read_mapped.Goals as goal

pub read_pair-requires : goal.read_pair-requires
read_pair-requires c = (pair_within (codes "node") (codes "map") (view c.args.value.now) (view c.in-Some.node.now) (view c.in-Some.map.now) (sym c.in-Some.ensures) (sym c.is_too_large.ensures ∙ c.if-is_too_large.false)).0
