use Rattle.std.proofs.Common.{None, if◌then◌else◌, codes, sym, ap, ◌∙◌}
use Rattle.serde_json.specs.Find.{get_member}
use Rattle.serde_json.specs.View.{members_view}
use Rattle.mangle_tool.proofs.WrappedWithin.{member_found}
use Rattle.mangle_tool.proofs.estree.input.wrapped_in.Goals as goal

pub returns-then-is_envelope : goal.returns-then-is_envelope
returns-then-is_envelope c =
    member_found (codes "node") c.args.members.now.entries c.get.result c.get.ensures.value
    ∙ ap (λ b. if b then get_member (codes "node") (members_view c.args.members.now.entries) else None) (sym c.if-is_envelope.true ∙ c.is_envelope.ensures)
