use Rattle.std.proofs.Common.{◌≡◌, option_map, sym, ap, ◌∙◌}
use Rattle.serde_json.specs.View.{view}
use Rattle.serde_json.specs.Find.{get_member}
use Rattle.serde_json.specs.View.{members_view}
use Rattle.serde_json.proofs.Views.{view_of_ref, view-lookup}
use Rattle.tree_core.specs.JsonOf.{json_of}
use Rattle.tree_core.proofs.ObjectMembers.{find_member-get_member, found_json}
use Rattle.name_map.proofs.read.member.Goals as goal

pub returns : goal.returns
returns c =
    let got : option_map (λ v. view v.now) c.get.result ≡ get_member c.args.key.now (members_view c.args.members.now.entries) =
    view_of_ref c.get.result ∙ ap (option_map view) c.get.ensures.value ∙ view-lookup c.args.key.now c.args.members.now.entries in
    found_json c.get.result ∙ ap (option_map json_of) got ∙ sym (find_member-get_member c.args.key.now c.requires c.args.members.now.entries)
