use Rattle.std.proofs.Common.{true, bytes_eq, ap, ◌∙◌, if◌then◌else◌}
use Rattle.scope_rules.specs.Bindings.{same_name}
use Rattle.scope_rules.specs.PrivateNames.{is_among}
use Rattle.tool_words.proofs.Names.{put_counted}
use Rattle.tree_nodes.specs.Tree.{Text}
use Rattle.tool_words.proofs.options.put.Goals as goal

pub returns : goal.returns
unfolding is_among same_name
returns c =
    let old = c.args.names.now.keys in
    record {
      same = λ y. c.in_ok-insert.ensures.updates.0 y ∙ ap (λ (n : Text). if bytes_eq n y then true else is_among old y) c.in_ok-try_clone.ensures;
      many = put_counted old c.insert.new.self.keys c.args.name.now c.in_ok-insert.field-0 _ c.in_ok-insert.ensures.added (ap (is_among old) c.in_ok-try_clone.ensures) c.in_ok-insert.ensures.len;
    }
