use Rattle.std.proofs.Common.{ap, map, string_bytes, subst, sym, ◌∙◌}
use Rattle.tree_nodes.specs.Tree.{alone}
use Rattle.tree_places.specs.Places.{names}
use Rattle.tree_places.specs.Renaming.{IsRenamed}
use Rattle.tree_rename.proofs.RenamedNames.{renamed_names}
use Rattle.tree_rename.proofs.WalkRenames.{walk_renames}
use Rattle.tree_rename.proofs.renaming.rename_tree.Goals as goal

pub returns-clause-renamed : goal.returns-clause-renamed
returns-clause-renamed c formed spare =
    subst (IsRenamed (alone c.args.root)) (sym c.in_ok-rename_node.ensures.tree)
    (walk_renames (map string_bytes c.args.names.now) c.args.choices.now (alone c.args.root) formed spare)

pub returns-clause-names : goal.returns-clause-names
returns-clause-names c formed =
    ap names c.in_ok-rename_node.ensures.tree
    ∙ renamed_names (map string_bytes c.args.names.now) c.args.choices.now (alone c.args.root) formed
