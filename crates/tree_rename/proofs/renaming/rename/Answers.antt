use Rattle.std.proofs.Common.{ap, map, string_bytes, ◌∙◌}
use Rattle.tree_nodes.specs.Tree.{alone}
use Rattle.tree_places.specs.Places.{names}
use Rattle.tree_rename.specs.Renamed.{renamed}
use Rattle.tree_rename.proofs.RenamedPrograms.{program_renamed, texts_are_names, texts_are_short}
use Rattle.tree_rename.proofs.renaming.rename.Goals as goal

pub from_root-requires : goal.from_root-requires
from_root-requires c =
    let given = map string_bytes c.args.names.now in
    let made = c.in_ok-rename_node.ensures.tree ∙ ap (λ t. renamed given c.args.choices.now (alone t)) c.into_root-root.ensures.root in
    (program_renamed given c.args.choices.now c.args.program c.rename_node.new.node c.into_root-root.ensures.program c.requires.spare (texts_are_names c.args.names.now c.requires.identifiers) (texts_are_short c.args.names.now c.requires.short) made).2

pub returns-clause-renamed : goal.returns-clause-renamed
returns-clause-renamed c =
    let given = map string_bytes c.args.names.now in
    let made = c.in_ok-rename_node.ensures.tree ∙ ap (λ t. renamed given c.args.choices.now (alone t)) c.into_root-root.ensures.root in
    rw c.from_root.ensures
    (program_renamed given c.args.choices.now c.args.program c.rename_node.new.node c.into_root-root.ensures.program c.requires.spare (texts_are_names c.args.names.now c.requires.identifiers) (texts_are_short c.args.names.now c.requires.short) made).0

pub returns-clause-names : goal.returns-clause-names
returns-clause-names c =
    let given = map string_bytes c.args.names.now in
    let made = c.in_ok-rename_node.ensures.tree ∙ ap (λ t. renamed given c.args.choices.now (alone t)) c.into_root-root.ensures.root in
    ap (λ t. names (alone t)) c.from_root.ensures
    ∙ (program_renamed given c.args.choices.now c.args.program c.rename_node.new.node c.into_root-root.ensures.program c.requires.spare (texts_are_names c.args.names.now c.requires.identifiers) (texts_are_short c.args.names.now c.requires.short) made).1
