use Rattle.std.proofs.Common.{length, ap, ◌∙◌}
use Rattle.mangle_options.specs.Settings.{reserved_in}
use Rattle.tree_nodes.specs.Tree.{Tree, alone, part, word_of}
use Rattle.tree_places.specs.Places.{places, scopes, withs}
use Rattle.mangle_tool.proofs.Mangles.{few_asked, few_places, new_told}
use Rattle.mangle_tool.proofs.ShortTexts.{given_names_short}
use Rattle.mangle_tool.specs.Mangling.{options_for}
use Rattle.mangle_tool.proofs.mangle.names_for.Goals as goal

pub names_by-requires-clause-few : goal.names_by-requires-clause-few
names_by-requires-clause-few c =
    few_places c.args.program.now (length (reserved_in c.args.options.now)) c.requires.few c.in_ok-tables.tables.list (record {
      places = c.in_ok-tables.ensures.places ∙ ap (λ (r : Tree). places (alone r)) c.root.ensures.root;
      scopes = c.in_ok-tables.ensures.scopes ∙ ap (λ (r : Tree). scopes (alone r)) c.root.ensures.root;
      withs = c.in_ok-tables.ensures.withs ∙ ap (λ (r : Tree). withs (alone r)) c.root.ensures.root;
    })

pub returns-clause-chosen : goal.returns-clause-chosen
returns-clause-chosen c =
    let new = new_told c.args.options.now c.args.program.now c.renames_root-top_level.result c.in_ok-tables.tables.list c.in_ok-names_by.field-0
    (c.renames_root-top_level.ensures (word_of (part c.args.program.now.fields 1)) c.source_type.ensures)
    (c.in_ok-tables.ensures.places ∙ ap (λ (r : Tree). places (alone r)) c.root.ensures.root)
    (c.in_ok-tables.ensures.scopes ∙ ap (λ (r : Tree). scopes (alone r)) c.root.ensures.root)
    (c.in_ok-tables.ensures.withs ∙ ap (λ (r : Tree). withs (alone r)) c.root.ensures.root)
    c.in_ok-names_by.ensures in
    new.chosen

pub returns-clause-short : goal.returns-clause-short
returns-clause-short c =
    let new = new_told c.args.options.now c.args.program.now c.renames_root-top_level.result c.in_ok-tables.tables.list c.in_ok-names_by.field-0
    (c.renames_root-top_level.ensures (word_of (part c.args.program.now.fields 1)) c.source_type.ensures)
    (c.in_ok-tables.ensures.places ∙ ap (λ (r : Tree). places (alone r)) c.root.ensures.root)
    (c.in_ok-tables.ensures.scopes ∙ ap (λ (r : Tree). scopes (alone r)) c.root.ensures.root)
    (c.in_ok-tables.ensures.withs ∙ ap (λ (r : Tree). withs (alone r)) c.root.ensures.root)
    c.in_ok-names_by.ensures in
    given_names_short (options_for c.args.options.now c.args.program.now) c.args.program.now (few_asked c.args.options.now c.args.program.now c.requires.few)
    new.limit new.low c.in_ok-names_by.field-0.names.items new.names
