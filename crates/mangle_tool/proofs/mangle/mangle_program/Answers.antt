use Rattle.std.proofs.Common.{map, string_bytes, ap, ap₂, ◌∙◌}
use Rattle.tree_nodes.specs.Tree.{alone}
use Rattle.tree_places.specs.Chosen.{chosen}
use Rattle.tree_places.specs.Places.{names}
use Rattle.mangle_tool.proofs.Mangles.{mangles}
use Rattle.mangle_tool.specs.Mangling.{options_for}
use Rattle.mangle_tool.proofs.mangle.mangle_program.Goals as goal

pub returns-clause-mangled : goal.returns-clause-mangled
returns-clause-mangled c =
    mangles (options_for c.args.options.now c.args.program) c.args.program c.in_ok-mangled.mangled c.in_ok-given.given.choices.items (map string_bytes c.in_ok-given.given.names.items)
    c.in_ok-given.ensures.program c.in_ok-given.ensures.sound c.in_ok-given.ensures.chosen c.in_ok-mangled.ensures.renamed c.in_ok-mangled.ensures.program
    (c.in_ok-mangled.ensures.names
    ∙ ap₂ (λ given choices. chosen given choices (names (alone c.args.program))) (ap (map string_bytes) c.as_slice-2.ensures.value) c.as_slice.ensures.value)
