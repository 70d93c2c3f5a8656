use Rattle.std.specs.List.{list_any}
use Rattle.std.proofs.Common.{ap, ◌∙◌}
use Rattle.std.proofs.lemmas.List.{take_all}
use Rattle.tree_symbols.specs.Scopings.{places_of}
use Rattle.unresolved_names.specs.Noted.{is_noted}
use Rattle.unresolved_names.proofs.NotedNames.{noted_names_are_unresolved}
use Rattle.unresolved_names.proofs.names.unresolved_names.Goals as goal

pub returns : goal.returns
returns c = λ x.
    let same = take_all c.loop-place.place-index c.as_slice-place-items.result.now c.loop-place-test.false ∙ c.as_slice-place-items.ensures.value ∙ ap (λ t. t.list.places.items) c.tables.ensures in
    c.loop-place.invariant x ∙ ap (list_any (λ e. is_noted (places_of c.args.scoping.now) x e.name.now)) same ∙ noted_names_are_unresolved c.args.scoping.now.tables.list x
