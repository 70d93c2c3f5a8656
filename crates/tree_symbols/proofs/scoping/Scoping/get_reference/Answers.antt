use Rattle.std.specs.Prelude.{◌≡◌, length}
use Rattle.std.proofs.Common.{arith}
use Rattle.scope_rules.specs.References.{references}
use Rattle.tree_places.specs.Places.{Place}
use Rattle.tree_symbols.specs.Scopings.{places_of}
use Rattle.syntax_sem.specs.ReferenceId.{number_of}
use Rattle.tree_symbols.specs.ReferenceTables.{told, view}
use Rattle.tree_symbols.proofs.Beside.{same_count}
use Rattle.tree_symbols.proofs.Readings.{told_of}
use Rattle.tree_symbols.proofs.scoping.Scoping.get_reference.Goals as goal

pub reference-requires : goal.reference-requires
reference-requires c =
    let s = c.args.self.now in
    let many : length s.references.references.items ≡ length (references (places_of s)) = same_count view (told (places_of s)) s.references.references.items (references (places_of s)) c.requires.scoping.references_are.references_are in
    omega (arith, many, c.index.ensures.value, c.requires.id)

pub returns : goal.returns
returns c =
    let ps = places_of c.args.self.now in
    told_of (references ps) (λ (p : Place). view c.reference.result.now ≡ told ps p) (λ (p : Place). view c.reference.result.now ≡ told ps p) c.index.result (number_of c.args.id) c.index.ensures.value
    (λ p e. e) (c.reference.ensures ps c.requires.scoping.references_are)
