use Rattle.std.specs.Prelude.{is_some, map}
use Rattle.std.proofs.Common.{ap, ◌∙◌}
use Rattle.scope_rules.specs.PrivateNames.{is_among}
use Rattle.class_tables.specs.Sights.{sight}
use Rattle.class_tables.proofs.Holding.{among_told}
use Rattle.class_tables.proofs.Seen.{names_are}
use Rattle.class_tables.proofs.bindings.declares.Goals as goal

pub returns : goal.returns
returns c = λ ps held.
    c.is_some.ensures ∙ ap is_some c.declared_in.ensures
    ∙ among_told (map sight ps) c.args.tables.now held c.args.class c.args.name.now
    ∙ ap (λ ns. is_among ns c.args.name.now) (names_are ps c.args.class)
