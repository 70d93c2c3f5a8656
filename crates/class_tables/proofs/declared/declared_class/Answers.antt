use Rattle.scope_rules.specs.Bindings.{is_node}
use Rattle.std.proofs.Common.{ap, ◌∙◌}
use Rattle.std.specs.Prelude.{Bool, ◌&&◌}
use Rattle.class_tables.proofs.Holding.{declares_by}
use Rattle.class_tables.proofs.declared.declared_class.Goals as goal

pub returns-then-is_private_key-clause-declares : goal.returns-then-is_private_key-clause-declares
returns-then-is_private_key-clause-declares c = λ bodies k.
    declares_by bodies c.args.place.now k _ c.is_private_key.ensures ∙ ap (λ (b : Bool). b && is_node c.args.place.now.setting.class_body k) c.if-is_private_key.true

pub returns-else-is_private_key-clause-declares : goal.returns-else-is_private_key-clause-declares
unfolding is_node
returns-else-is_private_key-clause-declares c = λ bodies k.
    declares_by bodies c.args.place.now k _ c.is_private_key.ensures ∙ ap (λ (b : Bool). b && is_node c.args.place.now.setting.class_body k) c.if-is_private_key.false
