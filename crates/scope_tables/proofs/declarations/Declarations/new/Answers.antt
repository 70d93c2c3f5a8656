use Rattle.std.specs.Prelude.{is_some}
use Rattle.std.proofs.Common.{ap, ◌∙◌}
use Rattle.scope_rules.specs.Bindings.{or_else}
use Rattle.scope_tables.specs.Keys.{at_key, number_from}
use Rattle.scope_tables.specs.DeclarationsAt.{binder_at}
use Rattle.scope_tables.proofs.Binders.{first_is_plain_binder, first_is_single, firsts_are_binder}
use Rattle.scope_tables.proofs.declarations.Declarations.new.Goals as goal

pub returns : goal.returns
unfolding binder_at
returns c =
    let plain = c.in_ok-first_declarations in
    let functions = c.in_ok-first_declarations-2 in
    let singles = c.in_ok-first_declarations-3 in
    record {
      plain = λ s h q j. plain.ensures s h q j ∙ first_is_plain_binder _ _ _;
      any = λ s h q j. ap (λ o. or_else o (at_key functions.field-0 (number_from s) q.name_number)) (plain.ensures s h q j) ∙ ap (or_else _) (functions.ensures s h q j) ∙ firsts_are_binder _ _ _;
      single = λ s h q j. ap is_some (singles.ensures s h q j) ∙ first_is_single _ _ _;
    }
