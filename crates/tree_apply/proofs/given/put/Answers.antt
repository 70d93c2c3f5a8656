use Rattle.std.specs.Prelude.{length}
use Rattle.std.proofs.lemmas.Result.{IfOk-weaker}
use Rattle.tree_apply.proofs.GivenInTurn.{name_put, none_named, put_none, put_some}
use Rattle.tree_apply.proofs.given.put.Goals as goal

pub returns-in-Some-clause-choices : goal.returns-in-Some-clause-choices
returns-in-Some-clause-choices c = IfOk-weaker c.put_name.result _ _ (λ _ h. put_some c.args.given.now.choices.items c.put_name.new.given.choices.items (length c.args.given.now.names.items) c.args.name c.in-Some.name c.in-Some.is h) c.put_name.ensures.choices

pub returns-in-Some-clause-names : goal.returns-in-Some-clause-names
returns-in-Some-clause-names c = IfOk-weaker c.put_name.result _ _ (λ _ h. name_put c.args.given.now.names.items c.put_name.new.given.names.items c.args.name c.in-Some.name c.in-Some.is h) c.put_name.ensures.names

pub returns-in-None-clause-choices : goal.returns-in-None-clause-choices
returns-in-None-clause-choices c = IfOk-weaker c.put_none.result _ _ (λ _ h. put_none c.args.given.now.choices.items c.put_none.new.given.choices.items (length c.args.given.now.names.items) c.args.name c.in-None.is h) c.put_none.ensures.choices

pub returns-in-None-clause-names : goal.returns-in-None-clause-names
returns-in-None-clause-names c = IfOk-weaker c.put_none.result _ _ (λ _ h. none_named c.args.given.now.names.items c.put_none.new.given.names.items c.args.name c.in-None.is h) c.put_none.ensures.names
