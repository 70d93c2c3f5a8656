use Rattle.std.specs.Prelude.{◌||◌, is_some}
use Rattle.new_names.proofs.NamesTaken.{changes_where, stays_where}
use Rattle.new_names.specs.Taken.{keeps_name}
use Rattle.place_list.specs.TableViews.{place_in}
use Rattle.scope_rules.specs.Homes.{declares, refers}
use Rattle.new_names.proofs.taken.keeps_name.Goals as goal

pub returns-then-is_variable : goal.returns-then-is_variable
unfolding keeps_name
returns-then-is_variable c = λ l.
    let s = (place_in l c.args.place.now).site in
    stays_where (declares s || refers s) c.is_none.result (is_some c.args.group) c.is_variable.result (c.is_variable.ensures l) c.if-is_variable.true c.is_none.ensures

pub returns-else-is_variable : goal.returns-else-is_variable
unfolding keeps_name
returns-else-is_variable c = λ l.
    let s = (place_in l c.args.place.now).site in
    changes_where (declares s || refers s) (is_some c.args.group) c.is_variable.result (c.is_variable.ensures l) c.if-is_variable.false
