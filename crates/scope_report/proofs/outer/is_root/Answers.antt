use Rattle.scope_report.proofs.OuterScopes.{root_told}
use Rattle.place_list.specs.TableViews.{scope_at}
use Rattle.scope_report.proofs.outer.is_root.Goals as goal

pub returns : goal.returns
returns c =
    let l = c.args.list.now in
    root_told l c.requires.bounded (scope_at l c.args.scope) c.outer_scope.result c.outer_scope.ensures.known c.outer_scope.ensures.outside c.is_none.result c.is_none.ensures
