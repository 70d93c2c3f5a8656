use Rattle.place_list.specs.Tables.{setting_of, site_of}
use Rattle.scope_rules.specs.Homes.{lies_in_var_scope}
use Rattle.scope_tables.proofs.Numbers.{scope_is_known, var_scope_is_known}
use Rattle.scope_tables.proofs.sites.lies_in_var_scope.Goals as goal

pub is_same_scope-requires : goal.is_same_scope-requires
is_same_scope-requires c = record { a = scope_is_known c.args.list.now c.args.place.now c.requires; b = var_scope_is_known c.args.list.now c.args.place.now c.requires }

pub returns : goal.returns
unfolding lies_in_var_scope site_of setting_of
returns c = c.is_same_scope.ensures
