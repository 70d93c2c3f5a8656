use Rattle.std.proofs.Common.{◌≡◌, map, sym, ◌∙◌, rules}
use Rattle.tree_core.specs.Reading.{is_known}
use Rattle.tree_nodes.specs.Rows.{column_of}
use Rattle.tree_core.proofs.ObjectMembers.{is_known-units_of}
use Rattle.tree_core.proofs.read.is_known.Goals as goal

pub returns-then-eq-3 : goal.returns-then-eq-3
returns-then-eq-3 c =
    let known : c.if-eq-2.value ≡ is_known c.args.key.now (map column_of c.args.columns.now) = search rules in
    known ∙ sym (is_known-units_of c.args.key.now (map column_of c.args.columns.now) c.utf8.key c.requires)

pub returns-else-eq-3 : goal.returns-else-eq-3
returns-else-eq-3 c =
    let listed : c.is_listed.result ≡ is_known c.args.key.now (map column_of c.args.columns.now) = search rules in
    listed ∙ sym (is_known-units_of c.args.key.now (map column_of c.args.columns.now) c.utf8.key c.requires)
