use Rattle.std.specs.Prelude.{◌≡◌, length}
use Rattle.std.proofs.Common.{arith, sym, ◌∙◌}
use Rattle.tree_symbols.proofs.Readings.{scopes_many}
use Rattle.tree_symbols.proofs.scoping.Scoping.scopes_len.Goals as goal

pub returns-clause-scopes : goal.returns-clause-scopes
returns-clause-scopes c =
    let many : c.len.result ≡ length c.args.self.now.tables.list.scopes.items = omega (arith, c.len.ensures) in
    many ∙ sym (scopes_many c.args.self.now.tables.list)

pub returns-clause-few : goal.returns-clause-few
returns-clause-few c = omega (arith, c.len.ensures, c.requires.few_scopes)
