use Rattle.std.specs.Prelude.{List}
use Rattle.std.proofs.Common.{sym, subst, ap, length, rules}
use Rattle.class_tables.specs.declared.class_table.ClassTable.{ClassTable}
use Rattle.class_tables.proofs.Holding.{AreEmpty, empty_pushed, none_empty, nothing_held}
use Rattle.class_tables.proofs.declared.empty_tables.Goals as goal

pub loop-init : goal.loop-init
loop-init c = record { empty = subst (λ (ts : List ClassTable). AreEmpty ts) (sym c.new-tables.ensures.items) none_empty; len = ap length c.new-tables.ensures.items }

pub loop-preserved : goal.loop-preserved
loop-preserved c = record {
  empty = subst (λ (ts : List ClassTable). AreEmpty ts) (sym c.in_ok-push.ensures.items) (empty_pushed c.loop.tables.items c.new.result c.new.ensures.names c.new.ensures.firsts c.loop.invariant.empty);
  len = search rules;
}

pub returns-clause-none : goal.returns-clause-none
returns-clause-none c = nothing_held c.loop.tables.items c.loop.invariant.empty.names c.loop.invariant.empty.at
