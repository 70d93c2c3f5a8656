use Rattle.std.specs.Prelude.{◌<◌, ◌+◌, ℕ, List}
use Rattle.std.proofs.Common.{subst, sym, rules}
use Rattle.class_tables.specs.PrivateTables.{list_in}
use Rattle.private_numbers.specs.AllNumbers.{numbers_at}
use Rattle.private_numbers.specs.Numbers.{AreClassNumbers}
use Rattle.private_numbers.specs.declared.class_numbers.ClassNumbers.{ClassNumbers}
use Rattle.private_numbers.proofs.Held.{numbers_pushed}
use Rattle.private_numbers.proofs.numbers.PrivateNumbers.new.Goals as goal

pub loop-class_body-preserved : goal.loop-class_body-preserved
loop-class_body-preserved c =
    let l = list_in c.args.table.now in
    let ns = c.loop-class_body.classes.items in
    let n = c.loop-class_body.class_body in
    let is = c.in_ok-push.ensures.items in
    record {
      many = search rules;
      each = subst (λ (rows : List ClassNumbers). (k : ℕ) → k < n + 1 → AreClassNumbers l k (numbers_at rows k)) (sym is)
          (numbers_pushed l ns n c.loop-class_body.invariant.many c.loop-class_body.invariant.each c.in_ok-numbers.numbers c.in_ok-numbers.ensures);
    }
