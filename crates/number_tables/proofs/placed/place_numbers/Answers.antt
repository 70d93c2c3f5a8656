use Rattle.std.proofs.Common.{◌<◌, get_or, length, subst, sym, ℕ}
use Rattle.std.proofs.lemmas.List.{length-set}
use Rattle.number_tables.specs.PlacedNumbers.{number_at}
use Rattle.number_tables.proofs.NumbersAt.{below_at, number_more}
use Rattle.number_tables.proofs.placed.place_numbers.Goals as goal

pub loop-i-init : goal.loop-i-init
unfolding number_at
loop-i-init c = record { numbers = c.in_ok-row.ensures.none; len = c.in_ok-row.ensures.len }

pub loop-i-preserved : goal.loop-i-preserved
loop-i-preserved c =
    let below : get_or c.args.indices.now c.loop-i.i 0 < length c.loop-i.row.items = let b = below_at c.args.count c.args.indices.now c.loop-i.i 0 c.requires.below c.loop-i-test.true in subst (λ (k : ℕ). get_or c.args.indices.now c.loop-i.i 0 < k) (sym c.loop-i.invariant.len) b in
    record {
      numbers = λ n. number_more c.loop-i.row.items c.args.indices.now c.args.numbers.now c.loop-i.i 0 _ c.loop-i-test.true c.requires.same c.requires.rising below n (c.loop-i.invariant.numbers n);
      len = simp length-set c.loop-i.invariant.len;
    }
