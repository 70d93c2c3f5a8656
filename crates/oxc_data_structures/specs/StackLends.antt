-- What a `Stack` has after a loan of its entries.
use Rattle.std.specs.Prelude.{ℕ, List, Option}
use Rattle.std.specs.Borrow.{Array, Fml, Lends, LendsIf, MutBor, RattleType}
use Rattle.oxc_data_structures.specs.Stack.{Entries, with_entries, with_entry}
use Rattle.oxc_data_structures.specs.contracts.stack.standard.Stack.{the_row}

module _ (T : RattleType) (s : MutBor (Entries T.Denot)) where
  -- the entry at the index ends as the last value behind r; where r is `None` the stack stays as it was
  abbrev pub LendsEntry : ℕ → Option (MutBor T.Denot) → Fml
  LendsEntry index r = LendsIf (the_row T) T s r (with_entry s.now index) s.now

  -- the entries end as the last ones behind r
  abbrev pub LendsEntries : MutBor (List T.Denot) → Fml
  LendsEntries r = Lends (the_row T) (Array T 0) s r (with_entries s.now)
