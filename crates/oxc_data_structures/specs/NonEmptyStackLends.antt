-- What a `NonEmptyStack` has after a loan of its entries.
use Rattle.std.specs.Prelude.{ℕ, List}
use Rattle.std.specs.Borrow.{Array, Fml, Lends, MutBor, RattleType}
use Rattle.oxc_data_structures.specs.Stack.{Entries, with_entries, with_entry}
use Rattle.oxc_data_structures.specs.contracts.stack.non_empty.NonEmptyStack.{the_row}

module _ (T : RattleType) (s : MutBor (Entries T.Denot)) where
  -- the entry at the index ends as the last value behind r
  abbrev pub LendsEntry : ℕ → MutBor T.Denot → Fml
  LendsEntry index r = Lends (the_row T) T s r (with_entry s.now index)

  -- the entries end as the last ones behind r
  abbrev pub LendsEntries : MutBor (List T.Denot) → Fml
  LendsEntries r = Lends (the_row T) (Array T 0) s r (with_entries s.now)
