-- What a slice has after a loan of entries.
use Rattle.std.specs.Prelude.{ℕ, List, ◌++◌, take, slice_set}
use Rattle.std.specs.Borrow.{Array, Fml, Lends, MutBor, RattleType}

module _ (T : RattleType) (s : MutBor (List T.Denot)) where
  -- the entry at the index ends as the last value behind r
  abbrev pub LendsEntry : ℕ → MutBor T.Denot → Fml
  LendsEntry index r = Lends (Array T 0) T s r (slice_set s.now index)

  -- the entries from the index on end as the last ones behind r
  abbrev pub LendsEnd : ℕ → MutBor (List T.Denot) → Fml
  LendsEnd index r = Lends (Array T 0) (Array T 0) s r (λ end. take index s.now ++ end)
