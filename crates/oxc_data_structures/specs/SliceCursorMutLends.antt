-- What a `SliceCursorMut` has after a loan of entries of its slice.
use Rattle.std.specs.Prelude.{ℕ, ◌+◌, List, [], ◌++◌, take, slice_set, Option}
use Rattle.std.specs.Borrow.{Array, Fml, Lends, LendsIf, MutBor, RattleType}
use mir.Syntax.{named}
use Rattle.oxc_data_structures.specs.declared.slice_iter.SliceCursorMut.{SliceCursorMut}
use Rattle.oxc_data_structures.specs.contracts.slice_iter.SliceCursorMut.{the_row}

-- the cursor with these entries in its slice
abbrev pub with_entries : {T : Type 0} → SliceCursorMut T → List T → SliceCursorMut T
with_entries c entries = record c { slice = record c.slice { now = entries } }

-- the cursor past its next entry, with this value in that entry's place
abbrev pub past_next : {T : Type 0} → SliceCursorMut T → T → SliceCursorMut T
past_next c value =
    record (with_entries c (slice_set c.slice.now c.passed value)) { passed = c.passed + 1 }

module _ (T : RattleType) where
  abbrev pub Cursor : RattleType
  Cursor = the_row (record { mir = named 1; lft = [] }) T

  module _ (c : MutBor (SliceCursorMut T.Denot)) where
    -- the slice ends as the last entries behind r
    abbrev pub LendsSlice : MutBor (List T.Denot) → Fml
    LendsSlice r = Lends Cursor (Array T 0) c r (with_entries c.now)

    -- the slice's entry at the index ends as the last value behind r
    abbrev pub LendsEntry : ℕ → MutBor T.Denot → Fml
    LendsEntry index r = Lends Cursor T c r (λ value. with_entries c.now (slice_set c.now.slice.now index value))

    -- the slice's entries from the index on end as the last ones behind r
    abbrev pub LendsEnd : ℕ → MutBor (List T.Denot) → Fml
    LendsEnd index r = Lends Cursor (Array T 0) c r (λ end. with_entries c.now (take index c.now.slice.now ++ end))

    -- the cursor ends past its next entry, which ends as the last value behind r; where r is `None` the cursor stays as it was
    abbrev pub LendsNext : Option (MutBor T.Denot) → Fml
    LendsNext r = LendsIf Cursor T c r (past_next c.now) c.now
