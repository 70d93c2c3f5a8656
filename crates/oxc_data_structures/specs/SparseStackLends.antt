-- What a `SparseStack` has after a loan of its entries.
use Rattle.std.specs.Prelude.{ℕ, List, Option, Some, Result, MatchResult, ⊤}
use Rattle.std.specs.declared.alloc.AllocError.{AllocError}
use Rattle.std.specs.Borrow.{Array, Bor, Fml, Lends, LendsIf, LendsSoOk, MutBor, RattleType, follows_so}
use mathlib.Core.Option.{none}
use Rattle.oxc_data_structures.specs.SparseStack.{Becomes, Entries, FillsTop, with_entry, with_top, with_values}
use Rattle.oxc_data_structures.specs.contracts.stack.sparse.SparseStack.{the_row}

module _ (T : RattleType) (s : MutBor (Entries T.Denot)) where
  -- the entry at the index ends as the last value behind r; where r is `None` the stack stays as it was
  abbrev pub LendsEntry : ℕ → Option (MutBor T.Denot) → Fml
  LendsEntry index r = LendsIf (the_row T) T s r (with_entry s.now index) s.now

  -- as above, of the top entry, which was filled first where it was `None`; where r is an error the entries stay as they were
  abbrev pub LendsTop : Result (MutBor T.Denot) AllocError → Fml
  LendsTop r = LendsSoOk (the_row T) T s r
      (λ new value. Becomes s.now new (with_top s.now (Some value))) (λ new. Becomes s.now new s.now.items)

  -- s ends with the top entry filled, as r reads it; where r is an error the entries stay as they were
  abbrev pub FillsTopAs : (T.Denot → Type 0) → Result (Bor T.Denot) AllocError → Fml
  FillsTopAs made r = follows_so (the_row T) (the_row T) s.ghost_name none (λ _ _. ⊤)
      (λ new. MatchResult r (λ x. FillsTop s.now new made x.now) (λ _. Becomes s.now new s.now.items))

  -- the filled entries end as the last values behind r
  abbrev pub LendsValues : MutBor (List T.Denot) → Fml
  LendsValues r = Lends (the_row T) (Array T 0) s r (with_values s.now)
