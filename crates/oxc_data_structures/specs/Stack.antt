-- What a `Stack` or a `NonEmptyStack` is to a contract.
use Rattle.std.specs.Prelude.{◌≡◌, ℕ, ◌≤◌, List, ◌++◌, length, take, drop, slice_set}

-- its entries, the top one last, and how many it has room for
pub record Entries (T : Type 0) : Type 0 where
  pub items : List T
  pub capacity : ℕ

-- the new stack has these entries, and no less room than the old one
pub record Becomes {T : Type 0} (old new : Entries T) (items : List T) : Type 0 where
  pub entries : new.items ≡ items
  pub capacity : old.capacity ≤ new.capacity

-- the stack with another value for the entry at an index
abbrev pub with_entry : {T : Type 0} → Entries T → ℕ → T → Entries T
with_entry s index value = record s { items = slice_set s.items index value }

-- the stack with these values for its entries. Where there are fewer of them, it keeps the entries above
abbrev pub with_entries : {T : Type 0} → Entries T → List T → Entries T
with_entries s values = record s { items = take (length s.items) (values ++ drop (length values) s.items) }
