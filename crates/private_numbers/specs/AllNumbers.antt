-- The numbers of a tree's private names, as data: the table that they are of, and what they are.
use Rattle.std.specs.Prelude.{◌≡◌, ◌<◌, ℕ, List, [], length, slice_get, Some, None}
use Rattle.class_tables.specs.PrivateTables.{IsWhole, list_in}
use Rattle.class_tables.specs.declared.private_table.PrivateTable.{PrivateTable}
use Rattle.private_numbers.specs.Numbers.{AreClassNumbers}
use Rattle.private_numbers.specs.declared.class_numbers.ClassNumbers.{ClassNumbers}
use Rattle.private_numbers.specs.declared.numbers.PrivateNumbers.{PrivateNumbers}

-- the table that they are of
abbrev pub table_in : PrivateNumbers → PrivateTable
table_in n = n.table.now

-- those of a class body, by its number
unfoldable pub numbers_at : List ClassNumbers → ℕ → List ℕ
numbers_at ns c = elim (slice_get ns c) [ None ↦ [] | Some n ↦ n.numbers.items ]

-- these are the numbers of all class bodies of a whole table
pub record IsNumbered (n : PrivateNumbers) : Type 0 where
  pub whole : IsWhole (table_in n)
  pub many : length n.classes.items ≡ length (list_in (table_in n)).class_bodies.items
  pub each : (c : ℕ) → c < length (list_in (table_in n)).class_bodies.items → AreClassNumbers (list_in (table_in n)) c (numbers_at n.classes.items c)
