-- How many names lie around a class body, by the tables.
use Rattle.std.specs.Prelude.{◌≡◌, ◌<◌, ◌+◌, ℕ, Bool, false, List, [], ◌∷◌, length, get_or, Option, Some, None, if◌then◌else◌}
use Rattle.tree_places.specs.Places.{Place}
use Rattle.scope_rules.specs.Evals.{is_open}
use Rattle.class_tables.specs.Tables.{names_at}
use Rattle.class_tables.specs.declared.class_table.ClassTable.{ClassTable}

abbrev pub AreShort : List ClassTable → Type 0
AreShort ts = (c : ℕ) → length (names_at ts c) < 4294967296

-- these say which classes are open
abbrev pub AreFlagsOf : List Bool → List Place → Type 0
AreFlagsOf flags ps = (c : ℕ) → c < length flags → get_or flags c false ≡ is_open ps c

unfoldable pub own_count : List ClassTable → List Bool → ℕ → ℕ
own_count ts flags c = if get_or flags c false then 0 else length (names_at ts c)

unfoldable pub closed_in : List ClassTable → List Bool → List ℕ → ℕ
closed_in ts flags [] = 0
closed_in ts flags (c ∷ cs) = own_count ts flags c + closed_in ts flags cs

unfoldable pub count_around : List ℕ → Option ℕ → ℕ
count_around counts None = 0
count_around counts (Some p) = get_or counts p 0

unfoldable pub count_at : List ClassTable → List Bool → (ℕ → Option ℕ) → List ℕ → ℕ → ℕ
count_at ts flags next counts c = own_count ts flags c + count_around counts (next c)
