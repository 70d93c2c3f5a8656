-- What a `SparseStack` is to a contract.
use Rattle.std.specs.Prelude.{◌≡◌, ℕ, ◌<◌, ◌≤◌, Bool, true, false, List, [], ◌∷◌, ◌++◌, ◌-◌, length, take, drop, map, slice_index_or, slice_set, MatchOption, Option, Some, None, is_some}
use Rattle.std.specs.List.{filter_map}
use Rattle.std.specs.Option.{ForNone}

-- its entries, the top one last, and how many entries and how many filled ones it has room for
pub record Entries (T : Type 0) : Type 0 where
  pub items : List (Option T)
  pub total_capacity : ℕ
  pub filled_capacity : ℕ

-- the new stack has these entries, and no less room than the old one
pub record Becomes {T : Type 0} (old new : Entries T) (items : List (Option T)) : Type 0 where
  pub entries : new.items ≡ items
  pub total_capacity : old.total_capacity ≤ new.total_capacity
  pub filled_capacity : old.filled_capacity ≤ new.filled_capacity

-- the bottom entry and the top one
abbrev pub bottom : {T : Type 0} → Entries T → Option T
bottom s = slice_index_or s.items 0 None

abbrev pub top : {T : Type 0} → Entries T → Option T
top s = slice_index_or s.items (length s.items - 1) None

-- the stack with another top entry
abbrev pub with_top : {T : Type 0} → Entries T → Option T → List (Option T)
with_top s entry = slice_set s.items (length s.items - 1) entry

-- the value is the one that the entry has, or else one that could be made
abbrev pub IsKeptOrMade : {T : Type 0} → Option T → (T → Type 0) → T → Type 0
IsKeptOrMade entry made value = MatchOption entry (made value) (λ kept. value ≡ kept)

-- the top entry is filled, with the value that it had or else one that could be made
pub record FillsTop {T : Type 0} (old new : Entries T) (made : T → Type 0) (value : T) : Type 0 where
  pub becomes : Becomes old new (with_top old (Some value))
  pub value_is : IsKeptOrMade (top old) made value

-- the values of the filled entries, in order
abbrev pub filled_values : {T : Type 0} → List (Option T) → List T
filled_values items = filter_map (λ entry. entry) items

-- the top entry is filled, or there is room for its value
abbrev pub HasRoomOnTop : {T : Type 0} → Entries T → Type 0
HasRoomOnTop s = ForNone (top s) (length (filled_values s.items) < s.filled_capacity)

-- the entries, by which of them are filled and the values of those
abbrev pub entries_of : {T : Type 0} → List Bool → List T → List (Option T)
entries_of [] values = []
entries_of (false ∷ marks) values = None ∷ entries_of marks values
entries_of (true ∷ marks) [] = None ∷ entries_of marks []
entries_of (true ∷ marks) (value ∷ values) = Some value ∷ entries_of marks values

-- there is an entry, and a value for each one that is filled
pub record IsStored {T : Type 0} (marks : List Bool) (values : List T) : Type 0 where
  pub not_empty : 0 < length marks
  pub marks_are : map is_some (entries_of marks values) ≡ marks
  pub values_are : filled_values (entries_of marks values) ≡ values

-- the stack with another value for the entry at an index
abbrev pub with_entry : {T : Type 0} → Entries T → ℕ → T → Entries T
with_entry s index value = record s { items = slice_set s.items index (Some value) }

-- the stack with these values for its filled entries. Where there are fewer of them, it keeps the ones above
abbrev pub with_values : {T : Type 0} → Entries T → List T → Entries T
with_values s values =
    let old = filled_values s.items in
    record s { items = entries_of (map is_some s.items) (take (length old) (values ++ drop (length values) old)) }
