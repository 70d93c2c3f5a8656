-- What a loan of an item of a `RecordList` gives back.
use Rattle.std.specs.Borrow.{Fml, LendsIf, MutBor, RattleType}
use Rattle.std.specs.Prelude.{ℕ, List, Option, slice_set}
use Rattle.syntax_module.specs.contracts.module_record.record_list.RecordList.{the_row}

-- the list ends with the item that is written last in its place
abbrev pub LendsItem : (T : RattleType) → MutBor (List T.Denot) → ℕ → Option (MutBor T.Denot) → Fml
LendsItem T list i item = LendsIf (the_row T) T list item (slice_set list.now i) list.now
