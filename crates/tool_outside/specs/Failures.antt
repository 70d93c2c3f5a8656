-- What the count of faults of a source or a sink says of a call: how often it has failed.
use Rattle.std.specs.Prelude.{◌≡◌, ℕ, ◌+◌, ◌-◌, ◌^◌, ◌<◌, ◌≤◌, ◌⊎◌, min, Result, OnOk, OnErr}

-- one more, up to the last value of a u64, where a count stands
abbrev pub next_count : ℕ → ℕ
next_count n = min (n + 1) (2 ^ 64 - 1)

-- a count rose in a call: it is greater than at entry, or stands at its last value
abbrev pub Rose : ℕ → ℕ → Type 0
Rose old new = (old < new) ⊎ (new ≡ 2 ^ 64 - 1)

-- a call answers `Err` only where the count of faults rose, and its `Ok` leaves the count
pub record CountsFaults {T E : Type 0} (old new : ℕ) (result : Result T E) : Type 0 where
  pub never_falls : old ≤ new
  pub ok : OnOk result (new ≡ old)
  pub err : OnErr result (Rose old new)
