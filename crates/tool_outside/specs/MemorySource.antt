-- What a clause sees of a `MemorySource`.
use Rattle.std.specs.Prelude.{ℕ, List}

pub record SourceState : Type 0 where
  -- the bytes left
  pub left : List ℕ
  -- how many bytes it has given
  pub given : ℕ
  -- how often it has failed
  pub faults : ℕ
  -- the most bytes that a call gives
  pub piece : ℕ
  -- the numbers of the calls that fail
  pub fails : List ℕ
  -- the number of the next call
  pub call : ℕ
