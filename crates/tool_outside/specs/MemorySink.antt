-- What a clause sees of a `MemorySink`.
use Rattle.std.specs.Prelude.{ℕ, Bool, List}

pub record SinkState : Type 0 where
  -- the bytes held
  pub held : List ℕ
  -- whether `finish` succeeded since a byte was written
  pub settled : Bool
  -- how often it has failed
  pub faults : ℕ
  -- the most bytes that it holds
  pub room : ℕ
  -- the most bytes that a call takes
  pub piece : ℕ
  -- the numbers of the calls that fail
  pub fails : List ℕ
  -- the number of the next call
  pub call : ℕ
