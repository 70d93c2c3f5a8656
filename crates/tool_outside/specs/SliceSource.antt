-- What a clause sees of a `SliceSource`.
use Rattle.std.specs.Prelude.{ℕ, List}

pub record SliceState : Type 0 where
  -- the bytes left
  pub left : List ℕ
  -- how many bytes it has given
  pub given : ℕ
