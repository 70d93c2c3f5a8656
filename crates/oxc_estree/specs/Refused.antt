-- What a call leaves that was refused for want of memory: the text that was there, and a first part
-- of what it was to append.
use Rattle.std.specs.Prelude.{◌≡◌, ℕ, List, ◌++◌}
use Rattle.oxc_data_structures.specs.CodeBuffer.{Buffer, KeepsSettings}
use Rattle.oxc_estree.specs.Out.{Out}

-- the second list begins with the first
pub record IsPrefix (start whole : List ℕ) : Type 0 where
  pub rest : List ℕ
  pub is : whole ≡ start ++ rest

-- the new serializer goes by what the old one goes by
pub record KeepsFlags (old new : Out) : Type 0 where
  pub records : new.records ≡ old.records
  pub ts : new.ts ≡ old.ts
  pub ranges : new.ranges ≡ old.ranges

-- a call that was to make full of old was refused, and left new
pub record IsCutShort (old new full : Out) : Type 0 where
  pub kept : IsPrefix old.text new.text
  pub within : IsPrefix new.text full.text
  pub flags : KeepsFlags old new

-- a print of these bytes to a buffer was refused, and left new of old
pub record IsPartlyPrinted (old new : Buffer) (added : List ℕ) : Type 0 where
  pub kept : IsPrefix old.bytes new.bytes
  pub within : IsPrefix new.bytes (old.bytes ++ added)
  pub settings : KeepsSettings old new
