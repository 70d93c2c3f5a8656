-- What a `CodeBuffer` is to a contract.
use Rattle.std.specs.Prelude.{◌≡◌, ℕ, ◌≤◌, List, [], ◌++◌}
use Rattle.oxc_data_structures.specs.declared.code_buffer.IndentChar.{IndentChar}
use Rattle.oxc_data_structures.specs.declared.code_buffer.IndentChar.TheVariants.{Tab, Space}

-- its bytes, what one level of indent is made of, and how many bytes it has room for
pub record Buffer : Type 0 where
  pub bytes : List ℕ
  pub indent_char : IndentChar
  pub indent_width : ℕ
  pub capacity : ℕ

abbrev pub indent_byte : IndentChar → ℕ
indent_byte Tab = 9
indent_byte Space = 32

-- the buffer is empty, and indents by so many of these characters a level
pub record IsEmptyWith (buffer : Buffer) (char : IndentChar) (width : ℕ) : Type 0 where
  pub bytes : buffer.bytes ≡ []
  pub indent_char : buffer.indent_char ≡ char
  pub indent_width : buffer.indent_width ≡ width

-- the new buffer indents as the old one, and has no less room
pub record KeepsSettings (old new : Buffer) : Type 0 where
  pub indent_char : new.indent_char ≡ old.indent_char
  pub indent_width : new.indent_width ≡ old.indent_width
  pub capacity : old.capacity ≤ new.capacity

-- the new buffer has these bytes more at its end
pub record Appends (old new : Buffer) (added : List ℕ) : Type 0 where
  pub bytes : new.bytes ≡ old.bytes ++ added
  pub settings : KeepsSettings old new

-- the new buffer has the bytes of the old one
pub record IsUnchanged (old new : Buffer) : Type 0 where
  pub bytes : new.bytes ≡ old.bytes
  pub settings : KeepsSettings old new
