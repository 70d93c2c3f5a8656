-- What a clause reads of a `ReaderSource`.
use Rattle.std.specs.Prelude.{ℕ}
use Rattle.tool_outside.specs.declared.adapters.ReaderSource.{ReaderSource}

-- the reader that it asks
abbrev pub reader_of : {R : Type 0} → ReaderSource R → R
reader_of s = s.reader

-- how many bytes it has given
abbrev pub given_by : {R : Type 0} → ReaderSource R → ℕ
given_by s = s.given

-- how often it has failed
abbrev pub faults_of : {R : Type 0} → ReaderSource R → ℕ
faults_of s = s.faults
