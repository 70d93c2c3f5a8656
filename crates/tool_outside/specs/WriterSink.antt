-- What a clause reads of a `WriterSink`.
use Rattle.std.specs.Prelude.{ℕ, Bool}
use Rattle.tool_outside.specs.declared.adapters.WriterSink.{WriterSink}

-- the writer that it hands its bytes to
abbrev pub writer_of : {W : Type 0} → WriterSink W → W
writer_of s = s.writer

-- whether a flush succeeded since a byte was written
abbrev pub is_settled : {W : Type 0} → WriterSink W → Bool
is_settled s = s.settled

-- how often it has failed
abbrev pub faults_of : {W : Type 0} → WriterSink W → ℕ
faults_of s = s.faults
