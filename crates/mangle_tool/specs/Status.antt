-- The number and the text of each status, and where one comes from.
use Rattle.std.specs.Prelude.{ℕ, List, codes}
use Rattle.mangle_tool.specs.declared.status.Status.{Status}
use Rattle.mangle_tool.specs.declared.status.Status.TheVariants.{Done, BadArgument, NotJson, TooLarge, BadTree, BadScope, InputTooLong, ReadFault, WriteFault, Memory}
use Rattle.tool_outside.specs.declared.read_all.ReadAllError.{ReadAllError}
use Rattle.tool_outside.specs.declared.read_all.ReadAllError.TheVariants.{Failed, TooLong, Memory as OutOfMemory}
use Rattle.tool_words.specs.declared.command.WordError.{WordError}
use Rattle.tool_words.specs.declared.command.WordError.TheVariants as word

-- the exit code
abbrev pub number_of : Status → ℕ
number_of Done = 0
number_of BadArgument = 2
number_of NotJson = 3
number_of TooLarge = 4
number_of BadTree = 5
number_of BadScope = 6
number_of InputTooLong = 7
number_of ReadFault = 8
number_of WriteFault = 9
number_of Memory = 10

-- the bytes of the line on standard error
abbrev pub line_of : Status → List ℕ
line_of Done = codes ""
line_of BadArgument = codes "mangle: bad argument"
line_of NotJson = codes "mangle: not JSON"
line_of TooLarge = codes "mangle: too large"
line_of BadTree = codes "mangle: bad tree"
line_of BadScope = codes "mangle: bad scope"
line_of InputTooLong = codes "mangle: input too long"
line_of ReadFault = codes "mangle: read fault"
line_of WriteFault = codes "mangle: write fault"
line_of Memory = codes "mangle: out of memory"

-- how a run ends that can't read its input
abbrev pub read_status : ReadAllError → Status
read_status Failed = ReadFault
read_status TooLong = InputTooLong
read_status OutOfMemory = Memory

-- how a run ends whose words ask for nothing
abbrev pub word_status : WordError → Status
word_status word.BadArgument = BadArgument
word_status word.Memory = Memory
