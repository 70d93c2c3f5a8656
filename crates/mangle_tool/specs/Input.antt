-- What the bytes of an input are, and which program a value holds.
use Rattle.std.specs.Prelude.{◌≡◌, ℕ, Bool, ◌&&◌, List, Option, Some, None, codes, is_some, nat_eq, option_and_then, unwrap_or, if◌then◌else◌}
use Rattle.std.specs.Str.{IsUtf8}
use Rattle.serde_json.specs.Data.{Data, Members}
use Rattle.serde_json.specs.Events.{members_len}
use Rattle.serde_json.specs.Find.{get_member, as_array, as_object}
use Rattle.serde_json.specs.Read.{read as read_text}

-- `serde_json` reads this value from the bytes
abbrev pub Parses : List ℕ → Data → Type 0
Parses input value = IsUtf8 input × (read_text input ≡ Some value)

-- `serde_json` reads no value from the bytes: they are no UTF-8, no JSON, or nest too deeply
abbrev pub IsNotJson : List ℕ → Type 0
IsNotJson input = IsUtf8 input → read_text input ≡ None

-- the members are exactly `node` and `fixes`, the latter a list
abbrev pub is_envelope : Members → Bool
is_envelope ms = nat_eq (members_len ms) 2 && is_some (option_and_then as_array (get_member (codes "fixes") ms))

-- the `node` among the members of an envelope
abbrev pub wrapped_in : Members → Option Data
wrapped_in ms = if is_envelope ms then get_member (codes "node") ms else None

-- the program in an object of exactly `node` and `fixes`, as an answer of this program is
abbrev pub wrapped_program : Data → Option Data
wrapped_program d = option_and_then wrapped_in (as_object d)

-- the value that is to be a program: what is wrapped, or else the value itself
abbrev pub program_in : Data → Data
program_in d = unwrap_or (wrapped_program d) d
