-- What a `JSStr` is to a contract: its code units.
use Rattle.std.specs.Prelude.{ℕ, cond, List}
use Rattle.std.specs.Hash as fed
use Rattle.json_text.specs.Units.{units_of}
use Rattle.oxc_str.specs.Wtf8.{has_lone_surrogate}
use Rattle.oxc_str.specs.declared.js_str.JSStr.{JSStr}

-- the bytes of WTF-8
abbrev pub js_bytes : JSStr → List ℕ
js_bytes s = s.bytes.now

-- the code units
abbrev pub js_units : JSStr → List ℕ
js_units s = units_of s.bytes.now

-- the writes that hash these bytes: those of a text, where they are one
abbrev pub hash_writes : List ℕ → fed.HashWrites
hash_writes bytes = cond (has_lone_surrogate (units_of bytes)) (fed.slice fed.u8 bytes) (fed.str bytes)
