-- The text of a string: characters as they are, but for what has to be escaped. A lone surrogate is escaped.
use Rattle.std.specs.Prelude.{ℕ, ◌+◌, ◌-◌, ◌*◌, ◌/◌, ◌%◌, List, [], ◌∷◌, ◌++◌, Bool, cond, ◌&&◌, nat_lt, nat_le, nat_eq, Option, Some, None, encode_utf8}

abbrev pub hex_digit : ℕ → ℕ
hex_digit d = cond (nat_lt d 10) (48 + d) (87 + d)

abbrev pub unit_escape : ℕ → List ℕ
unit_escape u = 92 ∷ 117 ∷ hex_digit (u / 4096) ∷ hex_digit (u / 256 % 16) ∷ hex_digit (u / 16 % 16) ∷ hex_digit (u % 16) ∷ []

abbrev pub short_escape : ℕ → List ℕ
short_escape c = 92 ∷ c ∷ []

-- a character, or a code unit that is one
abbrev pub char_text : ℕ → List ℕ
char_text c =
    cond (nat_eq c 34) (short_escape 34) (cond (nat_eq c 92) (short_escape 92)
    (cond (nat_eq c 8) (short_escape 98) (cond (nat_eq c 9) (short_escape 116) (cond (nat_eq c 10) (short_escape 110)
    (cond (nat_eq c 12) (short_escape 102) (cond (nat_eq c 13) (short_escape 114)
    (cond (nat_lt c 32) (unit_escape c) (encode_utf8 c))))))))

abbrev pub is_lead : ℕ → Bool
is_lead u = nat_le 55296 u && nat_lt u 56320

abbrev pub is_trail : ℕ → Bool
is_trail u = nat_le 56320 u && nat_lt u 57344

-- the character of a lead and a trail
abbrev pub joined : ℕ → ℕ → ℕ
joined h t = (h - 55296) * 1024 + (t - 56320) + 65536

-- what a lead that nothing follows writes
abbrev pub flush : Option ℕ → List ℕ
flush None = []
flush (Some h) = unit_escape h

-- a trail, after a lead or alone
abbrev pub trail_text : Option ℕ → ℕ → List ℕ
trail_text None u = unit_escape u
trail_text (Some h) u = encode_utf8 (joined h u)

-- what a unit writes, after a lead that waits
abbrev pub unit_text : Option ℕ → ℕ → List ℕ
unit_text p u = cond (is_lead u) (flush p) (cond (is_trail u) (trail_text p u) (flush p ++ char_text u))

abbrev pub waits : ℕ → Option ℕ
waits u = cond (is_lead u) (Some u) None

abbrev pub units_text : Option ℕ → List ℕ → List ℕ
units_text p [] = flush p
units_text p (u ∷ us) = unit_text p u ++ units_text (waits u) us

abbrev pub quoted_units : List ℕ → List ℕ
quoted_units us = 34 ∷ (units_text None us ++ 34 ∷ [])
