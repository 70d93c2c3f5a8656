-- Bytes of generalized UTF-8, read from both ends.
use Rattle.std.specs.Prelude.{◌≡◌, ℕ, ◌<◌, ◌≤◌, nat_lt, Bool, true, List, ◌∷◌, ◌++◌, length, take, drop}
use Rattle.std.specs.List.{list_all}
use Rattle.std.specs.Str.{chars, encode_utf8_all}

-- numbers that are code points
abbrev pub are_code_points : List ℕ → Bool
are_code_points cs = list_all (λ c. nat_lt c 0x11_0000) cs

-- these bytes are those of the code points that they spell
pub record IsGeneralizedUtf8 (bytes : List ℕ) : Type 0 where
  pub codes : are_code_points (chars bytes) ≡ true
  pub whole : encode_utf8_all (chars bytes) ≡ bytes

-- the first n bytes are the first code point c
pub record BeginsWith (bytes : List ℕ) (c n : ℕ) : Type 0 where
  pub first : chars bytes ≡ c ∷ chars (drop n bytes)
  pub rest : IsGeneralizedUtf8 (drop n bytes)
  pub code : c ≤ 0x10_FFFF
  pub within : n ≤ length bytes

-- the bytes from start on are the last code point
pub record EndsFrom (bytes : List ℕ) (start : ℕ) : Type 0 where
  pub split : chars bytes ≡ chars (take start bytes) ++ chars (drop start bytes)
  pub before : IsGeneralizedUtf8 (take start bytes)
  pub last : IsGeneralizedUtf8 (drop start bytes)
  pub one : length (chars (drop start bytes)) ≡ 1
  pub within : start < length bytes
