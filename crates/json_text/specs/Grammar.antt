-- The grammar of JSON (RFC 8259): which texts, as bytes, read as a value.
use Rattle.std.specs.Prelude.{ℕ, suc, ◌≡◌, ◌≢◌, ◌+◌, ◌-◌, ◌*◌, ◌<◌, ◌≤◌, ◌⊎◌, ℤ, pos, negsuc, List, [], ◌∷◌, ◌++◌, length, Bool, true, false, cond, codes, flat_map, encode_utf8}
use Rattle.std.specs.Char.{IsScalar}
use Rattle.json_text.specs.Json.{Json, null, truth, whole, other_number, string, list, object, Items, no_items, item, Members, no_members, member}

-- White space

abbrev pub IsSpaceByte : ℕ → Type 0
IsSpaceByte c = ((c ≡ 32) ⊎ (c ≡ 9)) ⊎ ((c ≡ 10) ⊎ (c ≡ 13))

abbrev pub IsSpace : List ℕ → Type 0
IsSpace [] = Unit {0}
IsSpace (c ∷ cs) = IsSpaceByte c × IsSpace cs

-- Numbers

abbrev pub IsDigit : ℕ → Type 0
IsDigit c = (48 ≤ c) × (c < 58)

abbrev pub AreDigits : List ℕ → Type 0
AreDigits [] = Unit {0}
AreDigits (c ∷ cs) = IsDigit c × AreDigits cs

-- zero, or digits of which the first isn't zero
abbrev pub IsInt : List ℕ → Type 0
IsInt [] = ⊥
IsInt (c ∷ []) = IsDigit c
IsInt (c ∷ d ∷ cs) = (49 ≤ c) × (c < 58) × AreDigits (d ∷ cs)

-- the number that digits stand for, after others that stand for n
abbrev pub number_of : ℕ → List ℕ → ℕ
number_of n [] = n
number_of n (c ∷ cs) = number_of (n * 10 + (c - 48)) cs

abbrev pub IsWhole : List ℕ → ℤ → Type 0
IsWhole t (pos n) = IsInt t × (n ≡ number_of 0 t)
IsWhole [] (negsuc n) = ⊥
IsWhole (c ∷ cs) (negsuc n) = (c ≡ 45) × IsInt cs × (suc n ≡ number_of 0 cs)

-- a point and digits, or nothing
abbrev pub IsFraction : List ℕ → Type 0
IsFraction [] = Unit {0}
IsFraction (c ∷ cs) = (c ≡ 46) × (0 < length cs) × AreDigits cs

abbrev pub IsSign : List ℕ → Type 0
IsSign [] = Unit {0}
IsSign (c ∷ []) = (c ≡ 43) ⊎ (c ≡ 45)
IsSign (c ∷ d ∷ cs) = ⊥

-- an e, a sign or none, and digits, or nothing
abbrev pub IsExponent : List ℕ → Type 0
IsExponent [] = Unit {0}
IsExponent (c ∷ cs) = ((c ≡ 101) ⊎ (c ≡ 69))
    × ((s : List ℕ) × (ds : List ℕ) × (cs ≡ s ++ ds) × IsSign s × (0 < length ds) × AreDigits ds)

-- with a fraction or an exponent
abbrev pub IsBroken : List ℕ → Type 0
IsBroken t = (i : List ℕ) × (f : List ℕ) × (e : List ℕ)
    × (t ≡ i ++ (f ++ e)) × IsInt i × IsFraction f × IsExponent e × (0 < length f + length e)

abbrev pub IsOtherNumber : List ℕ → Type 0
IsOtherNumber t = (t ≡ codes "-0") ⊎ (IsBroken t ⊎ ((u : List ℕ) × (t ≡ 45 ∷ u) × IsBroken u))

-- Strings

pub data Piece : Type 0 where
  -- a character as it is
  char : ℕ → Piece
  -- a backslash and one byte
  short : ℕ → Piece
  -- a backslash, a u and four digits
  hex : ℕ → ℕ → ℕ → ℕ → Piece

-- the code unit of a short escape
abbrev pub StandsFor : ℕ → ℕ → Type 0
StandsFor c u = (((c ≡ 34) × (u ≡ 34)) ⊎ ((c ≡ 92) × (u ≡ 92))) ⊎ (((c ≡ 47) × (u ≡ 47)) ⊎ (((c ≡ 98) × (u ≡ 8)) ⊎ (((c ≡ 102) × (u ≡ 12))
    ⊎ (((c ≡ 110) × (u ≡ 10)) ⊎ (((c ≡ 114) × (u ≡ 13)) ⊎ ((c ≡ 116) × (u ≡ 9)))))))

-- a hexadecimal digit and its value
abbrev pub IsHex : ℕ → ℕ → Type 0
IsHex c v = ((48 ≤ c) × (c < 58) × (c ≡ v + 48)) ⊎ (((65 ≤ c) × (c < 71) × (c ≡ v + 55)) ⊎ ((97 ≤ c) × (c < 103) × (c ≡ v + 87)))

abbrev pub piece_text : Piece → List ℕ
piece_text (char c) = encode_utf8 c
piece_text (short c) = 92 ∷ c ∷ []
piece_text (hex a b c d) = 92 ∷ 117 ∷ a ∷ b ∷ c ∷ d ∷ []

-- the UTF-16 code units of a character
abbrev pub ReadsChar : ℕ → List ℕ → Type 0
ReadsChar c [] = ⊥
ReadsChar c (u ∷ []) = (c < 65536) × (u ≡ c)
ReadsChar c (u ∷ v ∷ []) = (55296 ≤ u) × (u < 56320) × (56320 ≤ v) × (v < 57344) × (c + 56613888 ≡ u * 1024 + v)
ReadsChar c (u ∷ v ∷ w ∷ us) = ⊥

abbrev pub ReadsPiece : Piece → List ℕ → Type 0
ReadsPiece (char c) us = IsScalar c × (32 ≤ c) × (c ≢ 34) × (c ≢ 92) × ReadsChar c us
ReadsPiece (short c) [] = ⊥
ReadsPiece (short c) (u ∷ []) = StandsFor c u
ReadsPiece (short c) (u ∷ v ∷ us) = ⊥
ReadsPiece (hex a b c d) us = (h : ℕ) × (i : ℕ) × (j : ℕ) × (k : ℕ)
    × IsHex a h × IsHex b i × IsHex c j × IsHex d k × (us ≡ (h * 4096 + i * 256 + j * 16 + k) ∷ [])

abbrev pub ReadsPieces : List Piece → List ℕ → Type 0
ReadsPieces [] us = us ≡ []
ReadsPieces (p ∷ ps) us = (a : List ℕ) × (b : List ℕ) × (us ≡ a ++ b) × ReadsPiece p a × ReadsPieces ps b

abbrev pub IsString : List ℕ → List ℕ → Type 0
IsString t us = (ps : List Piece) × (t ≡ 34 ∷ (flat_map piece_text ps ++ 34 ∷ [])) × ReadsPieces ps us

-- Values

-- what stands before an element: nothing before the first, a comma before a later one, and white space
abbrev pub IsBefore : Bool → List ℕ → Type 0
IsBefore true t = IsSpace t
IsBefore false t = (a : List ℕ) × (b : List ℕ) × (t ≡ a ++ 44 ∷ b) × IsSpace a × IsSpace b

-- a colon between white space
abbrev pub IsColon : List ℕ → Type 0
IsColon t = (a : List ℕ) × (b : List ℕ) × (t ≡ a ++ 58 ∷ b) × IsSpace a × IsSpace b

abbrev mutual
  -- t is a value with no white space round it
  pub ReadsValue : List ℕ → Json → Type 0
  ReadsValue t null = t ≡ codes "null"
  ReadsValue t (truth b) = t ≡ cond b (codes "true") (codes "false")
  ReadsValue t (whole n) = IsWhole t n
  ReadsValue t other_number = IsOtherNumber t
  ReadsValue t (string us) = IsString t us
  ReadsValue t (list xs) = (a : List ℕ) × (t ≡ 91 ∷ a) × ReadsItems true a xs
  ReadsValue t (object ms) = (a : List ℕ) × (t ≡ 123 ∷ a) × ReadsMembers true a ms

  -- t is the rest of a list; first: right after its bracket, and else after an element
  pub ReadsItems : Bool → List ℕ → Items → Type 0
  ReadsItems first t no_items = (w : List ℕ) × (t ≡ w ++ 93 ∷ []) × IsSpace w
  ReadsItems first t (item x xs) = (w : List ℕ) × (a : List ℕ) × (b : List ℕ)
      × (t ≡ w ++ (a ++ b)) × IsBefore first w × ReadsValue a x × ReadsItems false b xs

  pub ReadsMembers : Bool → List ℕ → Members → Type 0
  ReadsMembers first t no_members = (w : List ℕ) × (t ≡ w ++ 125 ∷ []) × IsSpace w
  ReadsMembers first t (member k x ms) = (w : List ℕ) × (s : List ℕ) × (c : List ℕ) × (a : List ℕ) × (b : List ℕ)
      × (t ≡ w ++ (s ++ (c ++ (a ++ b)))) × IsBefore first w × IsString s k × IsColon c × ReadsValue a x × ReadsMembers false b ms

-- the whole text is one value
abbrev pub Reads : List ℕ → Json → Type 0
Reads t v = (w : List ℕ) × (a : List ℕ) × (z : List ℕ) × (t ≡ w ++ (a ++ z)) × IsSpace w × ReadsValue a v × IsSpace z

abbrev pub ReadsOnce : Type 0
ReadsOnce = (t : List ℕ) (v w : Json) → Reads t v → Reads t w → v ≡ w
