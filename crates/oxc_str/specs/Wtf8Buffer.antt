-- Text that grows, as bytes of WTF-8.
use Rattle.std.specs.Prelude.{◌≡◌, ℕ, ◌+◌, ◌<◌, true, false, ◌&&◌, cond, List, [], ◌∷◌, ◌++◌, take, length, slice_index_or}
use Rattle.std.specs.Str.{chars}
use Rattle.json_text.specs.Strings.{is_lead, is_trail, joined}
use Rattle.oxc_str.specs.Wtf8.{is_surrogate, IsWtf8}

-- how many of these code points are surrogates
abbrev pub surrogate_count : List ℕ → ℕ
surrogate_count [] = 0
surrogate_count (c ∷ cs) = cond (is_surrogate c) 1 0 + surrogate_count cs

-- the last one, and 0 where there is none
abbrev pub last_or_0 : List ℕ → ℕ
last_or_0 [] = 0
last_or_0 (c ∷ []) = c
last_or_0 (c ∷ d ∷ cs) = last_or_0 (d ∷ cs)

-- bytes of WTF-8 with so many surrogates
pub record IsCounted (bytes : List ℕ) (count : ℕ) : Type 0 where
  pub text : IsWtf8 bytes
  pub counted : count ≡ surrogate_count (chars bytes)

-- no lead stands at the end of these bytes before a trail at the front of those
abbrev pub StandApart : List ℕ → List ℕ → Type 0
StandApart bytes more = (is_lead (last_or_0 (chars bytes)) && is_trail (slice_index_or (chars more) 0 0)) ≡ false

-- a lead at the end of these bytes and a trail at the front of those are the code point c
pub record JoinTo (bytes more : List ℕ) (c : ℕ) : Type 0 where
  pub front : List ℕ
  pub lead : ℕ
  pub trail : ℕ
  pub back : List ℕ
  pub ends : chars bytes ≡ front ++ lead ∷ []
  pub begins : chars more ≡ trail ∷ back
  pub pairs : (is_lead lead && is_trail trail) ≡ true
  pub code : c ≡ joined lead trail

-- of these units a beginning was pushed, and not all
pub record IsPartlyPushed (old units new : List ℕ) : Type 0 where
  pub count : ℕ
  pub not_all : count < length units
  pub pushed : new ≡ old ++ take count units
