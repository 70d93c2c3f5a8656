-- Where a pattern matches in a string, by byte offsets.
use Rattle.std.specs.Prelude.{◌≡◌, ℕ, ◌+◌, ◌<◌, Bool, true, false, Option, List, [], ◌∷◌, ◌++◌, length, MatchOption}
use Rattle.std.specs.Bool.{MatchBool}
use Rattle.std.specs.Char.{IsScalar}
use Rattle.std.specs.Str.{chars, encode_utf8_all}
use Rattle.memchr.specs.Find.{OccursAt}

-- r is the least number that P holds of, or None where it holds of none
abbrev pub IsLeast : (ℕ → Type 0) → Option ℕ → Type 0
IsLeast P r = MatchOption r ((k : ℕ) → ¬ P k) (λ k. P k × ((i : ℕ) → i < k → ¬ P i))

-- and the greatest
abbrev pub IsGreatest : (ℕ → Type 0) → Option ℕ → Type 0
IsGreatest P r = MatchOption r ((k : ℕ) → ¬ P k) (λ k. P k × ((i : ℕ) → k < i → ¬ P i))

-- the text stands at the end of the bytes
abbrev pub OccursAtEnd : List ℕ → List ℕ → Type 0
OccursAtEnd bytes text = (k : ℕ) × OccursAt bytes text k × (k + length text ≡ length bytes)

-- a character that passes stands at byte offset k
pub record PassesAt (passes : ℕ → Type 0) (bytes : List ℕ) (k : ℕ) : Type 0 where
  pub before : List ℕ
  pub char : ℕ
  pub after : List ℕ
  pub split : chars bytes ≡ before ++ char ∷ after
  pub offset : k ≡ length (encode_utf8_all before)
  pub scalar : IsScalar char
  pub passing : passes char

-- it is the last code point
pub record PassesAtEnd (passes : ℕ → Type 0) (bytes : List ℕ) : Type 0 where
  pub before : List ℕ
  pub char : ℕ
  pub split : chars bytes ≡ before ++ char ∷ []
  pub scalar : IsScalar char
  pub passing : passes char

-- for no character does a test by `post` answer both true and false
abbrev pub IsOneAnswer : (ℕ → Bool → Type 0) → Type 0
IsOneAnswer post = (c : ℕ) → IsScalar c → post c true → post c false → ⊥

-- what a test by `post` answers for a code point: what it gives for a character, and false for a surrogate
abbrev pub Answers : (ℕ → Bool → Type 0) → ℕ → Bool → Type 0
Answers post c r = MatchBool r (IsScalar c × post c true) (IsScalar c → post c false)
