-- What a piece of work read and wrote.
use Rattle.std.specs.Prelude.{◌≡◌, ℕ, ◌+◌, List, [], Some, length, IfSome}
use Rattle.std.specs.declared.option.Option.{Option}
use Rattle.std.specs.Io.KnownBytes.{Appends, IsAtEnd}
use Rattle.tool_outside.specs.Sink.{AppendsPrefix}
use Rattle.tool_outside.specs.declared.read_all.ReadAllError.TheVariants.{Memory}
use Rattle.tool_outside.specs.declared.work.Outcome.{Outcome}
use Rattle.tool_outside.specs.declared.work.Outcome.TheVariants.{Done, Unread, Refused, Unwritten}

-- the input was read: as many bytes as the count of bytes given grew by, and, of a source that told them, all that were
-- left, so that none is; a source that tells its bytes only now is at its end too
pub record HasRead (left_old left_new : Option (List ℕ)) (given_old given_new : ℕ) (input : List ℕ) : Type 0 where
  pub all : IfSome left_old (λ left. input ≡ left)
  pub nothing_left : IfSome left_old (λ _. left_new ≡ Some [])
  pub at_end : IsAtEnd left_new
  pub counted : given_new ≡ given_old + length input

-- a whole text of these was written
pub record HasWritten (IsText : List ℕ → Type 0) (held_old held_new : Option (List ℕ)) : Type 0 where
  pub text : List ℕ
  pub is_text : IsText text
  pub written : Appends held_old held_new text

-- a first part of such a text was written
pub record HasBegun (IsText : List ℕ → Type 0) (held_old held_new : Option (List ℕ)) : Type 0 where
  pub text : List ℕ
  pub is_text : IsText text
  pub written : AppendsPrefix held_old held_new text

-- the input was read, and its whole answer was written
pub record HasAnswered (Answers : List ℕ → List ℕ → Type 0) (left_old left_new : Option (List ℕ)) (given_old given_new : ℕ)
    (held_old held_new : Option (List ℕ)) : Type 0 where
  pub input : List ℕ
  pub read : HasRead left_old left_new given_old given_new input
  pub answer : HasWritten (Answers input) held_old held_new

-- the input was read, and a first part of its answer was written
pub record HasBegunAnswer (Answers : List ℕ → List ℕ → Type 0) (left_old left_new : Option (List ℕ)) (given_old given_new : ℕ)
    (held_old held_new : Option (List ℕ)) : Type 0 where
  pub input : List ℕ
  pub read : HasRead left_old left_new given_old given_new input
  pub answer : HasBegun (Answers input) held_old held_new

-- the input was read, and this is wrong with it
pub record HasRefused (IsCause : List ℕ → Type 0) (left_old left_new : Option (List ℕ)) (given_old given_new : ℕ) : Type 0 where
  pub input : List ℕ
  pub read : HasRead left_old left_new given_old given_new input
  pub cause : IsCause input

-- the work was done, or memory ran out while reading, or the input was refused for its cause
abbrev pub EndsUnlessRefused : {E : Type 0} → (E → Type 0) → Outcome E → Type 0
EndsUnlessRefused IsCause Done = Unit {0}
EndsUnlessRefused IsCause (Unread Memory) = Unit {0}
EndsUnlessRefused IsCause (Unread _) = ⊥
EndsUnlessRefused IsCause (Refused e) = IsCause e
EndsUnlessRefused IsCause Unwritten = ⊥
