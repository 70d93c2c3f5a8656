-- What a run read and wrote, by what its words ask for.
use Rattle.std.specs.Prelude.{ℕ, ◌≤◌, Bool, true, false, List, Some, None, length}
use Rattle.std.specs.declared.option.Option.{Option}
use Rattle.made_input.specs.Made.{made_text}
use Rattle.mangle_tool.specs.Answer.{IsAnswer, IsCauseOf, IsValidInput, refused_status}
use Rattle.mangle_tool.specs.Asked.{asked_for}
use Rattle.mangle_tool.specs.Make.{HasLengths}
use Rattle.mangle_tool.specs.Status.{read_status}
use Rattle.mangle_tool.specs.declared.estree.error.MangleError.{MangleError}
use Rattle.mangle_tool.specs.declared.status.Status.{Status}
use Rattle.mangle_tool.specs.declared.status.Status.TheVariants as status
use Rattle.tool_outside.specs.Outside.{HasAnswered, HasBegun, HasBegunAnswer, HasRefused, HasWritten}
use Rattle.tool_outside.specs.declared.carry_out.TheConstants.{INPUT_LIMIT}
use Rattle.tool_outside.specs.declared.work.Outcome.{Outcome}
use Rattle.tool_outside.specs.declared.work.Outcome.TheVariants.{Done, Unread, Refused, Unwritten}
use Rattle.tool_words.specs.Words.{AreListed, Settings, Task, making, mangling}
use Rattle.tree_nodes.specs.Tree.{Text}

-- the text answers the input under these settings. The reserved names are a set, so they are told in some order
pub record IsAnswerBy (s : Settings) (input text : List ℕ) : Type 0 where
  pub names : List Text
  pub listed : AreListed names s.reserved
  pub answer : IsAnswer (asked_for s.flags names) input text

-- whether an input is read
abbrev pub reads : Option Task → Bool
reads (Some (mangling s)) = true
reads (Some (making n)) = false
reads None = false

-- the input was read, and its whole answer was written; or, as a line on a made input, what is told of that
abbrev pub HasDone : Option Task → (left_old left_new : Option (List ℕ)) (given_old given_new : ℕ) (held_old held_new : Option (List ℕ)) → Type 0
HasDone (Some (mangling s)) left_old left_new given_old given_new held_old held_new = HasAnswered (IsAnswerBy s) left_old left_new given_old given_new held_old held_new
HasDone (Some (making n)) left_old left_new given_old given_new held_old held_new = HasWritten (HasLengths n (made_text n)) held_old held_new
HasDone None left_old left_new given_old given_new held_old held_new = ⊥

-- the same, but that a first part of it was written
abbrev pub HasBegunTo : Option Task → (left_old left_new : Option (List ℕ)) (given_old given_new : ℕ) (held_old held_new : Option (List ℕ)) → Type 0
HasBegunTo (Some (mangling s)) left_old left_new given_old given_new held_old held_new = HasBegunAnswer (IsAnswerBy s) left_old left_new given_old given_new held_old held_new
HasBegunTo (Some (making n)) left_old left_new given_old given_new held_old held_new = HasBegun (HasLengths n (made_text n)) held_old held_new
HasBegunTo None left_old left_new given_old given_new held_old held_new = ⊥

-- the input was read, or made, and this is wrong with it
abbrev pub WasRefused : Option Task → (left_old left_new : Option (List ℕ)) (given_old given_new : ℕ) → MangleError → Type 0
WasRefused (Some (mangling s)) left_old left_new given_old given_new e = HasRefused (IsCauseOf (length s.reserved) e) left_old left_new given_old given_new
WasRefused (Some (making n)) left_old left_new given_old given_new e = IsCauseOf 0 e (made_text n)
WasRefused None left_old left_new given_old given_new e = ⊥

-- the bytes that are told are a valid input within the limit
abbrev pub IsAnswerable : Option Task → (left : Option (List ℕ)) → Type 0
IsAnswerable (Some (mangling s)) (Some left) = (length left ≤ INPUT_LIMIT) × IsValidInput (length s.reserved) left
IsAnswerable (Some (mangling s)) None = ⊥
IsAnswerable (Some (making n)) left = ⊥
IsAnswerable None left = ⊥

-- a made input is asked for
abbrev pub IsMaking : Option Task → Type 0
IsMaking (Some (mangling s)) = ⊥
IsMaking (Some (making n)) = Unit {0}
IsMaking None = ⊥

-- how a run ends by the end of its work
abbrev pub ended : Outcome MangleError → Status
ended Done = status.Done
ended (Unread e) = read_status e
ended (Refused e) = refused_status e
ended Unwritten = status.WriteFault
