-- How a run ends tells how its work ended.
use Rattle.std.proofs.Common.{◌≡◌, ◌≢◌, ◌⊎◌, ℕ, List, inl, inr, refl, ap, sym, ◌∙◌, true≢false}
use Rattle.list_laws.proofs.Tests.{none_some, some_one}
use Rattle.scope_rules.specs.Bindings.{same_name}
use Rattle.scope_rules.specs.Faults.{has_fault}
use Rattle.serde_json.specs.Data.{Data}
use Rattle.tree_core.specs.Limits.{is_too_large}
use Rattle.tree_nodes.specs.Tree.{Tree, alone}
use Rattle.tree_places.specs.Places.{places}
use Rattle.mangle_tool.specs.Input.{Parses}
use Rattle.mangle_tool.specs.Mangling.{tree_in}
use Rattle.mangle_tool.specs.Answer.{IsCauseOf, IsValidInput, refused_status}
use Rattle.mangle_tool.specs.Run.{ended}
use Rattle.mangle_tool.specs.declared.estree.error.MangleError.{MangleError}
use Rattle.mangle_tool.specs.declared.estree.error.MangleError.TheVariants.{NotJson, TooLarge, BadTree, BadScope, Memory}
use Rattle.mangle_tool.specs.declared.status.Status.{Status}
use Rattle.mangle_tool.specs.declared.status.Status.TheVariants as status
use Rattle.tool_outside.specs.declared.read_all.ReadAllError.{ReadAllError}
use Rattle.tool_outside.specs.declared.read_all.ReadAllError.TheVariants as read
use Rattle.tool_outside.specs.declared.work.Outcome.{Outcome}
use Rattle.tool_outside.specs.declared.work.Outcome.TheVariants.{Done, Unread, Refused, Unwritten}

-- the end of work that leads to this status; Memory has two, and BadArgument none
from_status : Status → Outcome MangleError
from_status status.Done = Done
from_status status.BadArgument = Unwritten
from_status status.NotJson = Refused NotJson
from_status status.TooLarge = Refused TooLarge
from_status status.BadTree = Refused BadTree
from_status status.BadScope = Refused BadScope
from_status status.InputTooLong = Unread read.TooLong
from_status status.ReadFault = Unread read.Failed
from_status status.WriteFault = Unwritten
from_status status.Memory = Refused Memory

told_back : (o : Outcome MangleError) → ended o ≢ status.Memory → from_status (ended o) ≡ o
unfolding from_status
told_back Done n = refl
told_back (Unread read.Failed) n = refl
told_back (Unread read.TooLong) n = refl
told_back (Unread read.Memory) n = absurd (n refl)
told_back (Refused NotJson) n = refl
told_back (Refused TooLarge) n = refl
told_back (Refused BadTree) n = refl
told_back (Refused BadScope) n = refl
told_back (Refused Memory) n = refl
told_back Unwritten n = refl

ended_by : (o : Outcome MangleError) (s : Status) → ended o ≡ s → s ≢ status.Memory → o ≡ from_status s
ended_by o s h n = sym (told_back o (λ m. n (sym h ∙ m))) ∙ ap from_status h

pub ended_done : (o : Outcome MangleError) → ended o ≡ status.Done → o ≡ Done
unfolding from_status
ended_done o h = ended_by o status.Done h (λ m. cc)

pub ended_unwritten : (o : Outcome MangleError) → ended o ≡ status.WriteFault → o ≡ Unwritten
unfolding from_status
ended_unwritten o h = ended_by o status.WriteFault h (λ m. cc)

pub ended_too_long : (o : Outcome MangleError) → ended o ≡ status.InputTooLong → o ≡ Unread read.TooLong
unfolding from_status
ended_too_long o h = ended_by o status.InputTooLong h (λ m. cc)

-- ---- a valid input is refused for want of memory alone

same_value : (input : List ℕ) (d e : Data) → Parses input d → Parses input e → d ≡ e
same_value input d e p q = some_one d e (sym p.1 ∙ q.1)

-- what a refusal says of a valid input can't be
pub valid_refused : (reserved : ℕ) (input : List ℕ) (e : MangleError) → IsValidInput reserved input → IsCauseOf reserved e input → refused_status e ≡ status.Memory
valid_refused reserved input NotJson v cause = absurd (none_some v.value (sym (cause v.parses.0) ∙ v.parses.1))
valid_refused reserved input TooLarge v cause =
    absurd (true≢false (sym cause.cause ∙ ap (λ (d : Data). is_too_large d reserved) (same_value input cause.value v.value cause.parses v.parses) ∙ v.valid.within))
valid_refused reserved input BadTree v cause =
    absurd (none_some v.valid.tree (sym cause.cause.no_tree ∙ ap tree_in (same_value input cause.value v.value cause.parses v.parses) ∙ v.valid.is_tree))
valid_refused reserved input BadScope v cause =
    let same : cause.cause.tree ≡ v.valid.tree = some_one cause.cause.tree v.valid.tree (sym cause.cause.is_tree ∙ ap tree_in (same_value input cause.value v.value cause.parses v.parses) ∙ v.valid.is_tree) in
    absurd (true≢false (sym cause.cause.faulty ∙ ap (λ (t : Tree). has_fault same_name (places (alone t))) same ∙ v.valid.sound))
valid_refused reserved input Memory v cause = refl

pub made_ends : (input : List ℕ) (o : Outcome MangleError) → IsValidInput 0 input → ((e : MangleError) → o ≡ Refused e → IsCauseOf 0 e input)
    → ((e : ReadAllError) → o ≢ Unread e) → o ≢ Unwritten → (ended o ≡ status.Done) ⊎ (ended o ≡ status.Memory)
made_ends input Done v cause read written = inl refl
made_ends input (Unread e) v cause read written = absurd (read e refl)
made_ends input (Refused e) v cause read written = inr (valid_refused 0 input e v (cause e refl))
made_ends input Unwritten v cause read written = absurd (written refl)
