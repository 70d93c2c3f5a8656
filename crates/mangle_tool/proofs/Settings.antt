-- Options and layouts that words ask for.
use Rattle.std.proofs.Common.{◌≡◌, ℕ, false, List, [], None, refl, sym, ap, ap₂, ◌∙◌, subst, Option}
use Rattle.mangle_options.specs.Settings.{options_in, reserved_in}
use Rattle.mangle_options.specs.declared.options.MangleOptions.{MangleOptions}
use Rattle.mangle_tool.specs.Answer.{IsAnswer}
use Rattle.mangle_tool.specs.Asked.{Asked, asked_by, asked_for, usual}
use Rattle.mangle_tool.specs.Run.{HasBegunTo, HasDone, IsAnswerBy}
use Rattle.tool_outside.specs.Outside.{HasAnswered, HasBegunAnswer}
use Rattle.tool_words.specs.Words.{AsksMangling, Flags, HasSettings, Settings, Task, flags_in, no_settings}
use Rattle.tool_words.specs.declared.command.Layout.{Layout}
use Rattle.tool_words.specs.declared.command.Layout.TheVariants.{Compact}

-- options ask what their settings do
asked_by_settings : (o : MangleOptions) (l : Layout) → asked_by o l ≡ asked_for (flags_in o l) (reserved_in o)
unfolding options_in
asked_by_settings o l = refl

pub usual_asked : (o : MangleOptions) → o.top_level ≡ None → o.keep_names.function ≡ false → o.keep_names.class ≡ false → reserved_in o ≡ [] → o.debug ≡ false → asked_by o Compact ≡ usual
usual_asked o top function class reserved debug =
    let flags : flags_in o Compact ≡ no_settings.flags = cc in
    asked_by_settings o Compact ∙ ap₂ asked_for flags reserved

-- ---- what is written and refused, by the words

module _ (s : Settings) (o : MangleOptions) (l : Layout) (has : HasSettings s o l) where
  answer_by : (input text : List ℕ) → IsAnswer (asked_by o l) input text → IsAnswerBy s input text
  answer_by input text a = record {
    names = reserved_in o;
    listed = has.reserved;
    answer = subst (λ (asked : Asked). IsAnswer asked input text) (asked_by_settings o l ∙ ap (λ (f : Flags). asked_for f (reserved_in o)) has.flags) a;
  }

module _ (t : Option Task) (o : MangleOptions) (l : Layout) (asks : AsksMangling t o l) (left_old left_new : Option (List ℕ)) (given_old given_new : ℕ) where
  pub done_by : (held_old held_new : Option (List ℕ)) → HasAnswered (IsAnswer (asked_by o l)) left_old left_new given_old given_new held_old held_new
      → HasDone t left_old left_new given_old given_new held_old held_new
  done_by held_old held_new a = subst (λ (u : Option Task). HasDone u left_old left_new given_old given_new held_old held_new) (sym asks.asked_for) (record {
    input = a.input;
    read = a.read;
    answer = record { text = a.answer.text; is_text = answer_by asks.settings o l asks.has a.input a.answer.text a.answer.is_text; written = a.answer.written };
  })

  pub begun_by : (held_old held_new : Option (List ℕ)) → HasBegunAnswer (IsAnswer (asked_by o l)) left_old left_new given_old given_new held_old held_new
      → HasBegunTo t left_old left_new given_old given_new held_old held_new
  begun_by held_old held_new a = subst (λ (u : Option Task). HasBegunTo u left_old left_new given_old given_new held_old held_new) (sym asks.asked_for) (record {
    input = a.input;
    read = a.read;
    answer = record { text = a.answer.text; is_text = answer_by asks.settings o l asks.has a.input a.answer.text a.answer.is_text; written = a.answer.written };
  })
