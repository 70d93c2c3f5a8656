-- Which command words are.
use Rattle.std.proofs.Common.{◌≡◌, ℕ, Bool, true, false, List, [], ◌∷◌, Option, None, option_map, length, get_or, bytes_eq, codes, nat_eq, refl, ap, sym, ◌∙◌, arith}
use Rattle.std.proofs.lemmas.Bool.Decides.{nat_tests}
use Rattle.mangle_options.specs.declared.options.MangleOptions.{MangleOptions}
use Rattle.tree_nodes.specs.Tree.{Text}
use Rattle.tool_words.specs.MadeNumber.{made_number}
use Rattle.tool_words.specs.Words.{AreAsked, AsksMangling, command_of, makes, making, mangling, second, settings_of}
use Rattle.tool_words.specs.declared.command.Layout.{Layout}

-- ---- two words, the first `--make`

pub makes_by_two : (ws : List Text) → makes ws ≡ true → length ws ≡ 2
unfolding makes
makes_by_two [] h = absurd (cc)
makes_by_two (w ∷ []) h = absurd (cc)
makes_by_two (w ∷ n ∷ []) h = refl
makes_by_two (w ∷ n ∷ x ∷ ws) h = absurd (cc)

pub other_count : (ws : List Text) (n : ℕ) → n ≡ length ws → nat_eq n 2 ≡ false → false ≡ makes ws
unfolding makes
other_count [] n e h = refl
other_count (w ∷ []) n e h = refl
other_count (w ∷ x ∷ []) n e h = let two : n ≡ 2 = e in absurd (grind (arith, nat_tests, two, h))
other_count (w ∷ x ∷ y ∷ ws) n e h = refl

pub first_of_two : (ws : List Text) (w : Text) (b : Bool) → length ws ≡ 2 → w ≡ get_or ws 0 w → b ≡ bytes_eq w (codes "--make") → b ≡ makes ws
unfolding makes
first_of_two [] w b e is told = absurd (cc)
first_of_two (x ∷ []) w b e is told = absurd (cc)
first_of_two (x ∷ n ∷ []) w b e is told = told ∙ ap (λ (v : Text). bytes_eq v (codes "--make")) is
first_of_two (x ∷ n ∷ y ∷ ws) w b e is told = absurd (cc)

-- ---- what is asked for

second_is : (ws : List Text) (n : Text) → n ≡ get_or ws 1 n → length ws ≡ 2 → n ≡ second ws
second_is [] n is two = absurd (cc)
second_is (w ∷ []) n is two = absurd (cc)
second_is (w ∷ x ∷ ws) n is two = is

pub making_told : (ws : List Text) (n : Text) (o : Option ℕ) → makes ws ≡ true → n ≡ get_or ws 1 n → o ≡ made_number n → command_of ws ≡ option_map making o
unfolding command_of
making_told ws n o h is told = rw h (ap (λ (x : Text). option_map making (made_number x)) (sym (second_is ws n is (makes_by_two ws h))) ∙ ap (option_map making) (sym told))

mangling_told : (ws : List Text) → makes ws ≡ false → command_of ws ≡ option_map mangling (settings_of true ws)
unfolding command_of
mangling_told ws h = rw h refl

pub mangling_asked : (ws : List Text) (o : MangleOptions) (l : Layout) → makes ws ≡ false → AreAsked (settings_of true ws) o l → AsksMangling (command_of ws) o l
mangling_asked ws o l h asked = record {
  settings = asked.settings;
  asked_for = mangling_told ws h ∙ ap (option_map mangling) asked.asked_for;
  has = asked.has;
}

pub mangling_refused : (ws : List Text) → makes ws ≡ false → settings_of true ws ≡ None → command_of ws ≡ None
mangling_refused ws h e = mangling_told ws h ∙ ap (option_map mangling) e
