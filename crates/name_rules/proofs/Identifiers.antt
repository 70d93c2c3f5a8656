-- Short names are identifier names.
use Rattle.std.specs.Prelude.{◌≡◌, ◌<◌, ℕ, zero, suc, ◌/◌, ◌%◌, Bool, true, ◌&&◌, get_or}
use Rattle.std.specs.List.{list_all}
use Rattle.std.proofs.Common.{refl, ap, ◌∙◌, arith, IsAscii}
use Rattle.std.proofs.lemmas.Bool.{agree_below_at}
use Rattle.std.proofs.lemmas.Str.{chars-IsAscii}
use Rattle.name_rules.proofs.Characters.{character_ascii}
use Rattle.name_rules.specs.NameCharacters.{ShortNamesAreIdentifiers}
use Rattle.name_rules.specs.Open.{all_open}
use Rattle.name_rules.specs.ShortNames.{characters, more_characters, short}
use Rattle.syntax_lex.specs.Identifier.{are_identifier_characters, is_identifier_part, is_identifier_start}

starts : (k : ℕ) → k < 54 → is_identifier_start (get_or characters k 0) ≡ true
starts k h = agree_below_at (λ n. is_identifier_start (get_or characters n 0)) (λ n. true) 54 k refl h

goes_on : (k : ℕ) → k < 64 → is_identifier_part (get_or characters k 0) ≡ true
goes_on k h = agree_below_at (λ n. is_identifier_part (get_or characters n 0)) (λ n. true) 64 k refl h

more_go_on : (fuel m : ℕ) → list_all is_identifier_part (more_characters fuel m) ≡ true
unfolding all_open
more_go_on zero m = refl
more_go_on (suc fuel) zero = refl
more_go_on (suc fuel) (suc m) =
    ap (λ (b : Bool). b && list_all is_identifier_part (more_characters fuel (m / 64))) (goes_on (m % 64) (omega arith)) ∙ more_go_on fuel (m / 64)

more_ascii : (fuel m : ℕ) → IsAscii (more_characters fuel m)
unfolding all_open
more_ascii zero m i = omega arith
more_ascii (suc fuel) zero i = omega arith
more_ascii (suc fuel) (suc m) zero = character_ascii (m % 64) (omega arith)
more_ascii (suc fuel) (suc m) (suc i) = more_ascii fuel (m / 64) i

short_ascii : (n : ℕ) → IsAscii (short n)
unfolding all_open
short_ascii n zero = character_ascii (n % 54) (omega arith)
short_ascii n (suc i) = more_ascii n (n / 54) i

pub short_names_are_identifiers : ShortNamesAreIdentifiers
unfolding all_open
short_names_are_identifiers n =
    ap are_identifier_characters (chars-IsAscii (short n) (short_ascii n))
    ∙ ap (λ (b : Bool). b && list_all is_identifier_part (more_characters n (n / 54))) (starts (n % 54) (omega arith))
    ∙ more_go_on n (n / 54)
