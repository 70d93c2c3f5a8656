-- What was shown so far.
use Rattle.std.proofs.Common.{◌≡◌, ℕ, ◌<◌, ◌≤◌, ◌-◌, ◌/◌, ◌%◌, ◌^◌, true, false, suc, nat_eq, nat_le, nat_lt, List, [], ◌∷◌, ◌++◌, append_assoc, append-nil, drop, arith, sym, ap, ap₂, ◌∙◌, refl, subst, leb-true, ltb-true}
use Rattle.std.specs.Fmt.{IsPlainFormatter, HasWritten, char_count, digits, digits_onto, format_spec, padded_integral}
use Rattle.std.proofs.lemmas.Bool.{and_parts}
use Rattle.std.proofs.lemmas.Bool.Decides.{nat_tests}
use Rattle.std.specs.declared.fmt.Formatter.{Formatter}
use Rattle.std.proofs.lemmas.Grind.{put_two}
use Rattle.json_text.specs.Strings.{hex_digit, unit_escape}
use Rattle.oxc_str.specs.JSStrDisplay.{shown, shown_char}
use Rattle.oxc_str.specs.Wtf8.{is_surrogate}

-- Of `all`, what comes before `left` was written to f, which is g now.
pub record Writing {W : Type 0} (took : W → List ℕ → W → Type 0) (all left : List ℕ) (f g : Formatter W) : Type 0 where
  pub done : List ℕ
  pub split : shown all ≡ done ++ shown left
  pub wrote : IsPlainFormatter f → HasWritten took f done g

pub nothing_shown : {W : Type 0} (took : W → List ℕ → W → Type 0) (all left : List ℕ) (f : Formatter W) → left ≡ all → Writing took all left f f
nothing_shown took all left f e = record {
  done = [];
  split = ap shown (sym e);
  wrote = λ p. record { wrote = record { parts = []; calls = refl; whole = refl }; plain = p };
}

pub one_more_shown : {W : Type 0} (took : W → List ℕ → W → Type 0) (all left rest : List ℕ) (c : ℕ) (f g h : Formatter W)
    → Writing took all left f g → left ≡ c ∷ rest → (IsPlainFormatter g → HasWritten took g (shown_char c) h) → Writing took all rest f h
one_more_shown took all left rest c f g h w e x = record {
  done = w.done ++ shown_char c;
  split = w.split ∙ ap (λ (l : List ℕ). w.done ++ shown l) e ∙ sym (append_assoc w.done (shown_char c) (shown rest));
  wrote = λ p. let a = w.wrote p in put_two took f g h w.done (shown_char c) (w.done ++ shown_char c) a (x a.plain) refl;
}

pub all_shown : {W : Type 0} (took : W → List ℕ → W → Type 0) (all left : List ℕ) (f g : Formatter W) → Writing took all left f g → left ≡ [] → IsPlainFormatter f → HasWritten took f (shown all) g
all_shown took all left f g w e p =
    subst (λ (bs : List ℕ). HasWritten took f bs g) (sym (w.split ∙ ap (λ (l : List ℕ). w.done ++ shown l) e ∙ append-nil w.done)) (w.wrote p)

-- ---- a surrogate as an escape

one_digit_less : (k n : ℕ) (after : List ℕ) → 16 ≤ n → digits_onto (suc k) 16 false n after ≡ digits_onto k 16 false (n / 16) (hex_digit (n % 16) ∷ after)
one_digit_less k n after l = let e : nat_eq (n / 16) 0 ≡ false = grind (arith, nat_tests) in rw e refl

first_digit : (k n : ℕ) (after : List ℕ) → n < 16 → digits_onto (suc k) 16 false n after ≡ hex_digit n ∷ after
first_digit k n after h =
    let e : nat_eq (n / 16) 0 ≡ true = grind (arith, nat_tests) in
    let same : n % 16 ≡ n = omega arith in
    rw (e, same) refl

four_digits : (n : ℕ) → 4096 ≤ n → n < 65536 → digits 16 false n ≡ hex_digit (n / 4096) ∷ hex_digit (n / 256 % 16) ∷ hex_digit (n / 16 % 16) ∷ hex_digit (n % 16) ∷ []
unfolding digits
four_digits n l h =
    let two = hex_digit (n / 16 % 16) ∷ hex_digit (n % 16) ∷ [] in
    let first : n / 16 / 16 / 16 ≡ n / 4096 = omega arith in
    let second : n / 16 / 16 % 16 ≡ n / 256 % 16 = omega arith in
    one_digit_less 63 n [] (omega arith)
    ∙ one_digit_less 62 (n / 16) (hex_digit (n % 16) ∷ []) (omega arith)
    ∙ one_digit_less 61 (n / 16 / 16) two (omega arith)
    ∙ first_digit 60 (n / 16 / 16 / 16) (hex_digit (n / 16 / 16 % 16) ∷ two) (omega arith)
    ∙ ap₂ (λ (x y : ℕ). hex_digit x ∷ hex_digit y ∷ two) first second

-- what `{:04x}` writes of it
pub surrogate_hex : (u : ℕ) → is_surrogate u ≡ true → padded_integral (format_spec 32 0 4 4 (2 ^ 64 - 1)) false [] (digits 16 false u) ≡ drop 2 (unit_escape u)
unfolding padded_integral char_count
surrogate_hex u e =
    let range = and_parts (nat_le 55296 u) (nat_lt u 57344) e in
    let low = leb-true 55296 u range.0 in
    let high = ltb-true u 57344 range.1 in
    rw (four_digits u (omega arith) (omega arith)) refl
