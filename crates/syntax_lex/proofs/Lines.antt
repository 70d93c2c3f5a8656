-- The parts into which line terminators divide a text.
use Rattle.std.proofs.Common.{◌≡◌, ◌≢◌, ℕ, ◌+◌, ◌≤◌, Bool, true, false, not, ◌&&◌, ◌||◌, nat_eq, List, [], ◌∷◌, ◌++◌, length, take, drop, map, flat_map, refl, sym, ◌∙◌, ap, subst, inl, inr, arith, IsUtf8, chars}
use Rattle.std.proofs.lemmas.Bool.{and_parts, cases_Bool, eqb-true}
use Rattle.std.proofs.lemmas.List.{append_assoc, append_cancel_right, length-append, length-drop, take-append-drop}
use Rattle.std.proofs.lemmas.List.Folds.{list_any-append}
use Rattle.std.proofs.lemmas.Str.{IsCharBoundary-from_drop, IsUtf8-past_char, IsUtf8-take, chars-append, chars_past_char, drop_past_char, encodes-chars, length-encode}
use Rattle.std.proofs.lemmas.Grind.{common_steps}
use Rattle.std.specs.Char.{len_utf8}
use Rattle.std.specs.Cmp.Lexicographic.{pointwise}
use Rattle.std.specs.List.{list_all, list_any, slice_range}
use Rattle.std.specs.Str.{IsCharBoundary, encode_utf8_all}
use Rattle.syntax_lex.specs.LineTerminator.{Part, are_ended, before_parts, begins_with_line_feed, is_divided, is_line, is_line_terminator, is_terminator, lines_of, parts_of, whole}
use lib.Utf8.{encode}

abbrev part : List ℕ → List ℕ → Part
part line terminator = record { line = line; terminator = terminator }

-- what follows a line terminator
pub parts_past_line_feed : (cs : List ℕ) → parts_of cs ≡ drop 1 (parts_of (13 ∷ 10 ∷ cs))
unfolding parts_of
parts_past_line_feed cs = refl

pub parts_past_terminator : (c : ℕ) (cs : List ℕ) → is_line_terminator c ≡ true → (nat_eq c 13 && begins_with_line_feed cs) ≡ false
    → parts_of cs ≡ drop 1 (parts_of (c ∷ cs))
unfolding parts_of
parts_past_terminator c cs ends alone = rw (ends, alone) refl

-- a line up to its terminator
pub parts_behind_line : (line : List ℕ) (c : ℕ) (cs : List ℕ) → list_any is_line_terminator line ≡ false → is_line_terminator c ≡ true
    → (terminator : List ℕ) × (parts_of (line ++ c ∷ cs) ≡ part line terminator ∷ drop 1 (parts_of (c ∷ cs)))
unfolding parts_of
parts_behind_line [] c cs free ends =
    elim (cases_Bool (nat_eq c 13 && begins_with_line_feed cs)) [
      | inl both ↦ (13 ∷ 10 ∷ [], rw (ends, both) refl)
      | inr alone ↦ (c ∷ [], rw (ends, alone) refl)
    ]
parts_behind_line (d ∷ line) c cs free ends =
    elim (cases_Bool (is_line_terminator d)) [
      | inl wrong ↦ absurd (cc (rw wrong at free))
      | inr other ↦
          let rest = parts_behind_line line c cs (rw other at free) ends in
          (rest.0, rw (other, rest.1) refl)
    ]

-- a line that the text ends
pub parts_of_line : (c : ℕ) (line : List ℕ) → list_any is_line_terminator (c ∷ line) ≡ false → parts_of (c ∷ line) ≡ part (c ∷ line) [] ∷ []
unfolding parts_of
parts_of_line c [] free = elim (cases_Bool (is_line_terminator c)) [ inl wrong ↦ absurd (cc (rw wrong at free)) | inr other ↦ rw other refl ]
parts_of_line c (d ∷ line) free =
    elim (cases_Bool (is_line_terminator c)) [
      | inl wrong ↦ absurd (cc (rw wrong at free))
      | inr other ↦ rw (other, parts_of_line d line (rw other at free)) refl
    ]

-- the text begins with a line's characters, which take so many bytes, and the rest follows them
pub record IsInLine (text : List ℕ) (end : ℕ) (line rest : List ℕ) : Type 0 where
  pub utf8 : IsUtf8 rest
  pub place : drop end text ≡ rest
  pub within : end ≤ length text
  pub all : chars text ≡ line ++ chars rest
  pub free : list_any is_line_terminator line ≡ false

pub IsInLine-start : (text rest : List ℕ) → IsUtf8 text → rest ≡ text → IsInLine text 0 [] rest
IsInLine-start text rest utf8 same = record {
  utf8 = subst (λ (bs : List ℕ). IsUtf8 bs) (sym same) utf8;
  place = sym same;
  within = omega arith;
  all = ap chars (sym same);
  free = refl;
}

pub slice_range_front : (text : List ℕ) (end : ℕ) → slice_range text 0 end ≡ take end text
slice_range_front text end = grind (arith, common_steps)

pub length_of_no_chars : (text : List ℕ) → IsUtf8 text → chars text ≡ [] → length text ≡ 0
length_of_no_chars text utf8 none = ap length (sym (encodes-chars text utf8) ∙ ap (λ cs. encode_utf8_all cs) none)

-- past one more character of the line
pub IsInLine-step : (text line rest rest' : List ℕ) (end n c : ℕ) → IsInLine text end line rest → rest ≡ encode c ++ rest'
    → n ≡ len_utf8 c → is_line_terminator c ≡ false → IsInLine text (end + n) (line ++ c ∷ []) rest'
IsInLine-step text line rest rest' end n c h parts len other =
    let at : drop end text ≡ encode c ++ rest' = h.place ∙ parts in
    let cs = chars_past_char rest rest' c h.utf8 parts in
    record {
      utf8 = IsUtf8-past_char rest rest' c h.utf8 parts;
      place = rw len (drop_past_char text rest' end c at);
      within = omega (arith, h.within, ap length at, length-append (encode c) rest', length-encode c, len, length-drop end text);
      all = h.all ∙ rw cs (sym (append_assoc line (c ∷ []) (chars rest')));
      free = list_any-append is_line_terminator line (c ∷ []) ∙ rw (h.free, other) refl;
    }

-- where the line ends its bytes are those in front, and there the text may be cut
pub IsInLine-cut : (text line rest : List ℕ) (end : ℕ) → IsUtf8 text → IsInLine text end line rest → IsCharBoundary text end
IsInLine-cut text line rest end utf8 h = IsCharBoundary-from_drop text end h.within (subst (λ (bs : List ℕ). IsUtf8 bs) (sym h.place) h.utf8)

pub IsInLine-line : (text line rest : List ℕ) (end : ℕ) → IsUtf8 text → IsInLine text end line rest → chars (take end text) ≡ line
IsInLine-line text line rest end utf8 h =
    let front = IsUtf8-take text end utf8 (IsInLine-cut text line rest end utf8 h) in
    let whole = chars-append (take end text) (drop end text) front in
    append_cancel_right (chars (take end text)) line (chars rest)
    (ap (λ bs. chars (take end text) ++ chars bs) (sym h.place) ∙ sym whole ∙ ap chars (take-append-drop end text) ∙ h.all)

-- the lines where a terminator ends the first one
pub lines_at_terminator : (line : List ℕ) (c : ℕ) (cs : List ℕ) → list_any is_line_terminator line ≡ false
    → is_line_terminator c ≡ true
    → lines_of (line ++ c ∷ cs) ≡ line ∷ map (λ part. part.line) (drop 1 (parts_of (c ∷ cs)))
lines_at_terminator line c cs free ends =
    ap (λ parts. map (λ (part : Part). part.line) parts) (parts_behind_line line c cs free ends).1

-- and where the text does
pub lines_at_end : (line : List ℕ) → list_any is_line_terminator line ≡ false → length line ≢ 0 → lines_of line ≡ line ∷ []
lines_at_end [] free some = absurd (some refl)
lines_at_end (c ∷ line) free some = ap (λ parts. map (λ (part : Part). part.line) parts) (parts_of_line c line free)

-- ---- the parts join to the text, and each ends where it should

whole_before : (c : ℕ) (parts : List Part) → flat_map whole (before_parts c parts) ≡ c ∷ flat_map whole parts
whole_before c [] = refl
whole_before c (first ∷ parts) = refl

whole_of_line_feed : (cs : List ℕ) → begins_with_line_feed cs ≡ true → flat_map whole (parts_of cs) ≡ 10 ∷ flat_map whole (drop 1 (parts_of cs))
unfolding parts_of
whole_of_line_feed [] is = cc
whole_of_line_feed (c ∷ cs) is = rw (eqb-true c 10 is) refl

pub parts_join : (cs : List ℕ) → flat_map whole (parts_of cs) ≡ cs
unfolding parts_of
parts_join [] = refl
parts_join (c ∷ cs) =
    elim (cases_Bool (is_line_terminator c)) [
      | inl ends ↦ elim (cases_Bool (nat_eq c 13 && begins_with_line_feed cs)) [
        | inl both ↦
            let is = and_parts (nat_eq c 13) (begins_with_line_feed cs) both in
            rw (ends, both, eqb-true c 13 is.0) (ap (λ rest. 13 ∷ rest) (sym (whole_of_line_feed cs is.1) ∙ parts_join cs))
        | inr alone ↦ rw (ends, alone) (ap (λ rest. c ∷ rest) (parts_join cs))
      ]
      | inr other ↦ rw other (whole_before c (parts_of cs) ∙ ap (λ rest. c ∷ rest) (parts_join cs))
    ]

lines_before : (c : ℕ) (parts : List Part) → is_line_terminator c ≡ false
    → list_all is_line (map (λ part. part.line) (before_parts c parts)) ≡ list_all is_line (map (λ part. part.line) parts)
lines_before c [] other = rw other refl
lines_before c (first ∷ parts) other = rw other refl

lines_but_one : (parts : List Part) → list_all is_line (map (λ part. part.line) parts) ≡ true
    → list_all is_line (map (λ part. part.line) (drop 1 parts)) ≡ true
lines_but_one [] all = refl
lines_but_one (first ∷ parts) all = (and_parts (is_line first.line) (list_all is_line (map (λ part. part.line) parts)) all).1

pub lines_are_lines : (cs : List ℕ) → list_all is_line (lines_of cs) ≡ true
unfolding parts_of
lines_are_lines [] = refl
lines_are_lines (c ∷ cs) =
    elim (cases_Bool (is_line_terminator c)) [
      | inl ends ↦ elim (cases_Bool (nat_eq c 13 && begins_with_line_feed cs)) [
        | inl both ↦ rw (ends, both) (lines_but_one (parts_of cs) (lines_are_lines cs))
        | inr alone ↦ rw (ends, alone) (lines_are_lines cs)
      ]
      | inr other ↦ rw other (lines_before c (parts_of cs) other ∙ lines_are_lines cs)
    ]

-- the first part is a LINE FEED alone
abbrev first_is_line_feed : List Part → Bool
first_is_line_feed [] = false
first_is_line_feed (first ∷ parts) = pointwise nat_eq first.line [] && pointwise nat_eq first.terminator (10 ∷ [])

first_has_line : (c : ℕ) (parts : List Part) → first_is_line_feed (before_parts c parts) ≡ false
first_has_line c [] = refl
first_has_line c (first ∷ parts) = refl

first_is_another : (cs : List ℕ) → begins_with_line_feed cs ≡ false → first_is_line_feed (parts_of cs) ≡ false
unfolding parts_of
first_is_another [] other = refl
first_is_another (c ∷ cs) differs =
    elim (cases_Bool (is_line_terminator c)) [
      | inl ends ↦ elim (cases_Bool (nat_eq c 13 && begins_with_line_feed cs)) [
        | inl both ↦ rw (ends, both) refl
        | inr alone ↦ rw (ends, alone, differs) refl
      ]
      | inr other ↦ rw other (first_has_line c (parts_of cs))
    ]

ended_behind : (parts : List Part) → are_ended parts ≡ true → are_ended (drop 1 parts) ≡ true
ended_behind [] ended = refl
ended_behind (first ∷ []) ended = refl
ended_behind (first ∷ next ∷ parts) ended =
    let all = and_parts (is_terminator first.terminator) (not (is_divided first next) && are_ended (next ∷ parts)) ended in
    (and_parts (not (is_divided first next)) (are_ended (next ∷ parts)) all.1).1

ended_by_text : (terminator line : List ℕ) (c : ℕ)
    → (is_terminator terminator || (pointwise nat_eq terminator [] && not (pointwise nat_eq line []))) ≡ true
    → (is_terminator terminator || (pointwise nat_eq terminator [] && not (pointwise nat_eq (c ∷ line) []))) ≡ true
ended_by_text terminator line c ended =
    elim (cases_Bool (is_terminator terminator)) [
      | inl holds ↦ rw holds refl
      | inr fails ↦
          let rest = and_parts (pointwise nat_eq terminator []) (not (pointwise nat_eq line [])) (rw fails at ended) in
          rw (fails, rest.0) refl
    ]

ended_before : (c : ℕ) (parts : List Part) → are_ended parts ≡ true → are_ended (before_parts c parts) ≡ true
ended_before c [] ended = refl
ended_before c (first ∷ []) ended = ended_by_text first.terminator first.line c ended
ended_before c (first ∷ next ∷ parts) ended = ended

-- both parts of CARRIAGE RETURN and LINE FEED are in one terminator
ended_pair : (parts : List Part) → are_ended parts ≡ true → are_ended (part [] (13 ∷ 10 ∷ []) ∷ parts) ≡ true
ended_pair [] ended = refl
ended_pair (next ∷ parts) ended = ended

undivided : (c : ℕ) (next : Part) (parts : List Part) (begins : Bool) → (nat_eq c 13 && begins) ≡ false
    → (begins ≡ false → first_is_line_feed (next ∷ parts) ≡ false) → is_divided (part [] (c ∷ [])) next ≡ false
undivided c next parts begins alone another =
    elim (cases_Bool (nat_eq c 13)) [
      | inl holds ↦ rw (holds, another (rw holds at alone)) refl
      | inr fails ↦ rw fails refl
    ]

ended_single : (c : ℕ) (parts : List Part) (begins : Bool) → is_line_terminator c ≡ true → (nat_eq c 13 && begins) ≡ false
    → (begins ≡ false → first_is_line_feed parts ≡ false) → are_ended parts ≡ true → are_ended (part [] (c ∷ []) ∷ parts) ≡ true
ended_single c [] begins ends alone another ended = rw ends refl
ended_single c (next ∷ parts) begins ends alone another ended =
    rw (ends, undivided c next parts begins alone another) ended

pub parts_are_ended : (cs : List ℕ) → are_ended (parts_of cs) ≡ true
unfolding parts_of
parts_are_ended [] = refl
parts_are_ended (c ∷ cs) =
    elim (cases_Bool (is_line_terminator c)) [
      | inl ends ↦ elim (cases_Bool (nat_eq c 13 && begins_with_line_feed cs)) [
        | inl both ↦ rw (ends, both) (ended_pair (drop 1 (parts_of cs)) (ended_behind (parts_of cs) (parts_are_ended cs)))
        | inr alone ↦
            rw (ends, alone)
            (ended_single c (parts_of cs) (begins_with_line_feed cs) ends alone (first_is_another cs) (parts_are_ended cs))
      ]
      | inr other ↦ rw other (ended_before c (parts_of cs) (parts_are_ended cs))
    ]

pub lines_of_nothing : lines_of [] ≡ []
unfolding parts_of
lines_of_nothing = refl
