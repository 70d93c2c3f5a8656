-- How a text's lines are found, and which places their offsets are.
use Rattle.std.proofs.Common.{◌≡◌, ℕ, ◌+◌, Bool, true, false, cond, List, [], ◌∷◌, ◌++◌, length, refl, sym, ap, ◌∙◌, arith}
use Rattle.std.proofs.lemmas.List.{append-nil, append_assoc, nil_from_length, length-append}
use Rattle.std.proofs.lemmas.Str.{IsUtf8-past_char, chars-nil, chars_past_char, length-encode}
use Rattle.std.specs.Char.{len_utf8}
use Rattle.std.specs.Str.{IsUtf8, chars}
use Rattle.oxc_data_structures.specs.Rope.{ends_line, line_starts, starts_behind}
use lib.Utf8.{encode}

-- the lines that start up to an offset were found, and the rest of the text is behind it
pub record IsScanned (text starts : List ℕ) (offset : ℕ) (rest : List ℕ) : Type 0 where
  pub utf8 : IsUtf8 rest
  pub walked : offset + length rest ≡ length text
  pub found : line_starts text ≡ starts ++ starts_behind offset (chars rest)

found_step : (starts : List ℕ) (next : ℕ) (later : List ℕ) (b : Bool)
    → starts ++ cond b (next ∷ later) later ≡ cond b (starts ++ next ∷ []) starts ++ later
found_step starts next later true = sym (append_assoc starts (next ∷ []) later)
found_step starts next later false = refl

-- past one more character
pub IsScanned-next : (text starts : List ℕ) (offset n c : ℕ) (rest rest' : List ℕ) (b : Bool) → IsScanned text starts offset rest
    → rest ≡ encode c ++ rest' → n ≡ len_utf8 c → b ≡ ends_line c (chars rest')
    → IsScanned text (cond b (starts ++ (offset + n) ∷ []) starts) (offset + n) rest'
IsScanned-next text starts offset n c rest rest' b h e len is =
    let cs : chars rest ≡ c ∷ chars rest' = chars_past_char rest rest' c h.utf8 e in
    record {
      utf8 = IsUtf8-past_char rest rest' c h.utf8 e;
      walked = omega (arith, h.walked, ap length e, length-append (encode c) rest', length-encode c, len);
      found =
          h.found ∙ ap (λ es. starts ++ starts_behind offset es) cs
          ∙ rw (is, len) (found_step starts (offset + len_utf8 c) (starts_behind (offset + len_utf8 c) (chars rest')) (ends_line c (chars rest')));
    }

-- at the end of the text
pub line_starts-scanned : (text starts : List ℕ) (offset : ℕ) (rest : List ℕ) → IsScanned text starts offset rest
    → length rest ≡ 0 → starts ≡ line_starts text
line_starts-scanned text starts offset rest h none =
    sym (h.found ∙ rw (nil_from_length rest none, chars-nil) (append-nil starts))
