-- The text of a string, a character at a time.
use Rattle.std.proofs.Common.{◌≡◌, ℕ, suc, ◌<◌, List, [], ◌∷◌, ◌++◌, flat_map, map, ap, ◌∙◌, sym, None, append_assoc, length, get_or, take, drop}
use Rattle.std.proofs.Math.Seq.{drop-cons}
use Rattle.std.proofs.lemmas.List.{map-id, take-append-drop}
use Rattle.std.proofs.lemmas.List.Concat.{flat_map-append}
use Rattle.json_text.specs.Strings.{units_text, char_text, quoted_units}

-- the text of a string of which some characters were written, and then the character c
pub quoted_at : (cs xs us : List ℕ) (c : ℕ) → units_text None us ≡ flat_map char_text cs → map (λ x. x) xs ≡ take (length xs) cs →
    (length xs < length cs) × (c ≡ get_or cs (length xs) c) →
    quoted_units us ≡ (34 ∷ flat_map char_text xs) ++ (char_text c ++ (flat_map char_text (drop (suc (length xs)) cs) ++ 34 ∷ []))
quoted_at cs xs us c u t h =
    let n = length xs in
    let rest = drop (suc n) cs in
    let whole : cs ≡ xs ++ c ∷ rest =
    sym (take-append-drop n cs) ∙ ap (λ (a : List ℕ). a ++ drop n cs) (sym t ∙ map-id xs)
    ∙ ap (λ (a : List ℕ). xs ++ a) (drop-cons cs n c h.0 ∙ ap (λ (d : ℕ). d ∷ rest) (sym h.1)) in
    ap (λ (a : List ℕ). 34 ∷ (a ++ 34 ∷ [])) (u ∙ ap (flat_map char_text) whole ∙ flat_map-append char_text xs (c ∷ rest))
    ∙ ap (λ (a : List ℕ). 34 ∷ a) (append_assoc (flat_map char_text xs) (char_text c ++ flat_map char_text rest) (34 ∷ [])
    ∙ ap (λ (a : List ℕ). flat_map char_text xs ++ a) (append_assoc (char_text c) (flat_map char_text rest) (34 ∷ [])))

-- the text of a string of which all characters were written
pub quoted_end : (cs xs us : List ℕ) → units_text None us ≡ flat_map char_text cs → map (λ x. x) xs ≡ cs →
    quoted_units us ≡ (34 ∷ flat_map char_text xs) ++ 34 ∷ []
quoted_end cs xs us u m = ap (λ (a : List ℕ). 34 ∷ (a ++ 34 ∷ [])) (u ∙ ap (flat_map char_text) (sym m ∙ map-id xs))
