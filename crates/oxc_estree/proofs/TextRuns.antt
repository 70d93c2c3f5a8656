-- A run of bytes that need no escape, and the byte after it.
use Rattle.std.proofs.Common.{◌≡◌, ℕ, suc, ◌+◌, ◌-◌, ◌<◌, ◌≤◌, List, [], ◌∷◌, ◌++◌, true, cond, length, get_or, drop, take, flat_map, sym, ap, ◌∙◌, arith, append-nil, take-add, drop-drop, get_or-drop, length-drop, take-append-drop, take-suc, drop-cons}
use Rattle.std.proofs.lemmas.Bool.Decides.{nat_tests}
use Rattle.std.proofs.lemmas.List.Concat.{flat_map-append}
use Rattle.std.proofs.lemmas.List.Sums.{passes_at_first}
use Rattle.std.proofs.lemmas.Str.{IsCharBoundary-after_ascii}
use Rattle.std.specs.List.{position_or_len}
use Rattle.std.specs.Str.{IsCharBoundary, IsUtf8}
use Rattle.json_text.specs.Strings.{char_text}
use Rattle.oxc_estree.specs.Escapes.{byte_text, needs_escape}
use Rattle.oxc_estree.proofs.ByteTexts.{plain_bytes}
use Rattle.oxc_estree.proofs.PlainRuns.{position-le}

-- from the place i to the place e of the next byte that needs an escape, or to the end
pub record IsPlainRun (bs : List ℕ) (i e : ℕ) : Type 0 where
  pub within : i ≤ length bs
  pub is : e ≡ i + position_or_len needs_escape (drop i bs)

pub plain_run : {bs ys : List ℕ} {i e : ℕ} → i ≤ length bs → ys ≡ bs → e ≡ i + position_or_len needs_escape (drop i ys) → IsPlainRun bs i e
plain_run {i = i} w s h = record { within = w; is = h ∙ ap (λ zs. i + position_or_len needs_escape (drop i zs)) s }

pub run_end : {bs : List ℕ} {i e : ℕ} → IsPlainRun bs i e → (i ≤ e) × (e ≤ length bs)
run_end {bs} {i} {e} r = (omega (arith, r.is), omega (arith, r.is, position-le needs_escape bs i r.within))

-- the byte after it
pub run_stops : {bs : List ℕ} {i e : ℕ} → IsPlainRun bs i e → e < length bs → needs_escape (get_or bs e 0) ≡ true
run_stops {bs} {i} {e} r h =
    let n = position_or_len needs_escape (drop i bs) in
    let inside : n < length (drop i bs) = omega (arith, r.is, h, length-drop i bs) in
    ap (λ k. needs_escape (get_or bs k 0)) r.is ∙ ap needs_escape (sym (get_or-drop i bs n 0)) ∙ passes_at_first needs_escape (drop i bs) 0 inside

pub escape_is_ascii : (b : ℕ) → needs_escape b ≡ true → b < 128
escape_is_ascii b e = grind (arith, nat_tests)

pub run_boundary : {bs : List ℕ} {i e : ℕ} → IsPlainRun bs i e → IsCharBoundary bs e
run_boundary {bs} {i} {e} r = ((run_end r).1, λ h high. absurd (omega (arith, escape_is_ascii (get_or bs e 0) (run_stops r h), high)))

pub escape_boundary : {bs : List ℕ} {i e : ℕ} → IsPlainRun bs i e → IsUtf8 bs → e < length bs → IsCharBoundary bs (e + 1)
escape_boundary {bs} {i} {e} r u h = IsCharBoundary-after_ascii bs e u h (escape_is_ascii (get_or bs e 0) (run_stops r h))

-- what it writes
pub run_text : {bs : List ℕ} {i e : ℕ} → IsPlainRun bs i e → flat_map byte_text (take (e - i) (drop i bs)) ≡ take (e - i) (drop i bs)
run_text {bs} {i} {e} r =
    let n : e - i ≡ position_or_len needs_escape (drop i bs) = omega (arith, r.is) in
    rw n (plain_bytes (drop i bs))

escape_text : (b : ℕ) → needs_escape b ≡ true → byte_text b ≡ char_text b
escape_text b e = ap (λ u. cond u (char_text b) (b ∷ [])) e

-- with the byte after it
pub run_escape_text : {bs : List ℕ} {i e b : ℕ} → IsPlainRun bs i e → e < length bs → b ≡ get_or bs e 0 →
    flat_map byte_text (take (e + 1 - i) (drop i bs)) ≡ take (e - i) (drop i bs) ++ char_text b
run_escape_text {bs} {i} {e} {b} r h byte =
    let n = e - i in
    let count : e + 1 - i ≡ suc n = omega (arith, r.is) in
    let inside : n < length (drop i bs) = omega (arith, r.is, h, length-drop i bs) in
    let place : i + n ≡ e = omega (arith, r.is) in
    let here : get_or (drop i bs) n 0 ≡ b = get_or-drop i bs n 0 ∙ ap (λ k. get_or bs k 0) place ∙ sym byte in
    ap (λ k. flat_map byte_text (take k (drop i bs))) count
    ∙ ap (flat_map byte_text) (take-suc (drop i bs) n 0 inside)
    ∙ flat_map-append byte_text (take n (drop i bs)) (get_or (drop i bs) n 0 ∷ [])
    ∙ ap (λ (t : List ℕ). t ++ (byte_text (get_or (drop i bs) n 0) ++ [])) (run_text r)
    ∙ ap (λ (t : List ℕ). take n (drop i bs) ++ t) (append-nil (byte_text (get_or (drop i bs) n 0)) ∙ ap byte_text here ∙ escape_text b (ap needs_escape byte ∙ run_stops r h))

-- with all bytes after it
pub rest_text : {bs : List ℕ} {i e b : ℕ} → IsPlainRun bs i e → e < length bs → b ≡ get_or bs e 0 →
    flat_map byte_text (drop i bs) ≡ take (e - i) (drop i bs) ++ (char_text b ++ flat_map byte_text (drop (e + 1) bs))
rest_text {bs} {i} {e} {b} r h byte =
    let n = e - i in
    let inside : n < length (drop i bs) = omega (arith, r.is, h, length-drop i bs) in
    let place : i + n ≡ e = omega (arith, r.is) in
    let after : i + suc n ≡ e + 1 = omega (arith, r.is) in
    let here : get_or (drop i bs) n 0 ≡ b = get_or-drop i bs n 0 ∙ ap (λ k. get_or bs k 0) place ∙ sym byte in
    let left : drop (suc n) (drop i bs) ≡ drop (e + 1) bs = drop-drop (suc n) i bs ∙ ap (λ k. drop k bs) after in
    ap (flat_map byte_text) (sym (take-append-drop n (drop i bs)) ∙ ap (λ (t : List ℕ). take n (drop i bs) ++ t) (drop-cons (drop i bs) n 0 inside))
    ∙ flat_map-append byte_text (take n (drop i bs)) (get_or (drop i bs) n 0 ∷ drop (suc n) (drop i bs))
    ∙ ap (λ (t : List ℕ). t ++ (byte_text (get_or (drop i bs) n 0) ++ flat_map byte_text (drop (suc n) (drop i bs)))) (run_text r)
    ∙ ap (λ (t : List ℕ). take n (drop i bs) ++ (t ++ flat_map byte_text (drop (suc n) (drop i bs)))) (ap byte_text here ∙ escape_text b (ap needs_escape byte ∙ run_stops r h))
    ∙ ap (λ (t : List ℕ). take n (drop i bs) ++ (char_text b ++ flat_map byte_text t)) left

-- a text up to i and from there up to j
pub text_more : (bs : List ℕ) (i j : ℕ) → i ≤ j →
    flat_map byte_text (take j bs) ≡ flat_map byte_text (take i bs) ++ flat_map byte_text (take (j - i) (drop i bs))
text_more bs i j h =
    let sum : j ≡ i + (j - i) = omega (arith, h) in
    ap (λ k. flat_map byte_text (take k bs)) sum ∙ ap (flat_map byte_text) (take-add i (j - i) bs) ∙ flat_map-append byte_text (take i bs) (take (j - i) (drop i bs))

pub text_parts : (bs : List ℕ) (i : ℕ) → flat_map byte_text bs ≡ flat_map byte_text (take i bs) ++ flat_map byte_text (drop i bs)
text_parts bs i = ap (flat_map byte_text) (sym (take-append-drop i bs)) ∙ flat_map-append byte_text (take i bs) (drop i bs)
