-- How many UTF-16 code units the beginnings of a text take, and how a line is cut out of a text.
use Rattle.std.proofs.Common.{◌≡◌, ℕ, ◌+◌, ◌-◌, ◌<◌, ◌≤◌, nat_lt, inl, inr, List, [], ◌∷◌, ◌++◌, length, get_or, take, drop, refl, sym, ap, ◌∙◌, subst, arith}
use Rattle.std.proofs.lemmas.Bool.{cases_lt, cases_order, cond_both, ltb-false, ltb-true}
use Rattle.std.proofs.lemmas.List.{append_assoc, drop-take, get_or-drop, get_or-take, length-append, length-drop, length-take-le, nil_from_length, take-append-drop, take-take, take_at}
use Rattle.std.proofs.lemmas.List.Sums.{sum_by-append, sum_by-cons, sum_by_push}
use Rattle.std.proofs.lemmas.Str.{IsCharBoundary-start, IsUtf8-between, IsUtf8-drop, IsUtf8-take, IsCharBoundary-past_char, IsUtf8-past_char, chars-append, chars-encodes, chars-nil, chars_past_char, drop_past_char, encode_same, encodes-chars, length-encode}
use Rattle.std.specs.Char.{len_utf8}
use Rattle.std.specs.List.{sum_by}
use Rattle.std.specs.Str.{IsCharBoundary, IsUtf8, chars}
use Rattle.oxc_data_structures.proofs.RopeLines.{IsInLine, IsLine, line-IsLine, line_of-IsInLine}
use Rattle.oxc_data_structures.proofs.TextLemmas.{chars-encode}
use Rattle.oxc_data_structures.specs.Rope.{IsFittingLen, IsFoundAgain, IsOffsetOf, IsWithin, between, column_of, len_utf16, line_end, line_of, line_start, line_starts, line_text, units_of}
use lib.Utf8.{encode, encodes}

len_utf16-bounds : (c : ℕ) → (1 ≤ len_utf16 c) × (len_utf16 c ≤ 2)
len_utf16-bounds c = cond_both (nat_lt c 0x1_0000) 1 2 (λ n. (1 ≤ n) × (n ≤ 2)) (λ _. (omega arith, omega arith)) (λ _. (omega arith, omega arith))

take_further : (m n : ℕ) (xs : List ℕ) → n ≤ m → take m xs ≡ take n xs ++ take (m - n) (drop n xs)
take_further m n xs le =
    sym (take-append-drop n (take m xs))
    ∙ ap (λ front. front ++ drop n (take m xs)) (take-take n m xs le)
    ∙ ap (λ back. take n xs ++ back) (ap (λ k. drop n (take k xs)) (omega arith) ∙ drop-take n (m - n) xs)

-- a text that isn't empty is its first character and the rest
pub first_char : (text : List ℕ) → IsUtf8 text → 0 < length text
    → (c : ℕ) × (cs : List ℕ) × (text ≡ encode c ++ encodes cs) × (chars text ≡ c ∷ cs)
first_char text ([], (valid, e)) more = absurd (omega (arith, more, ap length e))
first_char text (c ∷ cs, (valid, e)) more = (c, cs, sym e, ap chars (sym e) ∙ chars-encodes (c ∷ cs) valid)

-- a longer beginning takes more units, by the character behind the shorter one at least
pub units_of-take-more : (text : List ℕ) (m n c : ℕ) (rest : List ℕ) → IsUtf8 text → IsCharBoundary text m → IsCharBoundary text n
    → m < n → drop m text ≡ encode c ++ rest → units_of (take m text) + len_utf16 c ≤ units_of (take n text)
units_of-take-more text m n c rest u cut_m cut_n less e =
    let mid = take (n - m) (drop m text) in
    let mid_utf8 : IsUtf8 mid = IsUtf8-between text m n u (omega arith) cut_m cut_n in
    let mid_len : length mid ≡ n - m = length-take-le (n - m) (drop m text) (omega (arith, length-drop m text, cut_n.0)) in
    let first = first_char mid mid_utf8 (omega (arith, mid_len)) in
    let d = first.0 in
    let es = first.1 in
    let same : encode c ++ rest ≡ encode d ++ (encodes es ++ drop (n - m) (drop m text)) =
    sym e ∙ sym (take-append-drop (n - m) (drop m text))
    ∙ ap (λ front. front ++ drop (n - m) (drop m text)) first.2 ∙ append_assoc (encode d) (encodes es) (drop (n - m) (drop m text)) in
    let is_c : c ≡ d = (encode_same c d rest (encodes es ++ drop (n - m) (drop m text)) same).0 in
    let whole : units_of (take n text) ≡ units_of (take m text) + units_of mid =
    ap units_of (take_further n m text (omega arith))
    ∙ ap (sum_by len_utf16) (chars-append (take m text) mid (IsUtf8-take text m u cut_m))
    ∙ sum_by-append len_utf16 (chars (take m text)) (chars mid) in
    let mid_units : units_of mid ≡ len_utf16 d + sum_by len_utf16 es =
    ap (sum_by len_utf16) first.3 ∙ sum_by-cons len_utf16 d es in
    omega (arith, whole, mid_units, ap len_utf16 is_c)

-- a place between two offsets of a text is a place in what stands between them
pub between-boundary : (text : List ℕ) (from to k : ℕ) → to ≤ length text → from + k ≤ to → IsCharBoundary text (from + k)
    → IsCharBoundary (between text from to) k
between-boundary text from to k in_range within cut =
    let len : length (between text from to) ≡ to - from =
    length-take-le (to - from) (drop from text) (omega (arith, length-drop from text)) in (
      omega (arith, len),
      λ less high.
          let at : get_or (between text from to) k 0 ≡ get_or text (from + k) 0 =
          get_or-take (to - from) (drop from text) k 0 (omega (arith, len, less)) ∙ get_or-drop from text k 0 in
          rw at (cut.1 (omega (arith, len, less)) (rw at at high)),
    )

pub boundary-between : (text : List ℕ) (from to k : ℕ) → from ≤ to → to ≤ length text → IsCharBoundary text to
    → IsCharBoundary (between text from to) k → IsCharBoundary text (from + k)
boundary-between text from to k ordered in_range end cut =
    elim (cases_order k (to - from)) [
      | inl same ↦ subst (IsCharBoundary text) (omega (arith, same)) end
      | inr (inl less) ↦ (
        omega arith,
        λ _ high.
            let at : get_or (between text from to) k 0 ≡ get_or text (from + k) 0 =
            get_or-take (to - from) (drop from text) k 0 less ∙ get_or-drop from text k 0 in
            rw (sym at) (cut.1 (omega (arith, len)) (rw (sym at) at high)),
      )
      | inr (inr more) ↦ absurd (omega (arith, more, cut.0, len))
    ]
  where
    len : length (between text from to) ≡ to - from
    len = length-take-le (to - from) (drop from text) (omega (arith, length-drop from text))

-- the beginning of a line is that of what follows its start
take-line : (text : List ℕ) (from to k : ℕ) → from + k ≤ to → take k (between text from to) ≡ between text from (from + k)
take-line text from to k within =
    take-take k (to - from) (drop from text) (omega arith) ∙ ap (λ n. take n (drop from text)) (omega arith)

-- a place in what follows an offset
drop-boundary : (text : List ℕ) (from k : ℕ) → IsCharBoundary text (from + k) → IsCharBoundary (drop from text) k
drop-boundary text from k cut = (
  omega (arith, cut.0, length-drop from text),
  λ less high.
      let at : get_or (drop from text) k 0 ≡ get_or text (from + k) 0 = get_or-drop from text k 0 in
      rw at (cut.1 (omega (arith, less, length-drop from text)) (rw at at high)),
)

-- an offset of a line by the line's text
pub IsOffsetOf-from_fitting : (text : List ℕ) (line column len : ℕ) → IsUtf8 text → line < length (line_starts text)
    → IsFittingLen (line_text text line) column len → IsOffsetOf text line column (line_start text line + len)
IsOffsetOf-from_fitting text line column len u l h = record {
  within = record {
    boundary = boundary-between text (line_start text line) (line_end text line) len is_line.ordered is_line.in_range is_line.end_boundary h.fits.boundary;
    from_start = omega arith;
    to_end = within_line;
    units = omega (arith, h.fits.units, ap units_of (take-line text (line_start text line) (line_end text line) len within_line));
  };
  greatest = λ other o. omega (arith, o.from_start, greatest_at (other - line_start text line) (subst (IsWithin text line column) (omega (arith, o.from_start)) o));
}
  where
    is_line : IsLine text line
    is_line = line-IsLine text line u l

    within_line : line_start text line + len ≤ line_end text line
    within_line =
        let line_len : length (line_text text line) ≡ line_end text line - line_start text line =
        length-take-le (line_end text line - line_start text line) (drop (line_start text line) text)
        (omega (arith, length-drop (line_start text line) text, is_line.in_range)) in
        omega (arith, line_len, h.fits.boundary.0, is_line.ordered)

    greatest_at : (k : ℕ) → IsWithin text line column (line_start text line + k) → k ≤ len
    greatest_at k o =
        h.greatest k (record {
          boundary = between-boundary text (line_start text line) (line_end text line) k is_line.in_range o.to_end o.boundary;
          units = omega (arith, o.units, ap units_of (take-line text (line_start text line) (line_end text line) k o.to_end));
        })

-- an offset is the one of its line and column
pub line_and_column-found : (text : List ℕ) (offset : ℕ) → IsUtf8 text → IsCharBoundary text offset → IsFoundAgain text offset
line_and_column-found text offset u cut = record {
  found = found;
  alone = λ other o. omega (arith, o.greatest offset found.within, found.greatest other o.within);
}
  where
    place : IsInLine text offset
    place = line_of-IsInLine text offset

    is_line : IsLine text (line_of text offset)
    is_line = line-IsLine text (line_of text offset) u place.line_in_range

    none_past : (other : ℕ) → IsWithin text (line_of text offset) (column_of text offset) other → offset < other → ⊥
    none_past other o less =
        let start = line_start text (line_of text offset) in
        let tail = drop start text in
        let tail_utf8 : IsUtf8 tail = IsUtf8-drop text start u is_line.start_boundary in
        let cut_here : IsCharBoundary tail (offset - start) =
        drop-boundary text start (offset - start) (subst (IsCharBoundary text) (omega (arith, place.from_start)) cut) in
        let cut_there : IsCharBoundary tail (other - start) =
        drop-boundary text start (other - start) (subst (IsCharBoundary text) (omega (arith, o.from_start)) o.boundary) in
        let first = first_char (drop (offset - start) tail) (IsUtf8-drop tail (offset - start) tail_utf8 cut_here)
        (omega (arith, length-drop (offset - start) tail, cut_there.0, less, place.from_start)) in
        let more : units_of (take (offset - start) tail) + len_utf16 first.0 ≤ units_of (take (other - start) tail) =
        units_of-take-more tail (offset - start) (other - start) first.0 (encodes first.1) tail_utf8 cut_here cut_there
        (omega (arith, less, place.from_start)) first.2 in
        omega (arith, more, o.units, (len_utf16-bounds first.0).0)

    found : IsOffsetOf text (line_of text offset) (column_of text offset) offset
    found = record {
      within = record { boundary = cut; from_start = place.from_start; to_end = place.to_end cut.0; units = omega arith };
      greatest = λ other o. elim (cases_lt offset other) [ inl less ↦ absurd (none_past other o less) | inr not_past ↦ not_past ];
    }

-- a text takes no more units than bytes
encodes-units : (cs : List ℕ) → sum_by len_utf16 cs ≤ length (encodes cs)
encodes-units [] = omega arith
encodes-units (c ∷ cs) = omega (arith, sum_by-cons len_utf16 c cs, length-append (encode c) (encodes cs), length-encode c, len_utf16-le c, encodes-units cs)
  where
    len_utf16-le : (d : ℕ) → len_utf16 d ≤ len_utf8 d
    len_utf16-le d = grind arith

pub units_of-le-length : (text : List ℕ) → IsUtf8 text → units_of text ≤ length text
units_of-le-length text u = omega (arith, encodes-units (chars text), ap length (encodes-chars text u))

-- so many units were counted, and the rest of the text is yet to be
pub record IsCountedTo (text : List ℕ) (units : ℕ) (rest : List ℕ) : Type 0 where
  pub utf8 : IsUtf8 rest
  pub total : units + units_of rest ≡ units_of text

pub units_past_char : (c : ℕ) (rest rest' : List ℕ) → IsUtf8 rest → rest ≡ encode c ++ rest' → units_of rest ≡ len_utf16 c + units_of rest'
units_past_char c rest rest' u e = ap (sum_by len_utf16) (chars_past_char rest rest' c u e) ∙ sum_by-cons len_utf16 c (chars rest')

pub IsCountedTo-next : (text : List ℕ) (units n c : ℕ) (rest rest' : List ℕ) → IsCountedTo text units rest
    → rest ≡ encode c ++ rest' → n ≡ len_utf16 c → IsCountedTo text (units + n) rest'
IsCountedTo-next text units n c rest rest' h e len = record {
  utf8 = IsUtf8-past_char rest rest' c h.utf8 e;
  total = omega (arith, h.total, len, units_past_char c rest rest' h.utf8 e);
}

-- the characters up to a length fit, and so many of the units are left for those behind it
pub record IsFitting (text : List ℕ) (limit len left : ℕ) (rest : List ℕ) : Type 0 where
  pub boundary : IsCharBoundary text len
  pub rest_is : drop len text ≡ rest
  pub taken : units_of (take len text) + left ≡ limit

pub IsFitting-next : (text : List ℕ) (limit len left n c : ℕ) (rest rest' : List ℕ) → IsUtf8 text → IsFitting text limit len left rest
    → rest ≡ encode c ++ rest' → n ≡ len_utf16 c → n ≤ left → IsFitting text limit (len + len_utf8 c) (left - n) rest'
IsFitting-next text limit len left n c rest rest' u h e is le =
    let next = len + len_utf8 c in
    let cut : IsCharBoundary text next =
    IsCharBoundary-past_char text rest' len c h.boundary.0 (IsUtf8-drop text len u h.boundary) (h.rest_is ∙ e) in
    let last : take (next - len) (drop len text) ≡ encode c =
    ap (λ k. take k (drop len text)) (omega (arith, length-encode c))
    ∙ ap (take (length (encode c))) (h.rest_is ∙ e) ∙ take_at (encode c) rest' (length (encode c)) refl in
    let last_utf8 : IsUtf8 (encode c) = rw last at (IsUtf8-between text len next u (omega arith) h.boundary cut) in
    let front : take next text ≡ take len text ++ encode c =
    take_further next len text (omega arith) ∙ ap (λ back. take len text ++ back) last in
    let units : units_of (take next text) ≡ units_of (take len text) + len_utf16 c =
    ap units_of front
    ∙ ap (sum_by len_utf16) (chars-append (take len text) (encode c) (IsUtf8-take text len u h.boundary) ∙ ap (λ es. chars (take len text) ++ es) (chars-encode c last_utf8))
    ∙ sum_by_push len_utf16 (chars (take len text)) c in
    record {
      boundary = cut;
      rest_is = drop_past_char text rest' len c (h.rest_is ∙ e);
      taken = omega (arith, h.taken, units, is, le);
    }

-- a character that doesn't fit
pub IsFittingLen-stopped : (text : List ℕ) (limit len left n c : ℕ) (rest rest' : List ℕ) → IsUtf8 text → IsFitting text limit len left rest
    → rest ≡ encode c ++ rest' → n ≡ len_utf16 c → left < n → IsFittingLen text limit len
IsFittingLen-stopped text limit len left n c rest rest' u h e is less = record {
  fits = record { boundary = h.boundary; units = omega (arith, h.taken) };
  greatest = λ other o. elim (cases_lt len other) [
    | inl more ↦ absurd (omega (arith, units_of-take-more text len other c rest' u h.boundary o.boundary more (h.rest_is ∙ e), o.units, h.taken, is, less))
    | inr not_past ↦ not_past
  ];
}

-- the end of the text
pub IsFittingLen-at_end : (text : List ℕ) (limit len left : ℕ) (rest : List ℕ) → IsFitting text limit len left rest → length rest ≡ 0
    → IsFittingLen text limit len
IsFittingLen-at_end text limit len left rest h none = record {
  fits = record { boundary = h.boundary; units = omega (arith, h.taken) };
  greatest = λ other o. omega (arith, o.boundary.0, none, ap length h.rest_is, length-drop len text);
}

pub IsCountedTo-at_end : (text : List ℕ) (units : ℕ) (rest : List ℕ) → IsCountedTo text units rest → length rest ≡ 0 → units ≡ units_of text
IsCountedTo-at_end text units rest h none = omega (arith, h.total, ap units_of (nil_from_length rest none), ap (sum_by len_utf16) chars-nil)

pub IsFitting-start : (text : List ℕ) (limit : ℕ) → IsUtf8 text → IsFitting text limit 0 limit text
IsFitting-start text limit u = record {
  boundary = IsCharBoundary-start text u;
  rest_is = refl;
  taken = omega (arith, ap (sum_by len_utf16) chars-nil);
}

-- what `char::len_utf16` says
pub len_utf16-is : (c n : ℕ) → (c < 0x1_0000 → n ≡ 1) → (0x1_0000 ≤ c → n ≡ 2) → n ≡ len_utf16 c
len_utf16-is c n one two =
    cond_both (nat_lt c 0x1_0000) 1 2 (λ k. n ≡ k) (λ e. one (ltb-true c 0x1_0000 e)) (λ e. two (ltb-false c 0x1_0000 e))
