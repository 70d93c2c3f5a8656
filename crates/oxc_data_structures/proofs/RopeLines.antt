-- Where the lines of a text start: the offsets rise, and the text may be cut at each of them.
use Rattle.std.proofs.Common.{◌≡◌, ℕ, zero, suc, ◌+◌, ◌<◌, ◌≤◌, true, false, cond, nat_le, inl, inr, List, [], ◌∷◌, length, get_or, drop, sym, ap, add-one, arith}
use Rattle.std.proofs.lemmas.Bool.{cases_Bool, cases_lt, cases_order, cond_both, le-leb, leb-true, leb-false}
use Rattle.std.proofs.lemmas.List.{get_or_default, get_or_past, length-append, length-drop}
use Rattle.std.proofs.lemmas.List.Elements.{All-cons, All-nil}
use Rattle.std.proofs.lemmas.List.Sums.{sum_by-cons}
use Rattle.std.proofs.lemmas.Str.{IsCharBoundary-end, IsCharBoundary-from_drop, IsUtf8-past_char, drop_past_char, encodes-chars, length-encode, len_utf8_bounds}
use Rattle.std.proofs.lemmas.List.Sorted.{IsNonDecreasingBy-from_all_adjacent}
use Rattle.std.specs.Char.{len_utf8}
use Rattle.std.specs.List.{All, count_by}
use Rattle.std.specs.List.Sorted.{IsNonDecreasingBy, IsPartitionPoint}
use Rattle.std.specs.Str.{IsCharBoundary, IsUtf8, chars}
use Rattle.oxc_data_structures.specs.Rope.{ends_line, line_end, line_of, line_start, line_starts, starts_behind}
use lib.Utf8.{encode, encodes}

-- each of these numbers is greater than the one before it, and the first one than n
abbrev pub Rises : ℕ → List ℕ → Type 0
Rises n [] = Unit {0}
Rises n (x ∷ xs) = (n < x) × Rises x xs

Rises-lower : (m n : ℕ) (xs : List ℕ) → m ≤ n → Rises n xs → Rises m xs
Rises-lower m n [] le h = tt
Rises-lower m n (x ∷ xs) le h = (omega (arith, h.0), h.1)

Rises-above : (n : ℕ) (xs : List ℕ) → Rises n xs → (k : ℕ) → k < length xs → n < get_or xs k 0
Rises-above n [] h k l = absurd (omega (arith, l))
Rises-above n (x ∷ xs) h zero l = h.0
Rises-above n (x ∷ xs) h (suc k) l = omega (arith, h.0, Rises-above x xs h.1 k (omega (arith, l)))

starts_behind-Rises : (offset : ℕ) (cs : List ℕ) → Rises offset (starts_behind offset cs)
starts_behind-Rises offset [] = tt
starts_behind-Rises offset (c ∷ cs) =
    let next = offset + len_utf8 c in
    let past : offset < next = omega (arith, (len_utf8_bounds c).0) in
    let later : Rises next (starts_behind next cs) = starts_behind-Rises next cs in
    cond_both (ends_line c cs) (next ∷ starts_behind next cs) (starts_behind next cs) (λ xs. Rises offset xs)
    (λ _. (past, later)) (λ _. Rises-lower offset next (starts_behind next cs) (omega (arith, past)) later)

-- the text may be cut at this offset
pub record IsCut (text : List ℕ) (offset : ℕ) : Type 0 where
  pub in_range : offset ≤ length text
  pub utf8 : IsUtf8 (drop offset text)

starts_behind-cuts : (text : List ℕ) (offset : ℕ) (cs : List ℕ) → IsCut text offset → drop offset text ≡ encodes cs
    → All (IsCut text) (starts_behind offset cs)
starts_behind-cuts text offset [] h e = All-nil (IsCut text)
starts_behind-cuts text offset (c ∷ cs) h e =
    let next = offset + len_utf8 c in
    let cut : IsCut text next = record {
      in_range = omega (arith, h.in_range, length-drop offset text, ap length e, length-append (encode c) (encodes cs), length-encode c, (len_utf8_bounds c).0);
      utf8 = rw (drop_past_char text (encodes cs) offset c e) (IsUtf8-past_char (drop offset text) (encodes cs) c h.utf8 e);
    } in
    let later : All (IsCut text) (starts_behind next cs) = starts_behind-cuts text next cs cut (drop_past_char text (encodes cs) offset c e) in
    cond_both (ends_line c cs) (next ∷ starts_behind next cs) (starts_behind next cs) (All (IsCut text))
    (λ _. All-cons (IsCut text) next (starts_behind next cs) cut later) (λ _. later)

line_starts-cuts : (text : List ℕ) → IsUtf8 text → All (IsCut text) (line_starts text)
line_starts-cuts text u =
    let front : IsCut text 0 = record { in_range = omega arith; utf8 = u } in
    All-cons (IsCut text) 0 (starts_behind 0 (chars text)) front
    (starts_behind-cuts text 0 (chars text) front (sym (encodes-chars text u)))

-- so many of these numbers are at most t: the first ones
pub record IsCounted (t : ℕ) (xs : List ℕ) (count : ℕ) : Type 0 where
  pub in_range : count ≤ length xs
  pub before : (k : ℕ) → k < count → get_or xs k 0 ≤ t
  pub behind : (k : ℕ) → count ≤ k → k < length xs → t < get_or xs k 0

pub IsCounted-unique : (t : ℕ) (xs : List ℕ) (m n : ℕ) → IsCounted t xs m → IsCounted t xs n → m ≡ n
IsCounted-unique t xs m n g h =
    elim (cases_order m n) [
      | inl same ↦ same
      | inr (inl less) ↦ absurd (omega (arith, h.before m less, g.behind m (omega arith) (omega (arith, less, h.in_range))))
      | inr (inr more) ↦ absurd (omega (arith, g.before n more, h.behind n (omega arith) (omega (arith, more, g.in_range))))
    ]

more_before : (t x : ℕ) (xs : List ℕ) (count : ℕ) → x ≤ t → ((k : ℕ) → k < count → get_or xs k 0 ≤ t)
    → (k : ℕ) → k < 1 + count → get_or (x ∷ xs) k 0 ≤ t
more_before t x xs count le h zero l = le
more_before t x xs count le h (suc k) l = h k (omega (arith, l))

more_behind : (t x : ℕ) (xs : List ℕ) (count : ℕ) → ((k : ℕ) → count ≤ k → k < length xs → t < get_or xs k 0)
    → (k : ℕ) → 1 + count ≤ k → k < length (x ∷ xs) → t < get_or (x ∷ xs) k 0
more_behind t x xs count h zero b l = absurd (omega (arith, b))
more_behind t x xs count h (suc k) b l = h k (omega (arith, b)) (omega (arith, l))

all_behind : (t x : ℕ) (xs : List ℕ) → t < x → Rises x xs → (k : ℕ) → k < length (x ∷ xs) → t < get_or (x ∷ xs) k 0
all_behind t x xs less h zero l = less
all_behind t x xs less h (suc k) l = omega (arith, less, Rises-above x xs h k (omega (arith, l)))

count_more : (t x : ℕ) (xs : List ℕ) (count : ℕ) → x ≤ t → IsCounted t xs count → IsCounted t (x ∷ xs) (1 + count)
count_more t x xs count le h = record {
  in_range = omega (arith, h.in_range);
  before = more_before t x xs count le h.before;
  behind = more_behind t x xs count h.behind;
}

count_none : (t x : ℕ) (xs : List ℕ) (count : ℕ) → t < x → Rises x xs → IsCounted t xs count → IsCounted t (x ∷ xs) (0 + count)
count_none t x xs count less up h = record {
  in_range = omega (arith, h.in_range);
  before = λ k l. absurd (omega (arith, l, h.before 0 (omega (arith, l)), less, Rises-above x xs up 0 (omega (arith, l, h.in_range))));
  behind = λ k _ l. all_behind t x xs less up k l;
}

count_by-IsCounted : (t n : ℕ) (xs : List ℕ) → Rises n xs → IsCounted t xs (count_by (λ x. nat_le x t) xs)
count_by-IsCounted t n [] h = record {
  in_range = omega arith;
  before = λ k l. absurd (omega (arith, l));
  behind = λ k _ l. absurd (omega (arith, l));
}
count_by-IsCounted t n (x ∷ xs) h =
    let later : IsCounted t xs (count_by (λ y. nat_le y t) xs) = count_by-IsCounted t x xs h.1 in
    rw (sum_by-cons (λ y. cond (nat_le y t) 1 0) x xs)
    (elim (cases_Bool (nat_le x t)) [
      | inl below ↦ rw below (count_more t x xs _ (leb-true x t below) later)
      | inr above ↦ rw above (count_none t x xs _ (leb-false x t above) h.1 later)
    ])

-- the lines that start at or before an offset are the first ones
pub lines-IsCounted : (text : List ℕ) (offset : ℕ)
    → IsCounted offset (line_starts text) (count_by (λ start. nat_le start offset) (line_starts text))
lines-IsCounted text offset =
    rw (sum_by-cons (λ start. cond (nat_le start offset) 1 0) 0 (starts_behind 0 (chars text)), le-leb 0 offset (omega arith))
    (count_more offset 0 (starts_behind 0 (chars text)) _ (omega arith)
    (count_by-IsCounted offset 0 (starts_behind 0 (chars text)) (starts_behind-Rises 0 (chars text))))

-- the first line starts at 0, so one starts at or before each offset
line_of-next : (text : List ℕ) (offset : ℕ) → line_of text offset + 1 ≡ count_by (λ start. nat_le start offset) (line_starts text)
line_of-next text offset =
    let counted = lines-IsCounted text offset in
    elim (cases_lt 0 (count_by (λ start. nat_le start offset) (line_starts text))) [
      | inl some ↦ omega (arith, some)
      | inr none ↦ absurd (omega (arith, counted.behind 0 none (omega arith)))
    ]

-- where a line starts and ends, in a text that may be cut at both
pub record IsLine (text : List ℕ) (line : ℕ) : Type 0 where
  pub ordered : line_start text line ≤ line_end text line
  pub in_range : line_end text line ≤ length text
  pub start_boundary : IsCharBoundary text (line_start text line)
  pub end_boundary : IsCharBoundary text (line_end text line)

Rises-next : (n : ℕ) (xs : List ℕ) → Rises n xs → (k : ℕ) → k < length xs → get_or (n ∷ xs) k 0 < get_or xs k 0
Rises-next n [] h k l = absurd (omega (arith, l))
Rises-next n (x ∷ xs) h zero l = h.0
Rises-next n (x ∷ xs) h (suc k) l = Rises-next x xs h.1 k (omega (arith, l))

line_starts-rise : (text : List ℕ) (k : ℕ) → k + 1 < length (line_starts text)
    → get_or (line_starts text) k 0 < get_or (line_starts text) (k + 1) 0
line_starts-rise text k l =
    let later = starts_behind 0 (chars text) in
    let next : get_or (0 ∷ later) (k + 1) 0 ≡ get_or later k 0 = ap (λ i. get_or (0 ∷ later) i 0) (add-one k) in
    rw next (Rises-next 0 later (starts_behind-Rises 0 (chars text)) k (omega (arith, l)))

pub line-IsLine : (text : List ℕ) (line : ℕ) → IsUtf8 text → line < length (line_starts text) → IsLine text line
line-IsLine text line u l =
    elim (cases_lt (line + 1) (length (line_starts text))) [
      | inl more ↦
          let last : line_end text line ≡ get_or (line_starts text) (line + 1) 0 = get_or_default (line_starts text) (line + 1) (length text) 0 more in
          let next : IsCut text (get_or (line_starts text) (line + 1) 0) = cuts (line + 1) 0 more in
          record {
            ordered = omega (arith, last, line_starts-rise text line more);
            in_range = omega (arith, last, next.in_range);
            start_boundary = boundary here;
            end_boundary = rw last (boundary next);
          }
      | inr none ↦
          let last : line_end text line ≡ length text = get_or_past (line_starts text) (line + 1) (length text) none in
          record {
            ordered = omega (arith, last, here.in_range);
            in_range = omega (arith, last);
            start_boundary = boundary here;
            end_boundary = rw last (IsCharBoundary-end text);
          }
    ]
  where
    cuts : All (IsCut text) (line_starts text)
    cuts = line_starts-cuts text u

    here : IsCut text (get_or (line_starts text) line 0)
    here = cuts line 0 l

    boundary : {offset : ℕ} → IsCut text offset → IsCharBoundary text offset
    boundary {offset} h = IsCharBoundary-from_drop text offset h.in_range h.utf8

-- the starts rise, so a line starts no sooner than its number says
pub line_starts-IsNonDecreasing : (text : List ℕ) → IsNonDecreasingBy (λ x. x) (line_starts text)
line_starts-IsNonDecreasing text =
    IsNonDecreasingBy-from_all_adjacent (λ x. x) (line_starts text)
    (λ k d l. omega (
      arith,
      line_starts-rise text k l,
      get_or_default (line_starts text) k d 0 (omega (arith, l)),
      get_or_default (line_starts text) (k + 1) d 0 l,
    ))

Rises-far : (n : ℕ) (xs : List ℕ) → Rises n xs → (k : ℕ) → k < length xs → n + k < get_or xs k 0
Rises-far n [] h k l = absurd (omega (arith, l))
Rises-far n (x ∷ xs) h zero l = omega (arith, h.0)
Rises-far n (x ∷ xs) h (suc k) l = omega (arith, h.0, Rises-far x xs h.1 k (omega (arith, l)))

pub line-le-start : (text : List ℕ) (line : ℕ) → line < length (line_starts text) → line ≤ line_start text line
line-le-start text zero l = omega arith
line-le-start text (suc k) l = omega (arith, Rises-far 0 (starts_behind 0 (chars text)) (starts_behind-Rises 0 (chars text)) k (omega (arith, l)))

-- a search for the first line that starts behind an offset
pub lines-found : (text : List ℕ) (offset found : ℕ) → found ≤ length (line_starts text)
    → IsPartitionPoint (λ y. nat_le y offset ≡ true) (λ y. nat_le y offset ≡ false) (line_starts text) found
    → found ≡ line_of text offset + 1
lines-found text offset found in_range point =
    omega (arith, same, line_of-next text offset)
  where
    here : IsCounted offset (line_starts text) found
    here = record {
      in_range = in_range;
      before = λ k l. leb-true _ _ (point.0 k 0 (omega arith) l);
      behind = λ k b l. leb-false _ _ (point.1 k 0 b l);
    }

    same : found ≡ count_by (λ start. nat_le start offset) (line_starts text)
    same = IsCounted-unique offset (line_starts text) found _ here (lines-IsCounted text offset)

-- an offset within its line
pub record IsInLine (text : List ℕ) (offset : ℕ) : Type 0 where
  pub line_in_range : line_of text offset < length (line_starts text)
  pub from_start : line_start text (line_of text offset) ≤ offset
  pub to_end : offset ≤ length text → offset ≤ line_end text (line_of text offset)

pub line_of-IsInLine : (text : List ℕ) (offset : ℕ) → IsInLine text offset
line_of-IsInLine text offset = record {
  line_in_range = in_range;
  from_start = counted.before (line_of text offset) (omega (arith, next));
  to_end = λ le. elim (cases_lt (line_of text offset + 1) (length (line_starts text))) [
    | inl more ↦ omega (
      arith,
      get_or_default (line_starts text) (line_of text offset + 1) (length text) 0 more,
      counted.behind (line_of text offset + 1) (omega (arith, next)) more,
    )
    | inr last ↦ omega (arith, le, get_or_past (line_starts text) (line_of text offset + 1) (length text) last)
  ];
}
  where
    counted : IsCounted offset (line_starts text) (count_by (λ start. nat_le start offset) (line_starts text))
    counted = lines-IsCounted text offset

    next : line_of text offset + 1 ≡ count_by (λ start. nat_le start offset) (line_starts text)
    next = line_of-next text offset

    in_range : line_of text offset < length (line_starts text)
    in_range = omega (arith, next, counted.in_range)
