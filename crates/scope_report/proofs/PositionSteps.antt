-- A walk over a text that tells the line and the column of each offset.
use Rattle.std.proofs.Common.{◌≡◌, ℕ, zero, suc, ◌+◌, ◌-◌, ◌^◌, ◌<◌, ◌≤◌, Bool, true, false, cond, inl, inr, List, [], ◌∷◌, ◌++◌, length, get_or, take, drop, replicate, slice_get, Some, refl, sym, ap, ◌∙◌, subst, arith}
use Rattle.std.proofs.Math.Seq.{get_or-append_seam}
use Rattle.std.proofs.Math.ListN.{get_or-append}
use Rattle.std.proofs.lemmas.Bool.{cases_lt, cases_order}
use Rattle.std.proofs.lemmas.List.{append_assoc, get_or-append-add, length-append, length-drop, length-replicate, length-take-le, take-append-drop}
use Rattle.std.proofs.lemmas.Str.{IsCharBoundary-past_char, IsCharBoundary-start, IsUtf8-between, IsUtf8-drop, drop_past_char, encode_same, len_utf8_bounds, length-encode}
use Rattle.std.specs.Char.{len_utf8}
use Rattle.std.specs.List.{count_by}
use Rattle.std.specs.Str.{IsCharBoundary, IsUtf8, chars}
use Rattle.oxc_data_structures.proofs.ListLemmas.{slice_get-append_seam}
use Rattle.oxc_data_structures.proofs.RopeColumns.{IsFitting, IsFitting-next, IsFitting-start, first_char}
use Rattle.oxc_data_structures.proofs.RopeLemmas.{IsScanned, IsScanned-next}
use Rattle.oxc_data_structures.proofs.RopeLines.{IsCounted, IsCounted-unique, lines-IsCounted}
use Rattle.oxc_data_structures.specs.Rope.{between, column_of, ends_line, len_utf16, line_of, line_start, line_starts, starts_behind, units_of}
use Rattle.scope_report.specs.Positions.{ArePositions, position_of, position_past}
use Rattle.scope_report.specs.declared.positions.Position.{Position}
use lib.Utf8.{encode, encodes}

-- ---- where later lines start

later_start : (offset : ℕ) (cs : List ℕ) (k : ℕ) → k < length (starts_behind offset cs) → offset < get_or (starts_behind offset cs) k 0
later_start offset [] k l = absurd (omega (arith, l))
later_start offset (c ∷ cs) k l =
    let next = offset + len_utf8 c in
    go next (omega (arith, (len_utf8_bounds c).0)) (later_start next cs) (ends_line c cs) k l
  where
    go : (next : ℕ) → offset < next → ((j : ℕ) → j < length (starts_behind next cs) → next < get_or (starts_behind next cs) j 0)
        → (b : Bool) (j : ℕ) → j < length (cond b (next ∷ starts_behind next cs) (starts_behind next cs)) → offset < get_or (cond b (next ∷ starts_behind next cs) (starts_behind next cs)) j 0
    go next past later true zero h = past
    go next past later true (suc j) h = omega (arith, past, later j (omega (arith, h)))
    go next past later false j h = omega (arith, past, later j h)

-- ---- the walk at an offset, with the rest of the text behind it

pub record IsAt (text : List ℕ) (offset line column : ℕ) (rest : List ℕ) : Type 0 where
  -- where the lines before start, and where this one does
  pub starts : List ℕ
  pub start : ℕ
  pub scanned : IsScanned text (starts ++ start ∷ []) offset rest
  pub rest_is : drop offset text ≡ rest
  pub cut : IsCharBoundary text offset
  pub lines : length starts ≡ line
  pub passed : (k : ℕ) → k < length starts + 1 → get_or (starts ++ start ∷ []) k 0 ≤ offset
  pub from_start : start ≤ offset
  pub start_cut : IsCharBoundary text start
  pub fits : IsFitting (drop start text) column (offset - start) 0 rest
  pub line_small : line ≤ offset
  pub column_small : column ≤ offset

module _ (text : List ℕ) (offset line column : ℕ) (rest : List ℕ) (h : IsAt text offset line column rest) where
  so_far : List ℕ
  so_far = h.starts ++ h.start ∷ []

  many : length so_far ≡ line + 1
  unfolding so_far
  many = omega (arith, length-append h.starts (h.start ∷ []), h.lines)

  counted : IsCounted offset (line_starts text) (length so_far)
  unfolding so_far
  counted = record {
    in_range = omega (arith, ap length h.scanned.found, length-append so_far (starts_behind offset (chars rest)));
    before = λ k l.
        omega (
          arith,
          ap (λ (xs : List ℕ). get_or xs k 0) h.scanned.found,
          get_or-append so_far (starts_behind offset (chars rest)) 0 k l,
          h.passed k (omega (arith, l, length-append h.starts (h.start ∷ []))),
        );
    behind = λ k b l.
        let j : ℕ = k - length so_far in
        let at : k ≡ length so_far + j = omega (arith, b) in
        let inside : j < length (starts_behind offset (chars rest)) = omega (arith, l, ap length h.scanned.found, length-append so_far (starts_behind offset (chars rest))) in
        omega (
          arith,
          ap (λ (xs : List ℕ). get_or xs k 0) h.scanned.found,
          ap (λ (n : ℕ). get_or (so_far ++ starts_behind offset (chars rest)) n 0) at,
          get_or-append-add so_far (starts_behind offset (chars rest)) j 0,
          later_start offset (chars rest) j inside,
        );
  }

  pub line_is : line_of text offset ≡ line
  line_is =
      let same : length so_far ≡ count_by _ (line_starts text) = IsCounted-unique offset (line_starts text) (length so_far) _ counted (lines-IsCounted text offset) in
      omega (arith, same, many)

  start_is : line_start text (line_of text offset) ≡ h.start
  unfolding so_far
  start_is =
      ap (λ (n : ℕ). get_or (line_starts text) n 0) (line_is ∙ sym h.lines)
      ∙ ap (λ (xs : List ℕ). get_or xs (length h.starts) 0) h.scanned.found
      ∙ get_or-append so_far (starts_behind offset (chars rest)) 0 (length h.starts) (omega (arith, length-append h.starts (h.start ∷ [])))
      ∙ get_or-append_seam h.starts h.start [] 0

  pub column_is : column_of text offset ≡ column
  column_is =
      let here : column_of text offset ≡ units_of (take (offset - h.start) (drop h.start text)) = ap (λ (n : ℕ). units_of (between text n offset)) start_is in
      omega (arith, here, h.fits.taken)

  pub position_is : position_of text offset ≡ record { line = line; column = column }
  unfolding position_of
  position_is =
      let by_line : ℕ → Position = λ n. record { line = n; column = column_of text offset } in
      let by_column : ℕ → Position = λ n. record { line = line; column = n } in
      ap by_line line_is ∙ ap by_column column_is

pub at_first : (text : List ℕ) → IsUtf8 text → IsAt text 0 0 0 text
at_first text u = record {
  starts = [];
  start = 0;
  scanned = record { utf8 = u; walked = omega arith; found = refl };
  rest_is = refl;
  cut = IsCharBoundary-start text u;
  lines = refl;
  passed = λ k l. let none : k ≡ 0 = omega (arith, l) in rw none (omega arith);
  from_start = omega arith;
  start_cut = IsCharBoundary-start text u;
  fits = IsFitting-start text 0 u;
  line_small = omega arith;
  column_small = omega arith;
}

-- a beginning that fits, at another offset that is the same
fits_at : (tail : List ℕ) (units m n k : ℕ) (rest : List ℕ) → m ≡ n → k ≡ 0 → IsFitting tail units m k rest → IsFitting tail units n 0 rest
fits_at tail units m n k rest e z f = record {
  boundary = subst (IsCharBoundary tail) e f.boundary;
  rest_is = ap (λ (i : ℕ). drop i tail) (sym e) ∙ f.rest_is;
  taken = omega (arith, f.taken, ap (λ (i : ℕ). units_of (take i tail)) e, z);
}

module _ (text : List ℕ) (u : IsUtf8 text) (offset line column : ℕ) (rest : List ℕ) (h : IsAt text offset line column rest) (c : ℕ) (rest' : List ℕ) (e : rest ≡ encode c ++ rest') where
  past_cut : IsCharBoundary text (offset + len_utf8 c)
  past_cut = IsCharBoundary-past_char text rest' offset c h.cut.0 (IsUtf8-drop text offset u h.cut) (h.rest_is ∙ e)

  past_rest : drop (offset + len_utf8 c) text ≡ rest'
  past_rest = drop_past_char text rest' offset c (h.rest_is ∙ e)

  units_small : len_utf16 c ≤ len_utf8 c
  units_small = grind arith

  on_line : false ≡ ends_line c (chars rest') → IsAt text (offset + len_utf8 c) line (column + len_utf16 c) rest'
  on_line b = record {
    starts = h.starts;
    start = h.start;
    scanned = IsScanned-next text (h.starts ++ h.start ∷ []) offset (len_utf8 c) c rest rest' false h.scanned e refl b;
    rest_is = past_rest;
    cut = past_cut;
    lines = h.lines;
    passed = λ k l. omega (arith, h.passed k l);
    from_start = omega (arith, h.from_start);
    start_cut = h.start_cut;
    fits =
        let f : IsFitting (drop h.start text) (column + len_utf16 c) (offset - h.start) (len_utf16 c) rest = record { boundary = h.fits.boundary; rest_is = h.fits.rest_is; taken = omega (arith, h.fits.taken) } in
        fits_at (drop h.start text) (column + len_utf16 c) ((offset - h.start) + len_utf8 c) ((offset + len_utf8 c) - h.start) (len_utf16 c - len_utf16 c) rest' (omega (arith, h.from_start)) (omega arith)
        (IsFitting-next (drop h.start text) (column + len_utf16 c) (offset - h.start) (len_utf16 c) (len_utf16 c) c rest rest' (IsUtf8-drop text h.start u h.start_cut) f e refl (omega arith));
    line_small = omega (arith, h.line_small);
    column_small = omega (arith, h.column_small, units_small);
  }

  on_next_line : true ≡ ends_line c (chars rest') → IsAt text (offset + len_utf8 c) (line + 1) 0 rest'
  on_next_line b =
      let next : ℕ = offset + len_utf8 c in
      let all : List ℕ = h.starts ++ h.start ∷ [] in
      let count : length all ≡ line + 1 = omega (arith, length-append h.starts (h.start ∷ []), h.lines) in
      let whole : IsFitting (drop next text) 0 0 0 (drop next text) = IsFitting-start (drop next text) 0 (IsUtf8-drop text next u past_cut) in
      record {
        starts = all;
        start = next;
        scanned = IsScanned-next text all offset (len_utf8 c) c rest rest' true h.scanned e refl b;
        rest_is = past_rest;
        cut = past_cut;
        lines = count;
        passed = λ k l. elim (cases_lt k (length all)) [
          | inl less ↦ omega (arith, get_or-append all (next ∷ []) 0 k less, h.passed k (omega (arith, less, length-append h.starts (h.start ∷ []))))
          | inr not_less ↦
              let last : k ≡ length all = omega (arith, l, not_less) in
              omega (arith, ap (λ (i : ℕ). get_or (all ++ next ∷ []) i 0) last, get_or-append_seam all next [] 0)
        ];
        from_start = omega arith;
        start_cut = past_cut;
        fits = fits_at (drop next text) 0 0 (next - next) 0 rest' (omega arith) refl (subst (IsFitting (drop next text) 0 0 0) past_rest whole);
        line_small = omega (arith, h.line_small, (len_utf8_bounds c).0);
        column_small = omega arith;
      }

  -- what comes behind a character of the text
  pub at_next : (p : Position) → p ≡ position_past (record { line = line; column = column }) c (chars rest') → IsAt text (offset + len_utf8 c) p.line p.column rest'
  unfolding position_past
  at_next p is = go (ends_line c (chars rest')) refl is
    where
      go : (b : Bool) → b ≡ ends_line c (chars rest') → p ≡ cond b (record { line = line + 1; column = 0 }) (record { line = line; column = column + len_utf16 c }) → IsAt text (offset + len_utf8 c) p.line p.column rest'
      go true t q = subst (λ (r : Position). IsAt text (offset + len_utf8 c) r.line r.column rest') (sym q) (on_next_line t)
      go false t q = subst (λ (r : Position). IsAt text (offset + len_utf8 c) r.line r.column rest') (sym q) (on_line t)

  -- within the character the text may not be cut
  not_within : (o : ℕ) → offset < o → o < offset + len_utf8 c → IsCharBoundary text o → ⊥
  not_within o more less cut =
      let tail : List ℕ = drop offset text in
      let mid : List ℕ = take (o - offset) tail in
      let mid_utf8 : IsUtf8 mid = IsUtf8-between text offset o u (omega arith) h.cut cut in
      let mid_len : length mid ≡ o - offset = length-take-le (o - offset) tail (omega (arith, length-drop offset text, cut.0)) in
      let first = first_char mid mid_utf8 (omega (arith, mid_len)) in
      let same : encode c ++ rest' ≡ encode first.0 ++ (encodes first.1 ++ drop (o - offset) tail) =
      sym (h.rest_is ∙ e) ∙ sym (take-append-drop (o - offset) tail) ∙ ap (λ (front : List ℕ). front ++ drop (o - offset) tail) first.2 ∙ append_assoc (encode first.0) (encodes first.1) (drop (o - offset) tail) in
      let is : c ≡ first.0 = (encode_same c first.0 rest' (encodes first.1 ++ drop (o - offset) tail) same).0 in
      omega (arith, mid_len, ap length first.2, length-append (encode first.0) (encodes first.1), length-encode first.0, ap len_utf8 is)

-- ---- the positions so far

pub record HavePositions (text : List ℕ) (offset : ℕ) (ps : List Position) : Type 0 where
  pub many : length ps ≡ offset
  pub are : (o : ℕ) → o < offset → IsCharBoundary text o → slice_get ps o ≡ Some (position_of text o)

front_at : {X : Type 0} (xs ys : List X) (i : ℕ) (x : X) → slice_get xs i ≡ Some x → slice_get (xs ++ ys) i ≡ Some x
front_at [] ys i x e = absurd (cc)
front_at (z ∷ xs) ys zero x e = e
front_at (z ∷ xs) ys (suc i) x e = front_at xs ys i x e

seam_at : (ps : List Position) (p : Position) (n : ℕ) → 0 < n → slice_get (ps ++ replicate n p) (length ps) ≡ Some p
seam_at ps p zero h = absurd (omega (arith, h))
seam_at ps p (suc n) h = slice_get-append_seam ps (replicate n p) p

pub have_none : (text : List ℕ) → HavePositions text 0 []
have_none text = record { many = refl; are = λ o l. absurd (omega (arith, l)) }

pub have_more : (text : List ℕ) (u : IsUtf8 text) (offset line column : ℕ) (rest : List ℕ) (h : IsAt text offset line column rest) (c : ℕ) (rest' : List ℕ) → rest ≡ encode c ++ rest'
    → (ps qs : List Position) → HavePositions text offset ps → qs ≡ ps ++ replicate (len_utf8 c) (record { line = line; column = column }) → HavePositions text (offset + len_utf8 c) qs
have_more text u offset line column rest h c rest' e ps qs so_far pushed = record {
  many = omega (arith, ap length pushed, length-append ps (replicate (len_utf8 c) here), length-replicate (len_utf8 c) here, so_far.many);
  are = λ o l cut. rw pushed (elim (cases_order o offset) [
    | inl same ↦
        ap (slice_get (ps ++ replicate (len_utf8 c) here)) (same ∙ sym so_far.many) ∙ seam_at ps here (len_utf8 c) (len_utf8_bounds c).0
        ∙ ap Some (sym (position_is text offset line column rest h)) ∙ ap (λ (i : ℕ). Some (position_of text i)) (sym same)
    | inr (inl less) ↦ front_at ps (replicate (len_utf8 c) here) o (position_of text o) (so_far.are o less cut)
    | inr (inr more) ↦ absurd (not_within text u offset line column rest h c rest' e o more l cut)
  ]);
}
  where
    here : Position
    here = record { line = line; column = column }

-- at the end of the text
pub have_all : (text : List ℕ) (offset line column : ℕ) (rest : List ℕ) → IsAt text offset line column rest → length rest ≡ 0
    → (ps qs : List Position) → HavePositions text offset ps → qs ≡ ps ++ record { line = line; column = column } ∷ [] → ArePositions text qs
have_all text offset line column rest h none ps qs so_far pushed o cut = rw pushed (elim (cases_order o offset) [
  | inl same ↦
      ap (slice_get (ps ++ here ∷ [])) (same ∙ sym so_far.many) ∙ slice_get-append_seam ps [] here
      ∙ ap Some (sym (position_is text offset line column rest h)) ∙ ap (λ (i : ℕ). Some (position_of text i)) (sym same)
  | inr (inl less) ↦ front_at ps (here ∷ []) o (position_of text o) (so_far.are o less cut)
  | inr (inr more) ↦ absurd (omega (arith, more, cut.0, h.scanned.walked, none))
])
  where
    here : Position
    here = record { line = line; column = column }

-- ---- both together

pub record IsWalked (text : List ℕ) (ps : List Position) (p : Position) (rest : List ℕ) : Type 0 where
  pub at : IsAt text (length ps) p.line p.column rest
  pub have : HavePositions text (length ps) ps

pub walk_begins : (text : List ℕ) → IsUtf8 text → (ps : List Position) → ps ≡ [] → (rest : List ℕ) → rest ≡ text → IsWalked text ps (record { line = 0; column = 0 }) rest
walk_begins text u ps none rest whole =
    let first : Position = record { line = 0; column = 0 } in
    subst (λ (qs : List Position). IsWalked text qs first rest) (sym none)
    (subst (IsWalked text [] first) (sym whole) (record { at = at_first text u; have = have_none text }))

module _ (text : List ℕ) (u : IsUtf8 text) (ps : List Position) (p : Position) (rest : List ℕ) (w : IsWalked text ps p rest) where
  module _ (c : ℕ) (rest' : List ℕ) (e : rest ≡ encode c ++ rest') where
    pub has_room : length text < 2 ^ 32 → (p.line + 1 < 2 ^ 32) × (p.column + len_utf16 c < 2 ^ 32)
    has_room small =
        let behind : length rest ≡ len_utf8 c + length rest' = ap length e ∙ length-append (encode c) rest' ∙ ap (λ (n : ℕ). n + length rest') (length-encode c) in
        let units : len_utf16 c ≤ len_utf8 c = units_small text u (length ps) p.line p.column rest w.at c rest' e in (
          omega (arith, small, behind, w.at.scanned.walked, w.at.line_small, (len_utf8_bounds c).0),
          omega (arith, small, behind, w.at.scanned.walked, w.at.column_small, units),
        )

    pub walk_goes_on : (n : ℕ) → n ≡ len_utf8 c → (qs : List Position) → qs ≡ ps ++ replicate n p → (q : Position) → q ≡ position_past p c (chars rest') → IsWalked text qs q rest'
    walk_goes_on n len qs pushed q is =
        let more : HavePositions text (length ps + len_utf8 c) qs = have_more text u (length ps) p.line p.column rest w.at c rest' e ps qs w.have (pushed ∙ ap (λ (k : ℕ). ps ++ replicate k p) len) in
        record {
          at = subst (λ (o : ℕ). IsAt text o q.line q.column rest') (sym more.many) (at_next text u (length ps) p.line p.column rest w.at c rest' e q is);
          have = subst (λ (o : ℕ). HavePositions text o qs) (sym more.many) more;
        }

  pub walk_ends : length rest ≡ 0 → (qs : List Position) → qs ≡ ps ++ p ∷ [] → ArePositions text qs
  walk_ends none qs pushed = have_all text (length ps) p.line p.column rest w.at none ps qs w.have pushed
