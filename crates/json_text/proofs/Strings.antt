-- A string is told by its text, whatever follows.
use Rattle.std.proofs.Common.{◌≡◌, ℕ, ◌<◌, ◌+◌, ◌*◌, List, [], ◌∷◌, ◌++◌, flat_map, arith, sym, ap, ◌∙◌, subst, append_assoc, encode_utf8}
use Rattle.std.proofs.iter.TextItems.{one_code}
use Rattle.std.proofs.lemmas.Str.{encode_ascii}
use Rattle.json_text.specs.Grammar.{Piece, char, short, hex, piece_text, ReadsChar, ReadsPiece, ReadsPieces, StandsFor, IsHex, IsString}

char_once : (c : ℕ) (us vs : List ℕ) → ReadsChar c us → ReadsChar c vs → us ≡ vs
char_once c [] vs p q = absurd p
char_once c (u ∷ v ∷ w ∷ us) vs p q = absurd p
char_once c (u ∷ []) [] p q = absurd q
char_once c (u ∷ v ∷ []) [] p q = absurd q
char_once c (u ∷ []) (v ∷ w ∷ x ∷ vs) p q = absurd q
char_once c (u ∷ t ∷ []) (v ∷ w ∷ x ∷ vs) p q = absurd q
char_once c (u ∷ []) (v ∷ []) p q = let e : u ≡ v = p.1 ∙ sym q.1 in ap (λ (k : ℕ). k ∷ []) e
char_once c (u ∷ []) (v ∷ w ∷ []) p q = absurd (omega arith)
char_once c (u ∷ v ∷ []) (w ∷ []) p q = absurd (omega arith)
char_once c (u ∷ v ∷ []) (w ∷ x ∷ []) p q = let e : u ≡ w = omega arith in let f : v ≡ x = omega arith in cc

stands_once : (c u v : ℕ) → StandsFor c u → StandsFor c v → u ≡ v
stands_once c u v p q = grind arith

hex_once : (c u v : ℕ) → IsHex c u → IsHex c v → u ≡ v
hex_once c u v p q = grind arith

no_short_u : (c u : ℕ) → StandsFor c u → c ≡ 117 → ⊥
no_short_u c u p e = grind arith

-- a byte below 128 and a character
ascii_code : (b c : ℕ) (x y : List ℕ) → b < 128 → b ∷ x ≡ encode_utf8 c ++ y → b ≡ c
ascii_code b c x y lt e = (one_code b c x y (ap (λ (t : List ℕ). t ++ x) (encode_ascii b lt) ∙ e)).0

quote_no_piece : (q : Piece) (us : List ℕ) (x y : List ℕ) → ReadsPiece q us → 34 ∷ x ≡ piece_text q ++ y → ⊥
quote_no_piece (char c) us x y p e = p.2 (sym (ascii_code 34 c x y (omega arith) e))
quote_no_piece (short c) us x y p e = let f : ◌≡◌ {A = ℕ} 34 92 = cc in omega arith
quote_no_piece (hex a b c d) us x y p e = let f : ◌≡◌ {A = ℕ} 34 92 = cc in omega arith

short_no_char : (c : ℕ) (us x y : List ℕ) → ReadsPiece (char c) us → 92 ∷ x ≡ encode_utf8 c ++ y → ⊥
short_no_char c us x y p e = p.3 (sym (ascii_code 92 c x y (omega arith) e))

short_no_hex : (e a b c d : ℕ) (us x y : List ℕ) → ReadsPiece (short e) us → 92 ∷ e ∷ x ≡ 92 ∷ 117 ∷ y → ⊥
short_no_hex e a b c d [] x y p s = absurd p
short_no_hex e a b c d (u ∷ []) x y p s = let f : e ≡ 117 = cc in no_short_u e u p f
short_no_hex e a b c d (u ∷ v ∷ us) x y p s = absurd p

same_short : (c : ℕ) (us vs : List ℕ) → ReadsPiece (short c) us → ReadsPiece (short c) vs → us ≡ vs
same_short c [] vs p q = absurd p
same_short c (u ∷ v ∷ us) vs p q = absurd p
same_short c (u ∷ []) [] p q = absurd q
same_short c (u ∷ []) (v ∷ w ∷ vs) p q = absurd q
same_short c (u ∷ []) (v ∷ []) p q = ap (λ (k : ℕ). k ∷ []) (stands_once c u v p q)

same_hex : (a b c d : ℕ) (us vs : List ℕ) → ReadsPiece (hex a b c d) us → ReadsPiece (hex a b c d) vs → us ≡ vs
same_hex a b c d us vs (h, i, j, k, ph, pi, pj, pk, p) (l, m, n, o, ql, qm, qn, qo, q) =
    let e1 = hex_once a h l ph ql in
    let e2 = hex_once b i m pi qm in
    let e3 = hex_once c j n pj qn in
    let e4 = hex_once d k o pk qo in
    let e : h * 4096 + i * 256 + j * 16 + k ≡ l * 4096 + m * 256 + n * 16 + o = omega arith in
    p ∙ ap (λ (t : ℕ). t ∷ []) e ∙ sym q

same_piece : (p q : Piece) (us vs x y : List ℕ) → ReadsPiece p us → ReadsPiece q vs → piece_text p ++ x ≡ piece_text q ++ y → (us ≡ vs) × (x ≡ y)
same_piece (char c) (char d) us vs x y p q e =
    let r = one_code c d x y e in
    (char_once d us vs (subst (λ (k : ℕ). ReadsChar k us) r.0 p.4) q.4, r.1)
same_piece (char c) (short d) us vs x y p q e = absurd (short_no_char c us (d ∷ y) x p (sym e))
same_piece (char c) (hex d f g h) us vs x y p q e = absurd (short_no_char c us (117 ∷ d ∷ f ∷ g ∷ h ∷ y) x p (sym e))
same_piece (short c) (char d) us vs x y p q e = absurd (short_no_char d vs (c ∷ x) y q e)
same_piece (short c) (short d) us vs x y p q e =
    let f : c ≡ d = cc in
    let g : x ≡ y = cc in
    (same_short d us vs (subst (λ (k : ℕ). ReadsPiece (short k) us) f p) q, g)
same_piece (short c) (hex d f g h) us vs x y p q e = absurd (short_no_hex c d f g h us x (d ∷ f ∷ g ∷ h ∷ y) p e)
same_piece (hex a b c d) (char k) us vs x y p q e = absurd (short_no_char k vs (117 ∷ a ∷ b ∷ c ∷ d ∷ x) y q e)
same_piece (hex a b c d) (short k) us vs x y p q e = absurd (short_no_hex k a b c d vs y (a ∷ b ∷ c ∷ d ∷ x) q (sym e))
same_piece (hex a b c d) (hex f g h k) us vs x y p q e =
    let e1 : a ≡ f = cc in
    let e2 : b ≡ g = cc in
    let e3 : c ≡ h = cc in
    let e4 : d ≡ k = cc in
    let e5 : x ≡ y = cc in
    let s : hex a b c d ≡ hex f g h k = cc in
    (same_hex f g h k us vs (subst (λ (t : Piece). ReadsPiece t us) s p) q, e5)

same_pieces : (ps qs : List Piece) (us vs x y : List ℕ) → ReadsPieces ps us → ReadsPieces qs vs →
    flat_map piece_text ps ++ 34 ∷ x ≡ flat_map piece_text qs ++ 34 ∷ y → (us ≡ vs) × (x ≡ y)
same_pieces [] [] us vs x y p q e = let g : x ≡ y = cc in (p ∙ sym q, g)
same_pieces [] (q ∷ qs) us vs x y p (a, b, same, r, more) e =
    absurd (quote_no_piece q a x (flat_map piece_text qs ++ 34 ∷ y) r (e ∙ append_assoc (piece_text q) (flat_map piece_text qs) (34 ∷ y)))
same_pieces (p ∷ ps) [] us vs x y (a, b, same, r, more) q e =
    absurd (quote_no_piece p a y (flat_map piece_text ps ++ 34 ∷ x) r (sym e ∙ append_assoc (piece_text p) (flat_map piece_text ps) (34 ∷ x)))
same_pieces (p ∷ ps) (q ∷ qs) us vs x y (a, b, same, r, more) (c, d, same2, r2, more2) e =
    let g : piece_text p ++ (flat_map piece_text ps ++ 34 ∷ x) ≡ piece_text q ++ (flat_map piece_text qs ++ 34 ∷ y) =
    sym (append_assoc (piece_text p) (flat_map piece_text ps) (34 ∷ x)) ∙ e ∙ append_assoc (piece_text q) (flat_map piece_text qs) (34 ∷ y) in
    let h = same_piece p q a c _ _ r r2 g in
    let i = same_pieces ps qs b d x y more more2 h.1 in
    let h0 = h.0 in
    let i0 = i.0 in
    let k : us ≡ vs = cc in
    (k, i.1)

pub same_string : (a b x y us vs : List ℕ) → IsString a us → IsString b vs → a ++ x ≡ b ++ y → (us ≡ vs) × (x ≡ y)
same_string a b x y us vs (ps, p, rp) (qs, q, rq) e =
    let f : 34 ∷ ((flat_map piece_text ps ++ 34 ∷ []) ++ x) ≡ 34 ∷ ((flat_map piece_text qs ++ 34 ∷ []) ++ y) =
    ap (λ (t : List ℕ). t ++ x) (sym p) ∙ e ∙ ap (λ (t : List ℕ). t ++ y) q in
    let g : (flat_map piece_text ps ++ 34 ∷ []) ++ x ≡ (flat_map piece_text qs ++ 34 ∷ []) ++ y = cc in
    same_pieces ps qs us vs x y rp rq (sym (append_assoc (flat_map piece_text ps) (34 ∷ []) x) ∙ g ∙ append_assoc (flat_map piece_text qs) (34 ∷ []) y)
