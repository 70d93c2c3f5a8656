-- Tokens are at most one expression: each derivation is what the reader reads.
use Rattle.std.proofs.Common.{◌≡◌, ℕ, suc, ◌+◌, ◌≤◌, List, [], ◌∷◌, ◌++◌, Option, Some, None, refl, sym, ap, ◌∙◌, subst, arith, map, Bool, false, inl, inr, ◌⊎◌, if◌then◌else◌}
use Rattle.std.proofs.lemmas.Bool.{cases_lt}
use Rattle.syntax_lex.specs.declared.operator.unary.UnaryOperator.{UnaryOperator}
use Rattle.js_grammar.specs.Derives.{Coalesces, Derives, Listed, Parts, array, assignment, between, call, coalescing, conditional, first, index, last, member, more, new, next, nothing, operand, parentheses, postfix, power, prefix, sequence, some, unary}
use Rattle.js_grammar.specs.Laws.{TokensDeriveOneShape}
use Rattle.js_grammar.specs.Printed.{right_level}
use Rattle.js_grammar.specs.Shapes.{Array, Assign, COALESCE, Call, Conditional, EXPONENTIAL, Index, Infix, Member, New, Prefix, Sequence, Shape, Shapes, Unary, also, infix_level, none}
use Rattle.js_grammar.specs.Tokens.{CLOSE, CLOSE_SQUARE, COLON, COMMA, DOT, OPEN, OPEN_SQUARE, QUESTION, Token, Word, assign_token, infix_token, unary_token, update_token}
use Rattle.js_grammar.proofs.Classes.{Asks, Class, Closes, ClosesSquare, Colons, Commas, Dots, News, Opens, OpensSquare, assign_class, class_of, goes_on, infix_goes_on, new_class, operand_class, text_of_word, unary_class, update_class}
use Rattle.js_grammar.proofs.Levels.{left_range, part_levels}
use Rattle.js_grammar.proofs.Reader.{Got, Stops, bind, branch, closes, closes_square, got, is_colon, is_comma, items, items_more, listed, listed_more, loop, loop_infix, loop_more, loop_stops, opens, past, read, read_more, read_unary, stops_up, takes}

abbrev classes : List Token → List Class
classes = map class_of

-- ---- lists of tokens, before what follows them

spread : (a : List Token) (t : Token) (b : List Token) (rest : List Class) → classes (a ++ t ∷ b) ++ rest ≡ classes a ++ class_of t ∷ (classes b ++ rest)
spread [] t b rest = refl
spread (x ∷ a) t b rest = ap (λ ws. class_of x ∷ ws) (spread a t b rest)

seam : (ts : List Token) (t : Token) (us : List Token) (u : Token) (rest : List Class) → classes (ts ++ t ∷ (us ++ u ∷ [])) ++ rest ≡ classes ts ++ class_of t ∷ (classes us ++ class_of u ∷ rest)
seam ts t us u rest = spread ts t (us ++ u ∷ []) rest ∙ ap (λ ws. classes ts ++ class_of t ∷ ws) (spread us u [] rest)

-- what was read, and how what follows goes on from there
chain : {A B : Type 0} (o : Option (Got A)) (go : A → List Class → Option (Got B)) (x : A) (us : List Class) (r : Got B) → o ≡ got x us → go x us ≡ Some r → bind o go ≡ Some r
chain o go x us r e h = ap (λ z. bind z go) e ∙ h

-- ---- an expression isn't empty, and begins with no closing bracket

abbrev Starts : List Class → Type 0
Starts [] = ⊥
Starts (t ∷ ts) = (closes t ≡ false) × (closes_square t ≡ false)

starts_on : (a b : List Token) → Starts (classes a) → Starts (classes (a ++ b))
starts_on [] b h = absurd h
starts_on (t ∷ a) b h = h

starts_as : (c d : Class) (ts : List Class) → c ≡ d → Starts (d ∷ ts) → Starts (c ∷ ts)
starts_as c d ts e h = subst (λ x. Starts (x ∷ ts)) (sym e) h

unary_starts : (o : UnaryOperator) (ts : List Class) → Starts (class_of (unary_token o) ∷ ts)
unary_starts o ts = elim (unary_class o) [ inl e ↦ starts_as _ _ ts e (refl, refl) | inr e ↦ starts_as _ _ ts e.1 (refl, refl) ]

mutual
  starts : {k : ℕ} {ts : List Token} {s : Shape} → Derives k ts s → Starts (classes ts)
  starts (operand {o = o} h u) = starts_as _ _ [] (operand_class o u) (refl, refl)
  starts (parentheses h d) = (refl, refl)
  starts (array h p) = (refl, refl)
  starts (new {ts = ts} {us = us} h d p) = starts_as _ _ (classes (ts ++ OPEN ∷ (us ++ CLOSE ∷ []))) new_class (refl, refl)
  starts (member h l l' d) = starts_on _ _ (starts d)
  starts (index h l l' d e) = starts_on _ _ (starts d)
  starts (call h d p) = starts_on _ _ (starts d)
  starts (postfix h d t) = starts_on _ _ (starts d)
  starts (prefix {o = o} {ts = ts} h d t) = starts_as _ _ (classes ts) (update_class o) (refl, refl)
  starts (unary {o = o} {ts = ts} h d) = unary_starts o (classes ts)
  starts (power h d e) = starts_on _ _ (starts d)
  starts (between o h d e) = starts_on _ _ (starts d)
  starts (coalescing h c) = row_starts c
  starts (conditional h d e g) = starts_on _ _ (starts d)
  starts (assignment h d t e) = starts_on _ _ (starts d)
  starts (sequence h d p) = starts_on _ _ (starts d)

  row_starts : {ts : List Token} {s : Shape} → Coalesces ts s → Starts (classes ts)
  row_starts (first d e) = starts_on _ _ (starts d)
  row_starts (next c e) = starts_on _ _ (row_starts c)

parts_start : {ts : List Token} {ss : Shapes} → Parts ts ss → Starts (classes ts)
parts_start (last d) = starts d
parts_start (more d p) = starts_on _ _ (starts d)

skip_if : {A : Type 0} (b : Bool) (x y : Option A) → b ≡ false → (if b then x else y) ≡ y
skip_if b x y e = ap (λ c. if c then x else y) e

skip_close : {B : Type 0} (ts rest : List Class) (go : List Class → Option (Got B)) (o : Option (Got B)) → Starts ts → branch closes (ts ++ rest) go o ≡ o
skip_close [] rest go o h = absurd h
skip_close (t ∷ ts) rest go o h = skip_if (closes t) _ _ h.0

skip_square : {B : Type 0} (ts rest : List Class) (go : List Class → Option (Got B)) (o : Option (Got B)) → Starts ts → branch closes_square (ts ++ rest) go o ≡ o
skip_square [] rest go o h = absurd h
skip_square (t ∷ ts) rest go o h = skip_if (closes_square t) _ _ h.1

no_comma : {B : Type 0} (ts : List Class) (go : List Class → Option (Got B)) (o : Option (Got B)) → Stops 1 ts → branch is_comma ts go o ≡ o
no_comma [] go o st = refl
no_comma (Commas ∷ ts) go o st = let no : ⊥ = omega arith in absurd no
no_comma (_ ∷ ts) go o st = refl

-- ---- what is read of a derivation

-- What goes on after the expression goes on after it has been read. The edge is the level of the part that ends the row, 24 where the row ends with its own token:
-- what follows doesn't go on there.
record Moves (k : ℕ) (ts : List Token) (s : Shape) : Type 0 where
  edge : ℕ
  firm : (k ≤ edge) ⊎ (k ≡ 5)
  strict : 6 ≤ k → k ≤ 16 → suc k ≤ edge
  wide : 19 ≤ k → 23 ≤ edge
  moves : (j : ℕ) → j ≤ k → (rest : List Class) → Stops edge rest → (f : ℕ) (r : Got Shape) → loop f j s rest ≡ Some r → (g : ℕ) × (read g j (classes ts ++ rest) ≡ Some r)

record RowMoves (ts : List Token) (s : Shape) : Type 0 where
  moves : (j : ℕ) → j ≤ 6 → (rest : List Class) → Stops 9 rest → (f : ℕ) (r : Got Shape) → loop f j s rest ≡ Some r → (g : ℕ) × (read g j (classes ts ++ rest) ≡ Some r)

record Runs (ts : List Token) (ss : Shapes) : Type 0 where
  runs : (rest : List Class) → Stops 1 rest → (g : ℕ) × (items g (classes ts ++ rest) ≡ got ss rest)

record Lists (ts : List Token) (ss : Shapes) : Type 0 where
  round : (rest : List Class) → (g : ℕ) × (listed g closes (classes ts ++ Closes ∷ rest) ≡ got ss rest)
  square : (rest : List Class) → (g : ℕ) × (listed g closes_square (classes ts ++ ClosesSquare ∷ rest) ≡ got ss rest)

value : {k : ℕ} {ts : List Token} {s : Shape} → Moves k ts s → (k ≡ 5 → ⊥) → (rest : List Class) → Stops k rest → (g : ℕ) × (read g k (classes ts ++ rest) ≡ got s rest)
value {k} {ts} {s} m n rest st =
    elim m.firm [
      | inl le ↦ m.moves k (omega arith) rest (stops_up k m.edge rest le st) 1 (record { value = s; rest = rest }) (loop_stops k s rest st)
      | inr e ↦ absurd (n e)
    ]

parts_listed : (ts : List Token) (ss : Shapes) → Starts (classes ts) → Runs ts ss → Lists ts ss
parts_listed ts ss st p = record {
  round = λ rest.
      let q = p.runs (Closes ∷ rest) (omega arith) in
      (suc q.0, skip_close (classes ts) (Closes ∷ rest) _ _ st ∙ chain (items q.0 (classes ts ++ Closes ∷ rest)) (λ xs us. past closes us (λ vs. got xs vs)) ss (Closes ∷ rest) _ q.1 refl);
  square = λ rest.
      let q = p.runs (ClosesSquare ∷ rest) (omega arith) in
      (suc q.0, skip_square (classes ts) (ClosesSquare ∷ rest) _ _ st ∙ chain (items q.0 (classes ts ++ ClosesSquare ∷ rest)) (λ xs us. past closes_square us (λ vs. got xs vs)) ss (ClosesSquare ∷ rest) _ q.1 refl);
}

-- a row that ends with its own last token
closed : {k : ℕ} {ts : List Token} {s : Shape} → k ≤ 23 → ((j : ℕ) → j ≤ k → (rest : List Class) → (f : ℕ) (r : Got Shape) → loop f j s rest ≡ Some r → (g : ℕ) × (read g j (classes ts ++ rest) ≡ Some r)) → Moves k ts s
closed h go = record { edge = 24; firm = inl (omega arith); strict = λ a b. omega arith; wide = λ a. omega arith; moves = λ j le rest st f r e. go j le rest f r e }

-- a row that ends with a part at level e
ends : {k : ℕ} {ts : List Token} {s : Shape} (e : ℕ) → k ≤ e → (6 ≤ k → k ≤ 16 → suc k ≤ e) → k ≤ 18 → ((j : ℕ) → j ≤ k → (rest : List Class) → Stops e rest → (f : ℕ) (r : Got Shape) → loop f j s rest ≡ Some r → (g : ℕ) × (read g j (classes ts ++ rest) ≡ Some r)) → Moves k ts s
ends e h h' h'' go = record { edge = e; firm = inl h; strict = h'; wide = λ a. let no : ⊥ = omega arith in absurd no; moves = go }

-- a part read after the head of a row
after : (k : ℕ) (w : List Class) (y : Shape) (rest : List Class) (g f j : ℕ) (z : Shape) (r : Got Shape) → read g k w ≡ got y rest → loop f j z rest ≡ Some r → (go : Shape → List Class → Option (Got Shape)) → (go y rest ≡ loop (f + g) j z rest) → bind (read (f + g) k w) go ≡ Some r
after k w y rest g f j z r e h go same = chain (read (f + g) k w) go y rest r (read_more (f + g) g k w _ (omega arith) e) (same ∙ loop_more (f + g) f j z rest r (omega arith) h)

mutual
  transfer : {k : ℕ} {ts : List Token} {s : Shape} → Derives k ts s → Moves k ts s
  transfer (operand {o = o} h u) = closed h (λ j le rest f r e. (suc f, ap (λ c. read (suc f) j (c ∷ rest)) (operand_class o u) ∙ e))
  transfer (parentheses {ts = us} {s = s} h d) =
      let t = transfer d in
      closed h (λ j le rest f r e.
      let v = value t (λ x. let no : ⊥ = omega (arith, x) in no) (Closes ∷ rest) (omega arith) in (
        suc (f + v.0),
        ap (λ ws. read (suc (f + v.0)) j (Opens ∷ ws)) (spread us CLOSE [] rest)
            ∙ chain (read (f + v.0) 1 (classes us ++ Closes ∷ rest)) (λ x vs. past closes vs (λ ws. loop (f + v.0) j x ws)) s (Closes ∷ rest) r (read_more _ v.0 1 _ _ (omega arith) v.1) (loop_more _ f j s rest r (omega arith) e),
      ))
  transfer (array {ts = us} {ss = ss} h p) =
      let q = listed_moves p in
      closed h (λ j le rest f r e.
      let v = q.square rest in (
        suc (f + v.0),
        ap (λ ws. read (suc (f + v.0)) j (OpensSquare ∷ ws)) (spread us CLOSE_SQUARE [] rest)
            ∙ chain (listed (f + v.0) closes_square (classes us ++ ClosesSquare ∷ rest)) (λ xs vs. loop (f + v.0) j (Array xs) vs) ss rest r (listed_more _ v.0 closes_square _ _ (omega arith) v.1) (loop_more _ f j (Array ss) rest r (omega arith) e),
      ))
  transfer (new {ts = ts} {us = us} {s = s} {ss = ss} h d p) =
      let t = transfer d in
      let q = listed_moves p in
      closed (omega arith) (λ j le rest f r e.
      let v = value t (λ x. let no : ⊥ = omega (arith, x) in no) (Opens ∷ (classes us ++ Closes ∷ rest)) (omega arith) in
      let w = q.round rest in
      let m = f + v.0 + w.0 in (
        suc m,
        ap (λ c. read (suc m) j (c ∷ (classes (ts ++ OPEN ∷ (us ++ CLOSE ∷ [])) ++ rest))) new_class
            ∙ ap (λ ws. read (suc m) j (News ∷ ws)) (seam ts OPEN us CLOSE rest)
            ∙ chain (read m 22 (classes ts ++ Opens ∷ (classes us ++ Closes ∷ rest))) (λ x vs. past opens vs (λ ws. bind (listed m closes ws) (λ xs zs. loop m j (New x xs) zs))) s (Opens ∷ (classes us ++ Closes ∷ rest)) r (read_more m v.0 22 _ _ (omega arith) v.1)
            (chain (listed m closes (classes us ++ Closes ∷ rest)) (λ xs zs. loop m j (New s xs) zs) ss rest r (listed_more m w.0 closes _ _ (omega arith) w.1) (loop_more m f j (New s ss) rest r (omega arith) e)),
      ))
  transfer (member {ts = ts} {s = s} {w = n} h l l' d) =
      let t = transfer d in
      closed (omega arith) (λ j le rest f r e.
      let step = takes j 22 _ _ (omega arith) ∙ ap (λ x. loop f j (Member s x) rest) (text_of_word n) ∙ e in
      let v = t.moves j (omega arith) (Dots ∷ class_of (Word n) ∷ rest) (omega (arith, t.wide (omega arith))) (suc f) r step in
      (v.0, ap (λ ws. read v.0 j ws) (spread ts DOT (Word n ∷ []) rest) ∙ v.1))
  transfer (index {ts = ts} {us = us} {s = s} {x = x} h l l' d i) =
      let t = transfer d in
      let t2 = transfer i in
      closed (omega arith) (λ j le rest f r e.
      let w = value t2 (λ y. let no : ⊥ = omega (arith, y) in no) (ClosesSquare ∷ rest) (omega arith) in
      let m = f + w.0 in
      let step = takes j 22 _ _ (omega arith) ∙ chain (read m 1 (classes us ++ ClosesSquare ∷ rest)) (λ y vs. past closes_square vs (λ zs. loop m j (Index s y) zs)) x (ClosesSquare ∷ rest) r (read_more m w.0 1 _ _ (omega arith) w.1) (loop_more m f j (Index s x) rest r (omega arith) e) in
      let v = t.moves j (omega arith) (OpensSquare ∷ (classes us ++ ClosesSquare ∷ rest)) (omega (arith, t.wide (omega arith))) (suc m) r step in
      (v.0, ap (λ ws. read v.0 j ws) (seam ts OPEN_SQUARE us CLOSE_SQUARE rest) ∙ v.1))
  transfer (call {ts = ts} {us = us} {s = s} {ss = ss} h d p) =
      let t = transfer d in
      let q = listed_moves p in
      closed (omega arith) (λ j le rest f r e.
      let w = q.round rest in
      let m = f + w.0 in
      let step = takes j 21 _ _ (omega arith) ∙ chain (listed m closes (classes us ++ Closes ∷ rest)) (λ xs zs. loop m j (Call s xs) zs) ss rest r (listed_more m w.0 closes _ _ (omega arith) w.1) (loop_more m f j (Call s ss) rest r (omega arith) e) in
      let v = t.moves j (omega arith) (Opens ∷ (classes us ++ Closes ∷ rest)) (omega (arith, t.wide (omega arith))) (suc m) r step in
      (v.0, ap (λ ws. read v.0 j ws) (seam ts OPEN us CLOSE rest) ∙ v.1))
  transfer (postfix {o = o} {ts = ts} {s = s} h d g) =
      let t = transfer d in
      let n : goes_on (class_of (update_token o)) ≡ 19 = ap goes_on (update_class o) in
      closed (omega arith) (λ j le rest f r e.
      let step = ap (λ c. loop (suc f) j s (c ∷ rest)) (update_class o) ∙ takes j 19 _ _ (omega arith) ∙ e in
      let v = t.moves j (omega arith) (class_of (update_token o) ∷ rest) (omega (arith, n, t.wide (omega arith))) (suc f) r step in
      (v.0, ap (λ ws. read v.0 j ws) (spread ts (update_token o) [] rest) ∙ v.1))
  transfer (prefix {o = o} {ts = ts} {s = s} h d g) =
      let t = transfer d in
      ends 18 h (λ a b. omega arith) h (λ j le rest st f r e.
      let v = value t (λ x. let no : ⊥ = omega (arith, x) in no) rest st in (
        suc (f + v.0),
        ap (λ c. read (suc (f + v.0)) j (c ∷ (classes ts ++ rest))) (update_class o)
            ∙ after 18 (classes ts ++ rest) s rest v.0 f j (Prefix o s) r v.1 e (λ x us. loop (f + v.0) j (Prefix o x) us) refl,
      ))
  transfer (unary {o = o} {ts = ts} {s = s} h d) =
      let t = transfer d in
      ends 18 h (λ a b. omega arith) h (λ j le rest st f r e.
      let v = value t (λ x. let no : ⊥ = omega (arith, x) in no) rest st in (
        suc (f + v.0),
        read_unary o (f + v.0) j (classes ts ++ rest)
            ∙ after 18 (classes ts ++ rest) s rest v.0 f j (Unary o s) r v.1 e (λ x us. loop (f + v.0) j (Unary o x) us) refl,
      ))
  transfer (power {a = a} {b = b} {x = x} {y = y} h d d2) =
      let t = transfer d in
      let t2 = transfer d2 in
      let n : goes_on (class_of (infix_token EXPONENTIAL)) ≡ 17 = infix_goes_on EXPONENTIAL in
      ends 17 h (λ k l. omega arith) (omega arith) (λ j le rest st f r e.
      let w = value t2 (λ z. let no : ⊥ = omega (arith, z) in no) rest st in
      let m = f + w.0 in
      let step = loop_infix EXPONENTIAL m j x (classes b ++ rest) (omega arith) ∙ after 17 (classes b ++ rest) y rest w.0 f j (Infix EXPONENTIAL x y) r w.1 e (λ z us. loop m j (Infix EXPONENTIAL x z) us) refl in
      let v = t.moves j (omega arith) (class_of (infix_token EXPONENTIAL) ∷ (classes b ++ rest)) (omega (arith, n, t.wide (omega arith))) (suc m) r step in
      (v.0, ap (λ ws. read v.0 j ws) (spread a (infix_token EXPONENTIAL) b rest) ∙ v.1))
  transfer (between {o = o} {a = a} {b = b} {x = x} {y = y} is h d d2) =
      let t = transfer d in
      let t2 = transfer d2 in
      let range = left_range o is in
      let right : right_level o ≡ suc (infix_level o) = (part_levels o x is).1 in
      let n = infix_goes_on o in
      ends (suc (infix_level o)) (omega arith) (λ k l. omega arith) (omega (arith, range.1)) (λ j le rest st f r e.
      let w = value t2 (λ z. let no : ⊥ = omega (arith, z, range.0) in no) rest st in
      let m = f + w.0 in
      let step = loop_infix o m j x (classes b ++ rest) (omega arith) ∙ after (right_level o) (classes b ++ rest) y rest w.0 f j (Infix o x y) r (ap (λ l. read w.0 l (classes b ++ rest)) right ∙ w.1) e (λ z us. loop m j (Infix o x z) us) refl in
      let v = t.moves j (omega arith) (class_of (infix_token o) ∷ (classes b ++ rest)) (omega (arith, n, t.strict (omega (arith, range.0)) range.1)) (suc m) r step in
      (v.0, ap (λ ws. read v.0 j ws) (spread a (infix_token o) b rest) ∙ v.1))
  transfer (coalescing h c) =
      let t = row_moves c in
      ends 9 (omega arith) (λ k l. omega arith) (omega arith) (λ j le rest st f r e. t.moves j (omega arith) rest st f r e)
  transfer (conditional {k = k0} {a = a} {b = b} {c = c} {x = x} {y = y} {z = z} h d d2 d3) =
      let t = transfer d in
      let t2 = transfer d2 in
      let t3 = transfer d3 in
      record {
        edge = 4;
        firm = elim (cases_lt 4 k0) [ inl l ↦ inr (omega arith) | inr l ↦ inl (omega arith) ];
        strict = λ k l. let no : ⊥ = omega arith in absurd no;
        wide = λ k. let no : ⊥ = omega arith in absurd no;
        moves = λ j le rest st f r e.
            let w = value t2 (λ q. let no : ⊥ = omega (arith, q) in no) (Colons ∷ (classes c ++ rest)) (omega arith) in
            let w3 = value t3 (λ q. let no : ⊥ = omega (arith, q) in no) rest st in
            let m = f + w.0 + w3.0 in
            let step = takes j 5 _ _ (omega arith)
            ∙ chain (read m 4 (classes b ++ Colons ∷ (classes c ++ rest))) (λ q us. past is_colon us (λ vs. bind (read m 4 vs) (λ p ws. loop m j (Conditional x q p) ws))) y (Colons ∷ (classes c ++ rest)) r (read_more m w.0 4 _ _ (omega arith) w.1)
            (chain (read m 4 (classes c ++ rest)) (λ p ws. loop m j (Conditional x y p) ws) z rest r (read_more m w3.0 4 _ _ (omega arith) w3.1) (loop_more m f j (Conditional x y z) rest r (omega arith) e)) in
            let fm : 6 ≤ t.edge = elim t.firm [ inl q ↦ q | inr q ↦ let no : ⊥ = omega (arith, q) in absurd no ] in
            let v = t.moves j (omega arith) (Asks ∷ (classes b ++ Colons ∷ (classes c ++ rest))) (omega (arith, fm)) (suc m) r step in
            (v.0, ap (λ ws. read v.0 j ws) (spread a QUESTION (b ++ COLON ∷ c) rest ∙ ap (λ ws. classes a ++ Asks ∷ ws) (spread b COLON c rest)) ∙ v.1);
      }
  transfer (assignment {o = o} {a = a} {b = b} {x = x} {y = y} h d g d2) =
      let t = transfer d in
      let t2 = transfer d2 in
      let n : goes_on (class_of (assign_token o)) ≡ 4 = ap goes_on (assign_class o) in
      ends 4 h (λ k l. let no : ⊥ = omega arith in absurd no) (omega arith) (λ j le rest st f r e.
      let w = value t2 (λ z. let no : ⊥ = omega (arith, z) in no) rest st in
      let m = f + w.0 in
      let step = ap (λ c. loop (suc m) j x (c ∷ (classes b ++ rest))) (assign_class o) ∙ takes j 4 _ _ (omega arith) ∙ after 4 (classes b ++ rest) y rest w.0 f j (Assign o x y) r w.1 e (λ z us. loop m j (Assign o x z) us) refl in
      let v = t.moves j (omega arith) (class_of (assign_token o) ∷ (classes b ++ rest)) (omega (arith, n, t.wide (omega arith))) (suc m) r step in
      (v.0, ap (λ ws. read v.0 j ws) (spread a (assign_token o) b rest) ∙ v.1))
  transfer (sequence {a = a} {b = b} {x = x} {ss = ss} h d p) =
      let t = transfer d in
      let q = parts_moves p in
      ends 1 h (λ k l. let no : ⊥ = omega arith in absurd no) (omega arith) (λ j le rest st f r e.
      let w = q.runs rest st in
      let m = f + w.0 in
      let fm : 4 ≤ t.edge = elim t.firm [ inl z ↦ z | inr z ↦ let no : ⊥ = omega (arith, z) in absurd no ] in
      let step = takes j 1 _ _ (omega arith) ∙ chain (items m (classes b ++ rest)) (λ xs us. loop m j (Sequence x xs) us) ss rest r (items_more m w.0 _ _ (omega arith) w.1) (loop_more m f j (Sequence x ss) rest r (omega arith) e) in
      let v = t.moves j (omega arith) (Commas ∷ (classes b ++ rest)) (omega (arith, fm)) (suc m) r step in
      (v.0, ap (λ ws. read v.0 j ws) (spread a COMMA b rest) ∙ v.1))

  row_moves : {ts : List Token} {s : Shape} → Coalesces ts s → RowMoves ts s
  row_moves (first {a = a} {b = b} {x = x} {y = y} d d2) =
      let t = transfer d in
      let t2 = transfer d2 in
      let n : goes_on (class_of (infix_token COALESCE)) ≡ 6 = infix_goes_on COALESCE in
      record {
        moves = λ j le rest st f r e.
            let w = value t2 (λ z. let no : ⊥ = omega (arith, z) in no) rest st in
            let m = f + w.0 in
            let step = loop_infix COALESCE m j x (classes b ++ rest) le ∙ after 9 (classes b ++ rest) y rest w.0 f j (Infix COALESCE x y) r w.1 e (λ z us. loop m j (Infix COALESCE x z) us) refl in
            let fm : 9 ≤ t.edge = elim t.firm [ inl z ↦ z | inr z ↦ let no : ⊥ = omega (arith, z) in absurd no ] in
            let v = t.moves j (omega arith) (class_of (infix_token COALESCE) ∷ (classes b ++ rest)) (omega (arith, n, fm)) (suc m) r step in
            (v.0, ap (λ ws. read v.0 j ws) (spread a (infix_token COALESCE) b rest) ∙ v.1);
      }
  row_moves (next {a = a} {b = b} {x = x} {y = y} c d2) =
      let t = row_moves c in
      let t2 = transfer d2 in
      let n : goes_on (class_of (infix_token COALESCE)) ≡ 6 = infix_goes_on COALESCE in
      record {
        moves = λ j le rest st f r e.
            let w = value t2 (λ z. let no : ⊥ = omega (arith, z) in no) rest st in
            let m = f + w.0 in
            let step = loop_infix COALESCE m j x (classes b ++ rest) le ∙ after 9 (classes b ++ rest) y rest w.0 f j (Infix COALESCE x y) r w.1 e (λ z us. loop m j (Infix COALESCE x z) us) refl in
            let v = t.moves j (omega arith) (class_of (infix_token COALESCE) ∷ (classes b ++ rest)) (omega (arith, n)) (suc m) r step in
            (v.0, ap (λ ws. read v.0 j ws) (spread a (infix_token COALESCE) b rest) ∙ v.1);
      }

  parts_moves : {ts : List Token} {ss : Shapes} → Parts ts ss → Runs ts ss
  parts_moves (last {a = a} {x = x} d) =
      let t = transfer d in
      record {
        runs = λ rest st.
            let v = value t (λ z. let no : ⊥ = omega (arith, z) in no) rest (stops_up 1 4 rest (omega arith) st) in
            (suc v.0, chain (read v.0 4 (classes a ++ rest)) (λ s us. branch is_comma us (λ vs. bind (items v.0 vs) (λ ss ws. got (also s ss) ws)) (got (also s none) us)) x rest _ v.1 (no_comma rest _ _ st));
      }
  parts_moves (more {a = a} {b = b} {x = x} {ss = ss} d p) =
      let t = transfer d in
      let q = parts_moves p in
      record {
        runs = λ rest st.
            let v = value t (λ z. let no : ⊥ = omega (arith, z) in no) (Commas ∷ (classes b ++ rest)) (omega arith) in
            let w = q.runs rest st in
            let m = v.0 + w.0 in (
              suc m,
              ap (λ ws. items (suc m) ws) (spread a COMMA b rest)
                  ∙ chain (read m 4 (classes a ++ Commas ∷ (classes b ++ rest))) (λ s us. branch is_comma us (λ vs. bind (items m vs) (λ xs ws. got (also s xs) ws)) (got (also s none) us)) x (Commas ∷ (classes b ++ rest)) _ (read_more m v.0 4 _ _ (omega arith) v.1)
                  (chain (items m (classes b ++ rest)) (λ xs ws. got (also x xs) ws) ss rest _ (items_more m w.0 _ _ (omega arith) w.1) refl),
            );
      }

  listed_moves : {ts : List Token} {ss : Shapes} → Listed ts ss → Lists ts ss
  listed_moves nothing = record { round = λ rest. (1, refl); square = λ rest. (1, refl) }
  listed_moves (some {ts = ts} {ss = ss} p) = parts_listed ts ss (parts_start p) (parts_moves p)

abbrev shape_or : Shape → Option (Got Shape) → Shape
shape_or s None = s
shape_or s (Some r) = r.value

pub one_shape : TokensDeriveOneShape
one_shape ts x y dx dy =
    let vx = value (transfer dx) (λ z. let no : ⊥ = omega (arith, z) in no) [] tt in
    let vy = value (transfer dy) (λ z. let no : ⊥ = omega (arith, z) in no) [] tt in
    let m = vx.0 + vy.0 in
    let ex = read_more m vx.0 1 (classes ts ++ []) _ (omega arith) vx.1 in
    let ey = read_more m vy.0 1 (classes ts ++ []) _ (omega arith) vy.1 in
    ap (λ o. shape_or x o) (sym ex ∙ ey)
