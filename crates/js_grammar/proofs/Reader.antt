-- Reading an expression from the front of the classes of tokens, with one looked at ahead. The first number bounds how deep the calls go. It takes more than the grammar does, which does no harm.
use Rattle.std.proofs.Common.{◌≡◌, ℕ, zero, suc, ◌<◌, ◌≤◌, List, [], ◌∷◌, Option, Some, None, refl, ap, ◌∙◌, subst, arith, Bool, true, false, inl, inr, if◌then◌else◌}
use Rattle.std.proofs.lemmas.Bool.{cases_lt, le-leb}
use Rattle.std.proofs.lemmas.Bool.Decides.{leb_tells}
use Rattle.std.specs.Prelude.{nat_le}
use Rattle.syntax_lex.specs.declared.operator.unary.UnaryOperator.{UnaryOperator}
use Rattle.js_grammar.specs.Printed.{right_level}
use Rattle.js_grammar.specs.Shapes.{Array, Assign, Call, Conditional, Index, Infix, Member, New, One, Operator, Postfix, Prefix, Sequence, Shape, Shapes, Unary, also, infix_level, none}
use Rattle.js_grammar.specs.Tokens.{infix_token, unary_token}
use Rattle.js_grammar.proofs.Classes.{Alone, Asks, Assigns, Class, Closes, ClosesSquare, Colons, Commas, Dots, Infixes, News, Opens, OpensSquare, Signs, Unaries, Updates, class_of, goes_on, infix_class, text_of_class, unary_class}

pub record Got (A : Type 0) : Type 0 where
  pub value : A
  pub rest : List Class

abbrev pub got : {A : Type 0} → A → List Class → Option (Got A)
got x ts = Some (record { value = x; rest = ts })

abbrev pub bind : {A B : Type 0} → Option (Got A) → (A → List Class → Option (Got B)) → Option (Got B)
bind None go = None
bind (Some r) go = go r.value r.rest

-- past a token that passes the test
abbrev pub past : {B : Type 0} → (Class → Bool) → List Class → (List Class → Option (Got B)) → Option (Got B)
past p [] go = None
past p (t ∷ ts) go = if p t then go ts else None

-- past it, if it is there
abbrev pub branch : {B : Type 0} → (Class → Bool) → List Class → (List Class → Option (Got B)) → Option (Got B) → Option (Got B)
branch p [] go o = o
branch p (t ∷ ts) go o = if p t then go ts else o

abbrev pub opens : Class → Bool
opens Opens = true
opens _ = false

abbrev pub closes : Class → Bool
closes Closes = true
closes _ = false

abbrev pub closes_square : Class → Bool
closes_square ClosesSquare = true
closes_square _ = false

abbrev pub is_colon : Class → Bool
is_colon Colons = true
is_colon _ = false

abbrev pub is_comma : Class → Bool
is_comma Commas = true
is_comma _ = false

abbrev mutual
  -- an expression at a level
  pub read : ℕ → ℕ → List Class → Option (Got Shape)
  read zero k ts = None
  read (suc f) k [] = None
  read (suc f) k (Alone o ∷ ts) = loop f k (One o) ts
  read (suc f) k (Opens ∷ ts) = bind (read f 1 ts) (λ s us. past closes us (λ vs. loop f k s vs))
  read (suc f) k (OpensSquare ∷ ts) = bind (listed f closes_square ts) (λ ss us. loop f k (Array ss) us)
  read (suc f) k (News ∷ ts) = bind (read f 22 ts) (λ s us. past opens us (λ vs. bind (listed f closes vs) (λ ss ws. loop f k (New s ss) ws)))
  read (suc f) k (Unaries o ∷ ts) = bind (read f 18 ts) (λ s us. loop f k (Unary o s) us)
  read (suc f) k (Signs o i ∷ ts) = bind (read f 18 ts) (λ s us. loop f k (Unary o s) us)
  read (suc f) k (Updates o ∷ ts) = bind (read f 18 ts) (λ s us. loop f k (Prefix o s) us)
  read (suc f) k (t ∷ ts) = None

  -- what goes on with an expression at a level
  pub loop : ℕ → ℕ → Shape → List Class → Option (Got Shape)
  loop zero k s ts = None
  loop (suc f) k s (Dots ∷ t ∷ ts) = if nat_le k 22 then loop f k (Member s (text_of_class t)) ts else got s (Dots ∷ t ∷ ts)
  loop (suc f) k s (OpensSquare ∷ ts) = if nat_le k 22 then bind (read f 1 ts) (λ x us. past closes_square us (λ vs. loop f k (Index s x) vs)) else got s (OpensSquare ∷ ts)
  loop (suc f) k s (Opens ∷ ts) = if nat_le k 21 then bind (listed f closes ts) (λ ss us. loop f k (Call s ss) us) else got s (Opens ∷ ts)
  loop (suc f) k s (Updates o ∷ ts) = if nat_le k 19 then loop f k (Postfix o s) ts else got s (Updates o ∷ ts)
  loop (suc f) k s (Infixes o ∷ ts) = if nat_le k (infix_level o) then bind (read f (right_level o) ts) (λ y us. loop f k (Infix o s y) us) else got s (Infixes o ∷ ts)
  loop (suc f) k s (Signs u o ∷ ts) = if nat_le k (infix_level o) then bind (read f (right_level o) ts) (λ y us. loop f k (Infix o s y) us) else got s (Signs u o ∷ ts)
  loop (suc f) k s (Asks ∷ ts) = if nat_le k 5 then bind (read f 4 ts) (λ y us. past is_colon us (λ vs. bind (read f 4 vs) (λ z ws. loop f k (Conditional s y z) ws))) else got s (Asks ∷ ts)
  loop (suc f) k s (Assigns o ∷ ts) = if nat_le k 4 then bind (read f 4 ts) (λ y us. loop f k (Assign o s y) us) else got s (Assigns o ∷ ts)
  loop (suc f) k s (Commas ∷ ts) = if nat_le k 1 then bind (items f ts) (λ ss us. loop f k (Sequence s ss) us) else got s (Commas ∷ ts)
  loop (suc f) k s ts = got s ts

  -- expressions with commas between them
  pub items : ℕ → List Class → Option (Got Shapes)
  items zero ts = None
  items (suc f) ts = bind (read f 4 ts) (λ s us. branch is_comma us (λ vs. bind (items f vs) (λ ss ws. got (also s ss) ws)) (got (also s none) us))

  -- any number of them, and what closes them
  pub listed : ℕ → (Class → Bool) → List Class → Option (Got Shapes)
  listed zero p ts = None
  listed (suc f) p ts = branch p ts (λ vs. got none vs) (bind (items f ts) (λ ss us. past p us (λ vs. got ss vs)))

-- ---- a greater bound keeps an answer

none_some : {A : Type 0} (x : A) → None ≡ Some x → ⊥
none_some x e = absurd (cc)

-- the second answers what the first does, where it answers
abbrev Up : {A : Type 0} → Option A → Option A → Type 0
Up {A} o o' = (r : A) → o ≡ Some r → o' ≡ Some r

up_none : {A : Type 0} (o : Option A) → Up None o
up_none o r e = absurd (none_some r e)

up_bind : {A B : Type 0} (o o' : Option (Got A)) (go go' : A → List Class → Option (Got B)) → Up o o' → ((x : A) (us : List Class) → Up (go x us) (go' x us)) → Up (bind o go) (bind o' go')
up_bind None o' go go' h g r e = absurd (none_some r e)
up_bind (Some q) o' go go' h g r e = ap (λ o. bind o go') (h q refl) ∙ g q.value q.rest r e

up_if : {A : Type 0} (b : Bool) (o o' x : Option A) → Up o o' → Up (if b then o else x) (if b then o' else x)
up_if true o o' x h r e = h r e
up_if false o o' x h r e = e

up_either : {A : Type 0} (b : Bool) (o o' x x' : Option A) → Up o o' → Up x x' → Up (if b then o else x) (if b then o' else x')
up_either true o o' x x' h g r e = h r e
up_either false o o' x x' h g r e = g r e

up_past : {B : Type 0} (p : Class → Bool) (ts : List Class) (go go' : List Class → Option (Got B)) → ((us : List Class) → Up (go us) (go' us)) → Up (past p ts go) (past p ts go')
up_past p [] go go' h r e = e
up_past p (t ∷ ts) go go' h r e = up_if (p t) (go ts) (go' ts) None (h ts) r e

up_branch : {B : Type 0} (p : Class → Bool) (ts : List Class) (go go' : List Class → Option (Got B)) (o o' : Option (Got B)) → ((us : List Class) → Up (go us) (go' us)) → Up o o' → Up (branch p ts go o) (branch p ts go' o')
up_branch p [] go go' o o' h g r e = g r e
up_branch p (t ∷ ts) go go' o o' h g r e = up_either (p t) (go ts) (go' ts) o o' (h ts) g r e

mutual
  read_up : (f k : ℕ) (ts : List Class) → Up (read f k ts) (read (suc f) k ts)
  read_up zero k ts = up_none _
  read_up (suc f) k [] = up_none _
  read_up (suc f) k (Alone o ∷ ts) = loop_up f k (One o) ts
  read_up (suc f) k (Opens ∷ ts) = up_bind _ _ _ _ (read_up f 1 ts) (λ s us. up_past closes us _ _ (λ vs. loop_up f k s vs))
  read_up (suc f) k (OpensSquare ∷ ts) = up_bind _ _ _ _ (listed_up f closes_square ts) (λ ss us. loop_up f k (Array ss) us)
  read_up (suc f) k (News ∷ ts) = up_bind _ _ _ _ (read_up f 22 ts) (λ s us. up_past opens us _ _ (λ vs. up_bind _ _ _ _ (listed_up f closes vs) (λ ss ws. loop_up f k (New s ss) ws)))
  read_up (suc f) k (Unaries o ∷ ts) = up_bind _ _ _ _ (read_up f 18 ts) (λ s us. loop_up f k (Unary o s) us)
  read_up (suc f) k (Signs o i ∷ ts) = up_bind _ _ _ _ (read_up f 18 ts) (λ s us. loop_up f k (Unary o s) us)
  read_up (suc f) k (Updates o ∷ ts) = up_bind _ _ _ _ (read_up f 18 ts) (λ s us. loop_up f k (Prefix o s) us)
  read_up (suc f) k (_ ∷ ts) = up_none _

  loop_up : (f k : ℕ) (s : Shape) (ts : List Class) → Up (loop f k s ts) (loop (suc f) k s ts)
  loop_up zero k s ts = up_none _
  loop_up (suc f) k s (Dots ∷ t ∷ ts) = up_if (nat_le k 22) _ _ _ (loop_up f k (Member s (text_of_class t)) ts)
  loop_up (suc f) k s (OpensSquare ∷ ts) = up_if (nat_le k 22) _ _ _ (up_bind _ _ _ _ (read_up f 1 ts) (λ x us. up_past closes_square us _ _ (λ vs. loop_up f k (Index s x) vs)))
  loop_up (suc f) k s (Opens ∷ ts) = up_if (nat_le k 21) _ _ _ (up_bind _ _ _ _ (listed_up f closes ts) (λ ss us. loop_up f k (Call s ss) us))
  loop_up (suc f) k s (Updates o ∷ ts) = up_if (nat_le k 19) _ _ _ (loop_up f k (Postfix o s) ts)
  loop_up (suc f) k s (Infixes o ∷ ts) = up_if (nat_le k (infix_level o)) _ _ _ (up_bind _ _ _ _ (read_up f (right_level o) ts) (λ y us. loop_up f k (Infix o s y) us))
  loop_up (suc f) k s (Signs u o ∷ ts) = up_if (nat_le k (infix_level o)) _ _ _ (up_bind _ _ _ _ (read_up f (right_level o) ts) (λ y us. loop_up f k (Infix o s y) us))
  loop_up (suc f) k s (Asks ∷ ts) = up_if (nat_le k 5) _ _ _ (up_bind _ _ _ _ (read_up f 4 ts) (λ y us. up_past is_colon us _ _ (λ vs. up_bind _ _ _ _ (read_up f 4 vs) (λ z ws. loop_up f k (Conditional s y z) ws))))
  loop_up (suc f) k s (Assigns o ∷ ts) = up_if (nat_le k 4) _ _ _ (up_bind _ _ _ _ (read_up f 4 ts) (λ y us. loop_up f k (Assign o s y) us))
  loop_up (suc f) k s (Commas ∷ ts) = up_if (nat_le k 1) _ _ _ (up_bind _ _ _ _ (items_up f ts) (λ ss us. loop_up f k (Sequence s ss) us))
  loop_up (suc f) k s ts = λ r e. e

  items_up : (f : ℕ) (ts : List Class) → Up (items f ts) (items (suc f) ts)
  items_up zero ts = up_none _
  items_up (suc f) ts = up_bind _ _ _ _ (read_up f 4 ts) (λ s us. up_branch is_comma us _ _ _ _ (λ vs. up_bind _ _ _ _ (items_up f vs) (λ ss ws r e. e)) (λ r e. e))

  listed_up : (f : ℕ) (p : Class → Bool) (ts : List Class) → Up (listed f p ts) (listed (suc f) p ts)
  listed_up zero p ts = up_none _
  listed_up (suc f) p ts = up_branch p ts _ _ _ _ (λ vs r e. e) (up_bind _ _ _ _ (items_up f ts) (λ ss us. up_past p us _ _ (λ vs r e. e)))

-- by any number of steps
upto : {A : Type 0} (run : ℕ → Option A) → ((f : ℕ) → Up (run f) (run (suc f))) → (m f : ℕ) → f ≤ m → Up (run f) (run m)
upto run h zero f le r e = let z : f ≡ 0 = omega arith in subst (λ n. run n ≡ Some r) z e
upto run h (suc m) f le r e = elim (cases_lt f (suc m)) [ inl lt ↦ h m r (upto run h m f (omega arith) r e) | inr ge ↦ let z : f ≡ suc m = omega arith in subst (λ n. run n ≡ Some r) z e ]

pub read_more : (m g k : ℕ) (ts : List Class) (r : Got Shape) → g ≤ m → read g k ts ≡ Some r → read m k ts ≡ Some r
read_more m g k ts r le e = upto (λ n. read n k ts) (λ f. read_up f k ts) m g le r e

pub loop_more : (m g k : ℕ) (s : Shape) (ts : List Class) (r : Got Shape) → g ≤ m → loop g k s ts ≡ Some r → loop m k s ts ≡ Some r
loop_more m g k s ts r le e = upto (λ n. loop n k s ts) (λ f. loop_up f k s ts) m g le r e

pub items_more : (m g : ℕ) (ts : List Class) (r : Got Shapes) → g ≤ m → items g ts ≡ Some r → items m ts ≡ Some r
items_more m g ts r le e = upto (λ n. items n ts) (λ f. items_up f ts) m g le r e

pub listed_more : (m g : ℕ) (p : Class → Bool) (ts : List Class) (r : Got Shapes) → g ≤ m → listed g p ts ≡ Some r → listed m p ts ≡ Some r
listed_more m g p ts r le e = upto (λ n. listed n p ts) (λ f. listed_up f p ts) m g le r e

-- ---- steps

-- the first token doesn't go on at this level
abbrev pub Stops : ℕ → List Class → Type 0
Stops k [] = Unit {0}
Stops k (t ∷ ts) = goes_on t < k

pub stops_up : (e e' : ℕ) (ts : List Class) → e ≤ e' → Stops e ts → Stops e' ts
stops_up e e' [] le st = tt
stops_up e e' (t ∷ ts) le st = omega arith

halts : {A : Type 0} (k l : ℕ) (o x : Option A) → l < k → (if nat_le k l then o else x) ≡ x
halts k l o x lt = elim (leb_tells k l) [ inl t ↦ let no : ⊥ = omega (arith, t.1) in absurd no | inr t ↦ ap (λ b. if b then o else x) t.0 ]

pub takes : {A : Type 0} (k l : ℕ) (o x : Option A) → k ≤ l → (if nat_le k l then o else x) ≡ o
takes k l o x le = ap (λ b. if b then o else x) (le-leb k l le)

pub loop_stops : (k : ℕ) (s : Shape) (ts : List Class) → Stops k ts → loop 1 k s ts ≡ got s ts
loop_stops k s [] st = refl
loop_stops k s (Dots ∷ []) st = refl
loop_stops k s (Dots ∷ t ∷ ts) st = halts k 22 _ _ st
loop_stops k s (OpensSquare ∷ ts) st = halts k 22 _ _ st
loop_stops k s (Opens ∷ ts) st = halts k 21 _ _ st
loop_stops k s (Updates o ∷ ts) st = halts k 19 _ _ st
loop_stops k s (Infixes o ∷ ts) st = halts k (infix_level o) _ _ st
loop_stops k s (Signs u o ∷ ts) st = halts k (infix_level o) _ _ st
loop_stops k s (Asks ∷ ts) st = halts k 5 _ _ st
loop_stops k s (Assigns o ∷ ts) st = halts k 4 _ _ st
loop_stops k s (Commas ∷ ts) st = halts k 1 _ _ st
loop_stops k s (_ ∷ ts) st = refl

pub loop_infix : (o : Operator) (m j : ℕ) (x : Shape) (w : List Class) → j ≤ infix_level o → loop (suc m) j x (class_of (infix_token o) ∷ w) ≡ bind (read m (right_level o) w) (λ y us. loop m j (Infix o x y) us)
loop_infix o m j x w le =
    elim (infix_class o) [
      | inl e ↦ ap (λ c. loop (suc m) j x (c ∷ w)) e ∙ takes j (infix_level o) _ _ le
      | inr e ↦ ap (λ c. loop (suc m) j x (c ∷ w)) e.1 ∙ takes j (infix_level o) _ _ le
    ]

pub read_unary : (o : UnaryOperator) (m j : ℕ) (w : List Class) → read (suc m) j (class_of (unary_token o) ∷ w) ≡ bind (read m 18 w) (λ s us. loop m j (Unary o s) us)
read_unary o m j w =
    elim (unary_class o) [
      | inl e ↦ ap (λ c. read (suc m) j (c ∷ w)) e
      | inr e ↦ ap (λ c. read (suc m) j (c ∷ w)) e.1
    ]
