-- The text of a value reads as the value.
use Rattle.std.proofs.Common.{◌≡◌, ℕ, zero, suc, ◌<◌, ◌≤◌, ◌*◌, ℤ, pos, negsuc, List, [], ◌∷◌, ◌++◌, Bool, true, false, replicate, arith, sym, refl, subst, append_assoc, append-nil, inl, inr, ◌+◌, ◌-◌, ◌/◌, ◌%◌, ◌^◌, nat_lt}
use Rattle.std.proofs.lemmas.Bool.Decides.{nat_tests}
use Rattle.std.proofs.lemmas.Fmt.{decimal_digit, decimal_step_wide}
use Rattle.std.specs.Fmt.{decimal, signed_decimal}
use Rattle.json_text.specs.Json.{Json, null, truth, whole, other_number, string, list, object, Items, no_items, item, Members, no_members, member}
use Rattle.json_text.specs.Layout.{Layout, compact, pretty, deeper, new_line, space}
use Rattle.json_text.specs.Strings.{quoted_units}
use Rattle.json_text.specs.Text.{text_of, items_text, members_text, before, closing}
use Rattle.json_text.specs.Grammar.{ReadsValue, ReadsItems, ReadsMembers, IsSpace, IsBefore, IsWhole, Reads, IsInt, IsDigit, AreDigits, number_of}
use Rattle.json_text.specs.HasText.{HasText, ItemsHaveText, MembersHaveText, IsShortNumber, TextReadsAlone}
use Rattle.json_text.proofs.Once.{append_assoc_three, reads_once}
use Rattle.json_text.proofs.Pieces.{string_reads}

spaces : (n : ℕ) → IsSpace (replicate n 32)
spaces zero = tt
spaces (suc n) = (inl (inl refl), spaces n)

line_space : (l : Layout) → IsSpace (new_line l)
line_space compact = tt
line_space (pretty n) = (inr (inl refl), spaces (2 * n))

colon_space : (l : Layout) → IsSpace (space l)
colon_space compact = tt
colon_space (pretty n) = (inl (inl refl), tt)

closing_space : (b : Bool) (l : Layout) → IsSpace (closing b l)
closing_space true l = tt
closing_space false l = line_space l

before_reads : (b : Bool) (l : Layout) → IsBefore b (before b l)
before_reads true l = line_space l
before_reads false l = ([], new_line l, refl, tt, line_space l)

digits_more : (ds : List ℕ) (d : ℕ) → AreDigits ds → IsDigit d → AreDigits (ds ++ d ∷ [])
digits_more [] d p q = (q, tt)
digits_more (c ∷ cs) d p q = (p.0, digits_more cs d p.1 q)

int_more : (ds : List ℕ) (d : ℕ) → IsInt ds → 0 < number_of 0 ds → IsDigit d → IsInt (ds ++ d ∷ [])
int_more [] d p some q = absurd p
int_more (c ∷ []) d p some q = (omega arith, p.1, (q, tt))
int_more (c ∷ e ∷ cs) d p some q = (p.0, p.1, digits_more (e ∷ cs) d p.2 q)

number_more : (m : ℕ) (ds : List ℕ) (d : ℕ) → number_of m (ds ++ d ∷ []) ≡ number_of m ds * 10 + (d - 48)
number_more m [] d = refl
number_more m (c ∷ cs) d = number_more (m * 10 + (c - 48)) cs d

abbrev IsNumber : ℕ → List ℕ → Type 0
IsNumber n t = IsInt t × (number_of 0 t ≡ n)

decimal_number : (k n : ℕ) → n < k → n < 10 ^ 64 → IsNumber n (decimal n)
decimal_number zero n h g = absurd (omega arith)
decimal_number (suc k) n h g = by_test (nat_lt n 10) refl (λ m a b. decimal_number k m a b)
  where
    by_test : (b : Bool) → nat_lt n 10 ≡ b → ((m : ℕ) → m < k → m < 10 ^ 64 → IsNumber m (decimal m)) → IsNumber n (decimal n)
    by_test true e r = let l : n < 10 = grind (arith, nat_tests) in
        subst (IsNumber n) (sym (decimal_digit n l)) ((omega arith, omega arith), omega arith)
    by_test false e r =
        let l : 10 ≤ n = grind (arith, nat_tests) in
        let i = r (n / 10) (omega arith) (omega arith) in
        let some : 0 < number_of 0 (decimal (n / 10)) = omega (arith, i.1) in
        let d : IsDigit (48 + n % 10) = (omega arith, omega arith) in
        let e2 = number_more 0 (decimal (n / 10)) (48 + n % 10) in
        let e3 : number_of 0 (decimal (n / 10) ++ (48 + n % 10) ∷ []) ≡ n = omega (arith, e2, i.1) in
        subst (IsNumber n) (sym (decimal_step_wide n l g)) (int_more (decimal (n / 10)) (48 + n % 10) i.0 some d, e3)

whole_reads : (n : ℤ) → IsShortNumber n → IsWhole (signed_decimal n) n
whole_reads (pos n) h = let r = decimal_number (suc n) n (omega arith) h in (r.0, sym r.1)
whole_reads (negsuc n) h = let r = decimal_number (suc (suc n)) (suc n) (omega arith) h in (refl, r.0, sym r.1)

append_assoc_pairs : (w s c a b x : List ℕ) → (w ++ ((s ++ c) ++ (a ++ b))) ++ x ≡ w ++ (s ++ (c ++ (a ++ (b ++ x))))
append_assoc_pairs w s c a b x = simp append_assoc

mutual
  value_reads : (l : Layout) (v : Json) → HasText v → ReadsValue (text_of l v) v
  value_reads l null p = refl
  value_reads l (truth true) p = refl
  value_reads l (truth false) p = refl
  value_reads l (whole n) p = whole_reads n p
  value_reads l other_number p = absurd p
  value_reads l (string us) p = string_reads us p
  value_reads l (list xs) p = (items_text true l xs ++ 93 ∷ [], refl, items_read true l xs p)
  value_reads l (object ms) p = (members_text true l ms ++ 125 ∷ [], refl, members_read true l ms p)

  items_read : (b : Bool) (l : Layout) (xs : Items) → ItemsHaveText xs → ReadsItems b (items_text b l xs ++ 93 ∷ []) xs
  items_read b l no_items p = (closing b l, refl, closing_space b l)
  items_read b l (item x xs) p = (
    before b (deeper l),
    text_of (deeper l) x,
    items_text false l xs ++ 93 ∷ [],
    append_assoc_three (before b (deeper l)) (text_of (deeper l) x) (items_text false l xs) (93 ∷ []),
    before_reads b (deeper l),
    value_reads (deeper l) x p.0,
    items_read false l xs p.1,
  )

  members_read : (b : Bool) (l : Layout) (ms : Members) → MembersHaveText ms → ReadsMembers b (members_text b l ms ++ 125 ∷ []) ms
  members_read b l no_members p = (closing b l, refl, closing_space b l)
  members_read b l (member k x ms) p = (
    before b (deeper l),
    quoted_units k,
    58 ∷ space (deeper l),
    text_of (deeper l) x,
    members_text false l ms ++ 125 ∷ [],
    append_assoc_pairs (before b (deeper l)) (quoted_units k) (58 ∷ space (deeper l)) (text_of (deeper l) x) (members_text false l ms) (125 ∷ []),
    before_reads b (deeper l),
    string_reads k p.0,
    ([], space (deeper l), refl, tt, colon_space (deeper l)),
    value_reads (deeper l) x p.1,
    members_read false l ms p.2,
  )

text_reads : (l : Layout) (v : Json) → HasText v → Reads (text_of l v) v
text_reads l v p = ([], text_of l v, [], sym (append-nil (text_of l v)), tt, value_reads l v p, tt)

pub text_reads_alone : TextReadsAlone
text_reads_alone l v p = let r = text_reads l v p in (r, λ w s. reads_once (text_of l v) w v s r)
