-- The names that are given are identifier names.
use Rattle.std.specs.List.{AllByRecursion, list_all}
use Rattle.std.specs.Prelude.{◌≡◌, ◌⊎◌, ◌<◌, ℕ, zero, suc, ◌+◌, ◌/◌, ◌%◌, Bool, true, false, ◌&&◌, nat_lt, List, [], ◌∷◌, ◌++◌, map, codes, IsTrue, String, string_bytes}
use Rattle.std.proofs.Common.{refl, sym, ap, ◌∙◌, subst, arith, inl, inr, IsAscii}
use Rattle.std.proofs.lemmas.Bool.{agree_below_at}
use Rattle.std.proofs.lemmas.Str.{chars-IsAscii}
use Rattle.list_laws.proofs.Members.{In, contains_from_in, from_append, from_map}
use Rattle.name_rules.proofs.Bounds.{names_are_bounded}
use Rattle.name_rules.proofs.Identifiers.{short_names_are_identifiers}
use Rattle.name_rules.specs.GivenNames.{count_from, names_of_slots}
use Rattle.name_rules.specs.Options.{Options}
use Rattle.name_rules.specs.ShortNames.{candidate, digits_onto, readable_name, short}
use Rattle.syntax_lex.specs.Identifier.{are_identifier_characters, is_identifier_name, is_identifier_part}
use Rattle.tree_nodes.specs.Tree.{Parts, Text}

-- ---- readable names

digit_goes_on : (k : ℕ) → k < 10 → is_identifier_part (48 + k) ≡ true
digit_goes_on k h = agree_below_at (λ n. is_identifier_part (48 + n)) (λ n. true) 10 k refl h

below_ten : (n : ℕ) → nat_lt n 10 ≡ true → n < 10
below_ten n e = grind (arith, e)

digits_go_on : (fuel n : ℕ) (after : Text) → list_all is_identifier_part after ≡ true → list_all is_identifier_part (digits_onto fuel n after) ≡ true
unfolding digits_onto
digits_go_on zero n after h = h
digits_go_on (suc fuel) n after h = go (nat_lt n 10) refl (digits_go_on fuel (n / 10) ((48 + n % 10) ∷ after))
  where
    with_digit : (k : ℕ) → k < 10 → list_all is_identifier_part ((48 + k) ∷ after) ≡ true
    with_digit k l = ap (λ (b : Bool). b && list_all is_identifier_part after) (digit_goes_on k l) ∙ h

    go : (b : Bool) → nat_lt n 10 ≡ b → (list_all is_identifier_part ((48 + n % 10) ∷ after) ≡ true → list_all is_identifier_part (digits_onto fuel (n / 10) ((48 + n % 10) ∷ after)) ≡ true)
        → list_all is_identifier_part (elim b as (λ c. Text) [ true ↦ (48 + n) ∷ after | false ↦ digits_onto fuel (n / 10) ((48 + n % 10) ∷ after) ]) ≡ true
    go true e ih = with_digit n (below_ten n e)
    go false e ih = ih (with_digit (n % 10) (omega arith))

ascii_more : (c : ℕ) (cs : Text) → c < 128 → IsAscii cs → IsAscii (c ∷ cs)
ascii_more c cs h a zero = h
ascii_more c cs h a (suc i) = a i

digits_ascii : (fuel n : ℕ) (after : Text) → IsAscii after → IsAscii (digits_onto fuel n after)
unfolding digits_onto
digits_ascii zero n after a = a
digits_ascii (suc fuel) n after a = go (nat_lt n 10) refl (digits_ascii fuel (n / 10) ((48 + n % 10) ∷ after))
  where
    go : (b : Bool) → nat_lt n 10 ≡ b → (IsAscii ((48 + n % 10) ∷ after) → IsAscii (digits_onto fuel (n / 10) ((48 + n % 10) ∷ after)))
        → IsAscii (elim b as (λ c. Text) [ true ↦ (48 + n) ∷ after | false ↦ digits_onto fuel (n / 10) ((48 + n % 10) ∷ after) ])
    go true e ih = ascii_more (48 + n) after (let l : n < 10 = below_ten n e in omega (arith, l)) a
    go false e ih = ih (ascii_more (48 + n % 10) after (omega arith) a)

none_ascii : IsAscii []
none_ascii i = omega arith

slot_ascii : (cs : Text) → IsAscii cs → IsAscii (codes "slot_" ++ cs)
slot_ascii cs a =
    ascii_more 115 (108 ∷ 111 ∷ 116 ∷ 95 ∷ cs) (omega arith)
    (ascii_more 108 (111 ∷ 116 ∷ 95 ∷ cs) (omega arith)
    (ascii_more 111 (116 ∷ 95 ∷ cs) (omega arith)
    (ascii_more 116 (95 ∷ cs) (omega arith)
    (ascii_more 95 cs (omega arith) a))))

readable_identifier : (n : ℕ) → is_identifier_name (readable_name n) ≡ true
unfolding is_identifier_name readable_name
readable_identifier n =
    ap are_identifier_characters (chars-IsAscii (readable_name n) (slot_ascii (digits_onto (suc n) n []) (digits_ascii (suc n) n [] none_ascii)))
    ∙ digits_go_on (suc n) n [] refl

candidate_identifier : (readable : Bool) (n : ℕ) → is_identifier_name (candidate readable n) ≡ true
unfolding candidate
candidate_identifier true n = readable_identifier n
candidate_identifier false n = short_names_are_identifiers n

-- ---- all names that are given

given_identifier : (o : Options) (t : Parts) (limit : ℕ) (x : Text) → In x (names_of_slots o t ++ map short (count_from limit 0)) → is_identifier_name x ≡ true
given_identifier o t limit x i = go (from_append (names_of_slots o t) (map short (count_from limit 0)) x i)
  where
    go : In x (names_of_slots o t) ⊎ In x (map short (count_from limit 0)) → is_identifier_name x ≡ true
    go (inl j) = let n = names_are_bounded o t x (contains_from_in (names_of_slots o t) x j) in ap is_identifier_name n.1 ∙ candidate_identifier o.readable n.0
    go (inr j) = let n : (n : ℕ) × In n (count_from limit 0) × (short n ≡ x) = from_map short (count_from limit 0) x j in ap is_identifier_name (sym n.2) ∙ short_names_are_identifiers n.0

pub given_identifiers : {Z : Type 0} (o : Options) (t : Parts) (limit : ℕ) (given : List (String Z)) → map string_bytes given ≡ names_of_slots o t ++ map short (count_from limit 0)
    → AllByRecursion (λ s. IsTrue (is_identifier_name (string_bytes s))) given
given_identifiers {Z} o t limit given e = each given (λ x i. given_identifier o t limit x (subst (In x) e i))
  where
    each : (ss : List (String Z)) → ((x : Text) → In x (map string_bytes ss) → is_identifier_name x ≡ true) → AllByRecursion (λ s. IsTrue (is_identifier_name (string_bytes s))) ss
    each [] f = tt
    each (s ∷ ss) f = (f (string_bytes s) (inl refl), each ss (λ x i. f x (inr i)))
