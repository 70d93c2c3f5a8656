-- Identifier names by their characters.
use Rattle.std.proofs.Common.{◌≡◌, ℕ, Bool, true, false, not, ◌&&◌, ◌||◌, List, [], ◌∷◌, refl}
use Rattle.std.specs.List.{list_all, list_any}
use Rattle.syntax_lex.specs.Identifier.{are_identifier_characters, is_identifier_part, is_identifier_start, is_katakana_middle_dot, is_taken, is_taken_part}

-- the same four tests in another order
both_apart : (a b c d : Bool) → ((a && b) && (c && d)) ≡ ((a && c) && (b && d))
both_apart false b c d = refl
both_apart true false false d = refl
both_apart true false true d = refl
both_apart true true c d = refl

not_either : (a b : Bool) → (not a && not b) ≡ not (a || b)
not_either true b = refl
not_either false b = refl

-- all pass both tests where all pass each
all_pass_both : (p q : ℕ → Bool) (cs : List ℕ) → list_all (λ c. p c && q c) cs ≡ (list_all p cs && list_all q cs)
all_pass_both p q [] = refl
all_pass_both p q (c ∷ cs) = rw (all_pass_both p q cs) (both_apart (p c) (q c) (list_all p cs) (list_all q cs))

-- a start that is taken, and then parts that are, is an identifier name whose characters are taken
pub taken_characters : (patched : Bool) (c : ℕ) (cs : List ℕ)
    → ((is_identifier_start c && is_taken patched c) && list_all (is_taken_part patched) cs)
    ≡ (are_identifier_characters (c ∷ cs) && list_all (is_taken patched) (c ∷ cs))
taken_characters patched c cs =
    rw (all_pass_both is_identifier_part (is_taken patched) cs)
    (both_apart (is_identifier_start c) (is_taken patched c) (list_all is_identifier_part cs) (list_all (is_taken patched) cs))

-- where not patched each character is taken
pub all_taken : (cs : List ℕ) → list_all (is_taken false) cs ≡ true
all_taken [] = refl
all_taken (c ∷ cs) = all_taken cs

-- where patched the characters are taken that are no middle dots
pub none_is_dot : (cs : List ℕ) → list_all (is_taken true) cs ≡ not (list_any is_katakana_middle_dot cs)
none_is_dot [] = refl
none_is_dot (c ∷ cs) = rw (none_is_dot cs) (not_either (is_katakana_middle_dot c) (list_any is_katakana_middle_dot cs))
