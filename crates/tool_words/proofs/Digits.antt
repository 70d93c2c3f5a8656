-- Numbers that are read digit by digit.
use Rattle.std.proofs.Common.{◌≡◌, ◌≤◌, ◌<◌, ◌+◌, ◌-◌, ◌*◌, ℕ, zero, suc, true, ◌&&◌, List, [], ◌∷◌, Some, None, option_and_then, nat_le, length, get_or, drop, ap, ◌∙◌, arith}
use Rattle.std.proofs.lemmas.Bool.Decides.{nat_tests}
use Rattle.std.proofs.lemmas.List.{drop_more}
use Rattle.std.proofs.Math.ListN.{drop_of_length-le}
use Rattle.tree_nodes.proofs.Cases.{if_some}
use Rattle.tool_words.specs.MadeNumber.{begins, number_from, with_digit}

pub record IsDigitMore (n d m : ℕ) : Type 0 where
  pub digit : 48 ≤ d
  pub is : m ≡ n * 10 + (d - 48)
  pub most : m ≤ 2000

pub digit_more : (n d m : ℕ) → with_digit n d ≡ Some m → IsDigitMore n d m
unfolding with_digit
digit_more n d m e =
    let both = if_some (nat_le 48 d && nat_le d 57 && nat_le (n * 10 + (d - 48)) 2000) (Some (n * 10 + (d - 48))) m e in
    let same : n * 10 + (d - 48) ≡ m = cc in
    let test : (nat_le 48 d && nat_le d 57 && nat_le (n * 10 + (d - 48)) 2000) ≡ true = both.0 in
    record {
      digit = grind (arith, nat_tests, test);
      is = cc;
      most = grind (arith, nat_tests, test, same);
    }

-- the first digit is no zero, so the number isn't either
first_some : (xs : List ℕ) (n m : ℕ) → begins xs ≡ true → with_digit n (get_or xs 0 0) ≡ Some m → 1 ≤ m
unfolding begins
first_some [] n m b e = absurd (cc)
first_some (d ∷ ds) n m b e = let more = digit_more n d m e in grind (arith, nat_tests, b, more.digit, more.is)

pub some_more : (xs : List ℕ) (i n m : ℕ) → begins xs ≡ true → (0 < i → 1 ≤ n) → with_digit n (get_or xs i 0) ≡ Some m → 1 ≤ m
some_more xs zero n m b h e = first_some xs n m b e
some_more xs (suc i) n m b h e = let more = digit_more n (get_or xs (suc i) 0) m e in let some : 1 ≤ n = h (omega arith) in omega (arith, more.is, some)

pub begins_long : (xs : List ℕ) → begins xs ≡ true → 1 ≤ length xs
unfolding begins
begins_long [] b = absurd (cc)
begins_long (d ∷ ds) b = omega arith

pub digit_read : (xs : List ℕ) (i n m : ℕ) → i < length xs → number_from 0 xs ≡ number_from n (drop i xs) → with_digit n (get_or xs i 0) ≡ Some m → number_from 0 xs ≡ number_from m (drop (i + 1) xs)
unfolding number_from
digit_read xs i n m h so_far e =
    so_far ∙ ap (number_from n) (drop_more xs i 0 h) ∙ ap (option_and_then (λ k. number_from k (drop (i + 1) xs))) e

pub no_digit_read : (xs : List ℕ) (i n : ℕ) → i < length xs → number_from 0 xs ≡ number_from n (drop i xs) → with_digit n (get_or xs i 0) ≡ None → number_from 0 xs ≡ None
unfolding number_from
no_digit_read xs i n h so_far e =
    so_far ∙ ap (number_from n) (drop_more xs i 0 h) ∙ ap (option_and_then (λ k. number_from k (drop (i + 1) xs))) e

pub all_read : (xs : List ℕ) (i n : ℕ) → length xs ≤ i → number_from 0 xs ≡ number_from n (drop i xs) → number_from 0 xs ≡ Some n
unfolding number_from
all_read xs i n h so_far = so_far ∙ ap (number_from n) (drop_of_length-le xs h)
