-- The functions that are left to be written, one after the other.
use Rattle.std.proofs.Common.{◌≡◌, ℕ, suc, ◌+◌, ◌-◌, ◌<◌, Bool, true, nat_lt, List, ◌++◌, sym, ap, ap₂, ◌∙◌, arith, append_assoc, lt-ltb}
use Rattle.made_input.specs.Pieces.{comma_if, function_text, functions_text}

-- of so many from the k-th on the first, and the others
one_less : (count k : ℕ) → k < count
    → functions_text (nat_lt 0 k) k (count - k) ≡ comma_if (nat_lt 0 k) ++ (function_text k ++ functions_text (nat_lt 0 (k + 1)) (k + 1) (count - (k + 1)))
one_less count k h =
    let left : count - k ≡ suc (count - (k + 1)) = omega (arith, h) in
    let next : suc k ≡ k + 1 = omega arith in
    let later : true ≡ nat_lt 0 (k + 1) = sym (lt-ltb 0 (k + 1) (omega arith)) in
    ap (functions_text (nat_lt 0 k) k) left
    ∙ ap₂ (λ (b : Bool) (j : ℕ). comma_if (nat_lt 0 k) ++ (function_text k ++ functions_text b j (count - (k + 1)))) later next

regroup : (t c f r : List ℕ) → (t ++ (c ++ f)) ++ r ≡ t ++ (c ++ (f ++ r))
regroup t c f r = simp append_assoc

-- what is left after one more
pub one_written : (t new all : List ℕ) (count k : ℕ) → k < count → t ++ functions_text (nat_lt 0 k) k (count - k) ≡ all
    → new ≡ t ++ (comma_if (nat_lt 0 k) ++ function_text k) → new ++ functions_text (nat_lt 0 (k + 1)) (k + 1) (count - (k + 1)) ≡ all
one_written t new all count k less before written =
    let rest : List ℕ = functions_text (nat_lt 0 (k + 1)) (k + 1) (count - (k + 1)) in
    ap (λ (x : List ℕ). x ++ rest) written ∙ regroup t (comma_if (nat_lt 0 k)) (function_text k) rest
    ∙ ap (λ (x : List ℕ). t ++ x) (sym (one_less count k less)) ∙ before
