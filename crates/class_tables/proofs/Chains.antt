-- Chains of numbers that fall.
use Rattle.std.specs.Prelude.{◌≡◌, ◌<◌, ℕ, zero, suc, ◌∷◌, Option}
use Rattle.std.proofs.Common.{refl, ap, arith}
use Rattle.list_laws.proofs.Tests.{told}
use Rattle.class_tables.specs.Outwards.{Falls, chain, chain_from, steps}

-- so many steps are enough, and more are the same
steps_enough : (next : ℕ → Option ℕ) → Falls next → (m n k : ℕ) → k < m → k < n → steps next m k ≡ steps next n k
unfolding steps
steps_enough next falls zero n k h j = absurd (omega (arith, h))
steps_enough next falls (suc m) zero k h j = absurd (omega (arith, j))
steps_enough next falls (suc m) (suc n) k h j = told (next k) (λ e. rw e refl)
    (λ p e. rw e (ap (λ ks. k ∷ ks) (steps_enough next falls m n p (let l : p < k = falls k p e in omega arith) (let l : p < k = falls k p e in omega arith))))

-- a chain is its number, and then the chain from the next one
pub chain_step : (next : ℕ → Option ℕ) → Falls next → (k : ℕ) → chain next k ≡ k ∷ chain_from next (next k)
unfolding chain chain_from steps
chain_step next falls k = told (next k) (λ e. rw e refl)
    (λ p e. rw e (ap (λ ks. k ∷ ks) (steps_enough next falls k (suc p) p (falls k p e) (omega arith))))
