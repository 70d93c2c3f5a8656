-- Walks outwards answer by what lies outwards.
use Rattle.std.specs.Prelude.{◌≡◌, ◌<◌, ℕ, suc, true, false, Option, Some, None, is_some}
use Rattle.std.proofs.Common.{refl, sym, ap, ◌∙◌, arith}
use Rattle.std.proofs.lemmas.Bool.{both_ways}
use Rattle.scope_rules.specs.Bindings.{or_else}
use Rattle.class_tables.specs.Outwards.{Falls, chain, chain_from, nearest}
use Rattle.class_tables.proofs.Chains.{chain_step}

-- how far a class body, or none, is from the end
abbrev pub left_of : Option ℕ → ℕ
left_of None = 0
left_of (Some s) = suc s

module _ (next : ℕ → Option ℕ) (falls : Falls next) where
  pub left_falls : (at : Option ℕ) (s : ℕ) → at ≡ Some s → (o : Option ℕ) → o ≡ next s → left_of o < left_of at
  left_falls at s e None p = rw e (omega arith)
  left_falls at s e (Some q) p = rw e (let l : q < s = falls s q (sym p) in omega arith)

  module _ {X : Type 0} (f : ℕ → Option X) where
    nearest_step : (k : ℕ) → nearest f (chain next k) ≡ or_else (f k) (nearest f (chain_from next (next k)))
    unfolding nearest
    nearest_step k = ap (nearest f) (chain_step next falls k)

    nearest_here : (k : ℕ) (n : X) → f k ≡ Some n → nearest f (chain next k) ≡ Some n
    unfolding or_else
    nearest_here k n e = nearest_step k ∙ ap (λ o. or_else o (nearest f (chain_from next (next k)))) e

    nearest_further : (k : ℕ) → f k ≡ None → nearest f (chain next k) ≡ nearest f (chain_from next (next k))
    unfolding or_else
    nearest_further k e = nearest_step k ∙ ap (λ o. or_else o (nearest f (chain_from next (next k)))) e

    -- the whole answer is the one from here on
    module _ (whole : Option X) (at : Option ℕ) (so_far : whole ≡ nearest f (chain_from next at)) where
      pub found_at : (s : ℕ) → at ≡ Some s → (o : Option X) → o ≡ f s → is_some o ≡ true → o ≡ whole
      unfolding chain_from
      found_at s e None p t = absurd (both_ways _ refl t)
      found_at s e (Some n) p t = sym (so_far ∙ ap (λ k. nearest f (chain_from next k)) e ∙ nearest_here s n (sym p))

      pub go_on : (s : ℕ) → at ≡ Some s → (o : Option X) → o ≡ f s → is_some o ≡ false → (further : Option ℕ) → further ≡ next s
          → whole ≡ nearest f (chain_from next further)
      unfolding chain_from
      go_on s e None p t further q = so_far ∙ ap (λ k. nearest f (chain_from next k)) e ∙ nearest_further s (sym p) ∙ ap (λ k. nearest f (chain_from next k)) (sym q)
      go_on s e (Some n) p t further q = absurd (both_ways _ t refl)

      pub at_the_end : at ≡ None → None ≡ whole
      unfolding chain_from nearest
      at_the_end e = sym (so_far ∙ ap (λ k. nearest f (chain_from next k)) e)
