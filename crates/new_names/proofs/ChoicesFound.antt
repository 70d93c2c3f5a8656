-- Choices, one place after another.
use Rattle.std.specs.Prelude.{◌≡◌, ◌<◌, ◌≤◌, ℕ, ◌+◌, List, [], ◌∷◌, ◌++◌, length, take, get_or, Option}
use Rattle.std.proofs.Common.{refl, sym, ap, ◌∙◌, arith, take_all}
use Rattle.std.proofs.lemmas.List.{take_more, length-take-le}
use Rattle.name_rules.specs.ChosenNames.{choice_of, choices_of}

choices_push : (first : ℕ) (ss ns : List (Option ℕ)) (s n : Option ℕ) → length ss ≡ length ns → choices_of first (ss ++ s ∷ []) (ns ++ n ∷ []) ≡ choices_of first ss ns ++ choice_of first s n ∷ []
unfolding choices_of
choices_push first [] [] s n h = refl
choices_push first [] (m ∷ ns) s n h = absurd (omega (arith, h))
choices_push first (t ∷ ss) [] s n h = absurd (omega (arith, h))
choices_push first (t ∷ ss) (m ∷ ns) s n h = ap (λ cs. choice_of first t m ∷ cs) (choices_push first ss ns s n (omega (arith, h)))

-- the first i places are chosen for
module _ (first i : ℕ) (ss ns found : List (Option ℕ)) (long : length ss ≡ length ns) (so_far : found ≡ choices_of first (take i ss) (take i ns)) where
  pub one_more : (s n c : Option ℕ) (new : List (Option ℕ)) → i < length ss → c ≡ choice_of first (get_or ss i s) (get_or ns i n) → new ≡ found ++ c ∷ [] → new ≡ choices_of first (take (i + 1) ss) (take (i + 1) ns)
  one_more s n c new h e put =
      put
      ∙ ap (λ cs. cs ++ c ∷ []) so_far
      ∙ ap (λ (d : Option ℕ). choices_of first (take i ss) (take i ns) ++ d ∷ []) e
      ∙ sym (choices_push first (take i ss) (take i ns) (get_or ss i s) (get_or ns i n) (omega (arith, length-take-le i ss (omega (arith, h)), length-take-le i ns (omega (arith, h, long)))))
      ∙ sym (ap (λ (xs : List (Option ℕ)). choices_of first xs (take (i + 1) ns)) (take_more ss i s h) ∙ ap (choices_of first (take i ss ++ get_or ss i s ∷ [])) (take_more ns i n (omega (arith, h, long))))

  pub all_chosen : length ss ≤ i → found ≡ choices_of first ss ns
  all_chosen h =
      so_far
      ∙ ap (λ (xs : List (Option ℕ)). choices_of first xs (take i ns)) (take_all i ss h)
      ∙ ap (choices_of first ss) (take_all i ns (omega (arith, h, long)))
