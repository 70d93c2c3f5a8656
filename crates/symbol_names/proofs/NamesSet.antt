-- Names that are set for one symbol after another.
use Rattle.std.specs.Prelude.{◌≡◌, ◌⊎◌, ◌<◌, ◌≤◌, ℕ, ◌+◌, Bool, true, false, cond, nat_eq, nat_lt, List, [], ◌∷◌, length, get_or, Option, Some, None}
use Rattle.std.proofs.Common.{refl, sym, ap, ◌∙◌, arith, inl, inr, lt-ltb, le-ltb}
use Rattle.std.proofs.lemmas.Bool.{cases_lt, eqb-false, eqb-true}
use Rattle.std.proofs.lemmas.List.{get_or_past}
use Rattle.scope_rules.specs.Bindings.{or_else}

nothing_else : {X : Type 0} (o : Option X) → or_else o None ≡ o
unfolding or_else
nothing_else None = refl
nothing_else (Some x) = refl

-- where no name is set
pub nothing_set : {X : Type 0} (o : Option X) (b : Bool) (old : Option X) → ((x : X) → o ≡ Some x → ⊥) → old ≡ cond b (or_else o old) old
unfolding or_else
nothing_set None true old h = refl
nothing_set None false old h = refl
nothing_set (Some x) b old h = absurd (h x refl)

-- the names of the symbols before the i-th
abbrev pub up_to : {X : Type 0} → List (Option X) → ℕ → ℕ → Option X
up_to names i k = cond (nat_lt k i) (get_or names k None) None

-- those before the first
pub none_yet : {X : Type 0} (names : List (Option X)) (k : ℕ) → None ≡ up_to names 0 k
none_yet {X} names k = sym (ap (λ (b : Bool). cond b (get_or names k None) None) (le-ltb k 0 (omega arith)))

-- those before the next
pub one_set : {X : Type 0} (names : List (Option X)) (i k : ℕ) (old : Option X) (name new : Option X) → name ≡ get_or names i None → old ≡ up_to names i k → new ≡ cond (nat_eq k i) (or_else name old) old → new ≡ up_to names (i + 1) k
one_set {X} names i k old name new here before put = put ∙ go (nat_eq k i) refl
  where
    go : (b : Bool) → nat_eq k i ≡ b → cond b (or_else name old) old ≡ up_to names (i + 1) k
    go true e =
        let same : k ≡ i = eqb-true k i e in
        ap (or_else name) (before ∙ ap (λ (b : Bool). cond b (get_or names k None) None) (le-ltb k i (omega (arith, same))))
        ∙ nothing_else name
        ∙ here
        ∙ ap (λ (j : ℕ). get_or names j None) (sym same)
        ∙ sym (ap (λ (b : Bool). cond b (get_or names k None) None) (lt-ltb k (i + 1) (omega (arith, same))))
    go false e = before ∙ ap (λ (b : Bool). cond b (get_or names k None) None) (same_side (cases_lt k i))
      where
        apart : k ≡ i → ⊥
        apart s = eqb-false k i e s

        same_side : (k < i) ⊎ (i ≤ k) → nat_lt k i ≡ nat_lt k (i + 1)
        same_side (inl h) = lt-ltb k i h ∙ sym (lt-ltb k (i + 1) (omega (arith, h)))
        same_side (inr h) = le-ltb k i h ∙ sym (le-ltb k (i + 1) (omega (arith, h, apart)))

-- those of all
pub all_set : {X : Type 0} (names : List (Option X)) (i k : ℕ) → length names ≤ i → up_to names i k ≡ get_or names k None
all_set {X} names i k h = go (cases_lt k i)
  where
    go : (k < i) ⊎ (i ≤ k) → up_to names i k ≡ get_or names k None
    go (inl l) = ap (λ (b : Bool). cond b (get_or names k None) None) (lt-ltb k i l)
    go (inr l) = ap (λ (b : Bool). cond b (get_or names k None) None) (le-ltb k i l) ∙ sym (get_or_past names k None (omega (arith, h, l)))
