-- One step of a loop that fills what a list holds.
use Rattle.std.proofs.Common.{◌≡◌, ℕ, ◌+◌, ◌<◌, ◌≤◌, List, [], ◌∷◌, ◌++◌, length, drop, suc, take, get_or, slice_set, refl, sym, ap, ◌∙◌, arith}
use Rattle.std.proofs.Math.ListN.{drop_of_length-le}
use Rattle.std.proofs.Math.Seq.{drop-cons}
use Rattle.std.proofs.lemmas.Grind.{drop_more_same}
use Rattle.std.proofs.lemmas.List.{drop-set-lt, take_all, take_more_set}
use Rattle.name_map.proofs.FilledJoined.{after_onto, filled_onto}
use Rattle.name_map.specs.Filled.{Given, after, filled, properties}
use Rattle.tree_nodes.specs.Look.{onto}
use Rattle.tree_nodes.specs.Tree.{Parts, done}
use Rattle.tree_nodes.proofs.Onto.{onto_assoc, onto_done}
use Rattle.tree_rename.specs.Renamed.{count}

suc_is_plus_one : (i : ℕ) → suc i ≡ i + 1
suc_is_plus_one i = omega arith

-- what holds in a loop: what is done stands before what is left, which is as it was
abbrev pub IsStep : {A : Type 0} → (List A → Parts) → Given → List A → ℕ → List A → Given → Type 0
IsStep view g all i now left =
    (filled g (view all) ≡ onto (view (take i now)) (filled left (view (drop i now))))
    × (after (view all) g ≡ after (view (drop i now)) left)
    × (drop i now ≡ drop i all)

module _ {A : Type 0} (view : List A → Parts) (one : A → Parts) (empty : view [] ≡ done) (first : (x : A) (xs : List A) → view (x ∷ xs) ≡ onto (one x) (view xs)) where
  joined : (xs : List A) (x : A) → view (xs ++ x ∷ []) ≡ onto (view xs) (one x)
  joined [] x = first x [] ∙ ap (onto (one x)) empty ∙ onto_done (one x) ∙ sym (ap (λ p. onto p (one x)) empty)
  joined (y ∷ ys) x = first y (ys ++ x ∷ []) ∙ ap (onto (one y)) (joined ys x) ∙ sym (onto_assoc (one y) (view ys) (one x)) ∙ sym (ap (λ p. onto p (one x)) (first y ys))

  pub next_step : (g left rest : Given) (all now : List A) (i : ℕ) (d x : A) → i < length now
      → IsStep view g all i now left
      → one x ≡ filled left (one (get_or now i d)) → rest ≡ after (one (get_or now i d)) left
      → IsStep view g all (i + 1) (slice_set now i x) rest
  next_step g left rest all now i d x h step made leaves =
      let y = get_or now i d in
      let more = drop (i + 1) now in
      let split : view (drop i now) ≡ onto (one y) (view more) = ap view (drop-cons now i d h ∙ ap (λ j. y ∷ drop j now) (suc_is_plus_one i)) ∙ first y more in
      let same : drop (i + 1) (slice_set now i x) ≡ more = drop-set-lt (i + 1) now i x (omega arith) in
      let z = filled rest (view more) in
      let new : filled left (view (drop i now)) ≡ onto (one x) z =
      ap (filled left) split ∙ filled_onto left (one y) (view more)
      ∙ ap (λ h. onto (filled left (one y)) (filled h (view more))) (sym leaves)
      ∙ ap (λ p. onto p z) (sym made) in
      let front : onto (view (take i now)) (one x) ≡ view (take (i + 1) (slice_set now i x)) = sym (ap view (take_more_set now i x h) ∙ joined (take i now) x) in (
        step.0 ∙ ap (onto (view (take i now))) new ∙ sym (onto_assoc (view (take i now)) (one x) z)
            ∙ ap (λ p. onto p z) front
            ∙ ap (λ q. onto (view (take (i + 1) (slice_set now i x))) (filled rest (view q))) (sym same),
        step.1 ∙ ap (λ p. after p left) split ∙ after_onto (one y) (view more) left
            ∙ ap (after (view more)) (sym leaves)
            ∙ ap (λ q. after (view q) rest) (sym same),
        same ∙ drop_more_same now all i step.2,
      )

  pub last_step : (g left : Given) (all now : List A) (i : ℕ) → length now ≤ i
      → IsStep view g all i now left
      → (view now ≡ filled g (view all)) × (left ≡ after (view all) g)
  unfolding count filled properties
  last_step g left all now i h step =
      let over : view (drop i now) ≡ done = ap view (drop_of_length-le now h) ∙ empty in (
        sym (step.0 ∙ ap (λ p. onto (view (take i now)) (filled left p)) over ∙ onto_done (view (take i now)) ∙ ap view (take_all i now h)),
        sym (step.1 ∙ ap (λ p. after p left) over),
      )
