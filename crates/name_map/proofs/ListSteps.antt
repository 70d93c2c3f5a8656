-- One step of a loop over a list.
use Rattle.std.proofs.Common.{◌≡◌, ℕ, zero, suc, ◌+◌, ◌≤◌, ◌<◌, Bool, true, false, ◌&&◌, List, [], ◌∷◌, length, drop, map, Option, Some, None, get_or, slice_get, slice_set, refl, sym, ap, ◌∙◌, arith}
use Rattle.std.proofs.Math.Seq.{drop-cons}
use Rattle.std.proofs.lemmas.List.{drop_all, length-map}
use Rattle.name_map.specs.Choices.{choose}
use Rattle.name_map.specs.Fits.{mark_fits, marks_fit, name_fits, names_fit}
use Rattle.name_map.specs.Undoing.{OldName, put_marks, put_names}
use Rattle.tree_nodes.specs.Tree.{Text}

one_more : (i : ℕ) → suc i ≡ i + 1
one_more i = omega arith

from_there : {X : Type 0} (xs : List X) (i : ℕ) (x : X) → Some x ≡ slice_get xs i → drop i xs ≡ x ∷ drop (suc i) xs
from_there [] i x e = absurd (cc)
from_there (y ∷ ys) zero x e = let same : x ≡ y = cc in ap (λ z. z ∷ ys) (sym same)
from_there (y ∷ ys) (suc i) x e = from_there ys i x e

pub at_next : {X : Type 0} (xs : List X) (i : ℕ) (x : X) → Some x ≡ slice_get xs i → drop i xs ≡ x ∷ drop (i + 1) xs
at_next xs i x e = from_there xs i x e ∙ ap (λ j. x ∷ drop j xs) (one_more i)

pub at_end : {X : Type 0} (xs : List X) (i : ℕ) → None ≡ slice_get xs i → drop i xs ≡ []
at_end [] zero e = refl
at_end [] (suc i) e = refl
at_end (y ∷ ys) zero e = absurd (cc)
at_end (y ∷ ys) (suc i) e = at_end ys i e

pub past_end : {X : Type 0} (xs : List X) (i : ℕ) → length xs ≤ i → drop i xs ≡ []
past_end xs i h = drop_all i xs h

-- with what stands at an index
lent_from : {X Y : Type 0} (f : X → Y) (xs : List X) (i : ℕ) (x : X) → i < length xs → x ≡ get_or xs i x → drop i (map f xs) ≡ f x ∷ drop (suc i) (map f xs)
lent_from f [] i x h e = absurd (omega (arith, h))
lent_from f (y ∷ ys) zero x h e = ap (λ z. f z ∷ map f ys) (sym e)
lent_from f (y ∷ ys) (suc i) x h e = lent_from f ys i x (omega (arith, h)) e

-- of a list that stands for another
pub lent_next : {X Y : Type 0} (f : X → Y) (xs : List X) (i : ℕ) (x : X) → i < length xs → x ≡ get_or xs i x → drop i (map f xs) ≡ f x ∷ drop (i + 1) (map f xs)
lent_next f xs i x h e = lent_from f xs i x h e ∙ ap (λ j. f x ∷ drop j (map f xs)) (one_more i)

pub mapped_past : {X Y : Type 0} (f : X → Y) (xs : List X) (i : ℕ) → length xs ≤ i → drop i (map f xs) ≡ []
mapped_past f xs i h = drop_all i (map f xs) (omega (arith, h, length-map xs f))

pub next_at : {X : Type 0} (xs : List X) (i : ℕ) (d : X) → i < length xs → drop i xs ≡ get_or xs i d ∷ drop (i + 1) xs
next_at xs i d h = drop-cons xs i d h ∙ ap (λ j. get_or xs i d ∷ drop j xs) (one_more i)

pub lent_item : {X : Type 0} (xs : List X) (i : ℕ) (x : X) → i < length xs → x ≡ get_or xs i x → drop i xs ≡ x ∷ drop (i + 1) xs
lent_item xs i x h e = next_at xs i x h ∙ ap (λ y. y ∷ drop (i + 1) xs) (sym e)

-- ---- names that are put

module _ (os : List OldName) (start now : List Text) (i : ℕ) (so_far : put_names os start ≡ put_names (drop i os) now) where
  pub put_next : (o : OldName) (next : List Text) → Some o ≡ slice_get os i → next ≡ slice_set now o.place o.name
      → put_names os start ≡ put_names (drop (i + 1) os) next
  unfolding put_names
  put_next o next e f = so_far ∙ ap (λ xs. put_names xs now) (at_next os i o e) ∙ ap (put_names (drop (i + 1) os)) (sym f)

  pub put_all : drop i os ≡ [] → now ≡ put_names os start
  unfolding put_names
  put_all e = sym (so_far ∙ ap (λ xs. put_names xs now) e)

-- ---- names that fit

module _ (plain : List Bool) (os : List OldName) (i n : ℕ) (so_far : names_fit plain 0 os ≡ names_fit plain n (drop i os)) where
  pub fit_next : (o : OldName) (m : ℕ) → Some o ≡ slice_get os i → name_fits plain n o ≡ true → m ≡ o.place + 1
      → names_fit plain 0 os ≡ names_fit plain m (drop (i + 1) os)
  unfolding names_fit
  fit_next o m e f g =
      so_far ∙ ap (names_fit plain n) (at_next os i o e) ∙ ap (λ b. b && names_fit plain (suc o.place) (drop (i + 1) os)) f
      ∙ ap (λ k. names_fit plain k (drop (i + 1) os)) (one_more o.place ∙ sym g)

  pub fit_not : (o : OldName) → Some o ≡ slice_get os i → name_fits plain n o ≡ false → false ≡ names_fit plain 0 os
  unfolding names_fit
  fit_not o e f = sym (so_far ∙ ap (names_fit plain n) (at_next os i o e) ∙ ap (λ b. b && names_fit plain (suc o.place) (drop (i + 1) os)) f)

  pub fit_all : drop i os ≡ [] → true ≡ names_fit plain 0 os
  unfolding names_fit
  fit_all e = sym (so_far ∙ ap (names_fit plain n) e)

-- ---- choices

module _ (os : List OldName) (start now : List (Option ℕ)) (i : ℕ) (so_far : choose 0 os start ≡ choose i (drop i os) now) where
  pub choose_next : (o : OldName) (next : List (Option ℕ)) → Some o ≡ slice_get os i → next ≡ slice_set now o.place (Some i)
      → choose 0 os start ≡ choose (i + 1) (drop (i + 1) os) next
  unfolding choose
  choose_next o next e f =
      so_far ∙ ap (λ xs. choose i xs now) (at_next os i o e) ∙ ap (choose (suc i) (drop (i + 1) os)) (sym f)
      ∙ ap (λ j. choose j (drop (i + 1) os) next) (one_more i)

  pub choose_all : drop i os ≡ [] → now ≡ choose 0 os start
  unfolding choose
  choose_all e = sym (so_far ∙ ap (λ xs. choose i xs now) e)

-- ---- marks that are put

put_mark_from : (is : List ℕ) (i d : ℕ) (bs : List Bool) → i < length is → put_marks (drop i is) bs ≡ put_marks (drop (i + 1) is) (slice_set bs (get_or is i d) true)
unfolding put_marks
put_mark_from is i d bs h = ap (λ xs. put_marks xs bs) (drop-cons is i d h) ∙ ap (λ j. put_marks (drop j is) (slice_set bs (get_or is i d) true)) (one_more i)

pub marks_next : (is : List ℕ) (start now next : List Bool) (i d : ℕ) → put_marks is start ≡ put_marks (drop i is) now → i < length is → next ≡ slice_set now (get_or is i d) true
    → put_marks is start ≡ put_marks (drop (i + 1) is) next
marks_next is start now next i d so_far h e = so_far ∙ put_mark_from is i d now h ∙ ap (put_marks (drop (i + 1) is)) (sym e)

pub marks_all : (is : List ℕ) (start now : List Bool) (i : ℕ) → put_marks is start ≡ put_marks (drop i is) now → length is ≤ i → now ≡ put_marks is start
unfolding put_marks
marks_all is start now i so_far h = sym (so_far ∙ ap (λ xs. put_marks xs now) (past_end is i h))

-- ---- marks that fit

fit_from : (bs : List Bool) (is : List ℕ) (i n d : ℕ) → i < length is → marks_fit bs n (drop i is) ≡ (mark_fits bs n (get_or is i d) && marks_fit bs (get_or is i d + 1) (drop (i + 1) is))
unfolding marks_fit
fit_from bs is i n d h =
    ap (marks_fit bs n) (drop-cons is i d h) ∙ ap (λ j. mark_fits bs n (get_or is i d) && marks_fit bs (suc (get_or is i d)) (drop j is)) (one_more i)
    ∙ ap (λ k. mark_fits bs n (get_or is i d) && marks_fit bs k (drop (i + 1) is)) (one_more (get_or is i d))

module _ (bs : List Bool) (is : List ℕ) (i n d : ℕ) (so_far : marks_fit bs 0 is ≡ marks_fit bs n (drop i is)) where
  pub mark_next : (m : ℕ) → i < length is → mark_fits bs n (get_or is i d) ≡ true → m ≡ get_or is i d + 1 → marks_fit bs 0 is ≡ marks_fit bs m (drop (i + 1) is)
  mark_next m h f g = so_far ∙ fit_from bs is i n d h ∙ ap (λ b. b && marks_fit bs (get_or is i d + 1) (drop (i + 1) is)) f ∙ ap (λ k. marks_fit bs k (drop (i + 1) is)) (sym g)

  pub mark_not : i < length is → mark_fits bs n (get_or is i d) ≡ false → false ≡ marks_fit bs 0 is
  mark_not h f = sym (so_far ∙ fit_from bs is i n d h ∙ ap (λ b. b && marks_fit bs (get_or is i d + 1) (drop (i + 1) is)) f)

  pub mark_all : length is ≤ i → true ≡ marks_fit bs 0 is
  unfolding marks_fit
  mark_all h = sym (so_far ∙ ap (marks_fit bs n) (past_end is i h))
