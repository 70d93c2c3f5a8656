-- One step of a loop that renames what a list holds.
use Rattle.std.proofs.Common.{◌≡◌, ℕ, zero, suc, ◌+◌, ◌<◌, ◌≤◌, List, [], ◌∷◌, ◌++◌, Option, Some, None, Result, Ok, Err, IfOk, length, drop, take, get_or, slice_set, refl, sym, ap, ◌∙◌, arith}
use Rattle.std.proofs.Math.ListN.{drop_of_length-le}
use Rattle.std.proofs.Math.Seq.{drop-cons}
use Rattle.std.proofs.lemmas.Grind.{drop_more_same}
use Rattle.std.proofs.lemmas.List.{append-nil, drop_all, drop-set-lt, take_all, take_more_set}
use Rattle.tree_nodes.specs.Look.{item_size, onto, part_size, parts_size}
use Rattle.tree_nodes.specs.Tree.{Parts, Text, Tree, done}
use Rattle.tree_nodes.specs.Views.{item_of, items_of, part_of, parts_of}
use Rattle.tree_nodes.specs.declared.node.Field.{Field}
use Rattle.tree_nodes.specs.declared.node.Field.TheVariants.{Empty, Flag, Word, Text as FieldText, Str, Whole, Child, List as Several}
use Rattle.tree_nodes.proofs.Onto.{onto_assoc, onto_done}
use Rattle.tree_rename.proofs.RenamedJoined.{count_onto, drop_both, renamed_onto}
use Rattle.tree_rename.specs.Renamed.{count, renamed}

suc_is_plus_one : (i : ℕ) → suc i ≡ i + 1
suc_is_plus_one i = omega arith

-- what holds in a loop: what is done stands before what is left, which is as it was
abbrev pub IsStep : {A : Type 0} → (List A → Parts) → List Text → List (Option ℕ) → List A → ℕ → List A → List (Option ℕ) → Type 0
IsStep view given choices all i now left =
    (renamed given choices (view all) ≡ onto (view (take i now)) (renamed given left (view (drop i now))))
    × (drop (count (view all)) choices ≡ drop (count (view (drop i now))) left)
    × (drop i now ≡ drop i all)

module _ {A : Type 0} (view : List A → Parts) (one : A → Parts) (empty : view [] ≡ done) (first : (x : A) (xs : List A) → view (x ∷ xs) ≡ onto (one x) (view xs)) where
  joined : (xs : List A) (x : A) → view (xs ++ x ∷ []) ≡ onto (view xs) (one x)
  joined [] x = first x [] ∙ ap (onto (one x)) empty ∙ onto_done (one x) ∙ sym (ap (λ p. onto p (one x)) empty)
  joined (y ∷ ys) x = first y (ys ++ x ∷ []) ∙ ap (onto (one y)) (joined ys x) ∙ sym (onto_assoc (one y) (view ys) (one x)) ∙ sym (ap (λ p. onto p (one x)) (first y ys))

  pub next_step : (given : List Text) (choices left rest : List (Option ℕ)) (all now : List A) (i : ℕ) (d x : A) → i < length now
      → IsStep view given choices all i now left
      → one x ≡ renamed given left (one (get_or now i d)) → rest ≡ drop (count (one (get_or now i d))) left
      → IsStep view given choices all (i + 1) (slice_set now i x) rest
  next_step given choices left rest all now i d x h step made leaves =
      let y = get_or now i d in
      let more = drop (i + 1) now in
      let split : view (drop i now) ≡ onto (one y) (view more) = ap view (drop-cons now i d h ∙ ap (λ j. y ∷ drop j now) (suc_is_plus_one i)) ∙ first y more in
      let same : drop (i + 1) (slice_set now i x) ≡ more = drop-set-lt (i + 1) now i x (omega arith) in
      let z = renamed given rest (view more) in
      let new : renamed given left (view (drop i now)) ≡ onto (one x) z =
      ap (renamed given left) split ∙ renamed_onto given left (one y) (view more)
      ∙ ap (λ ds. onto (renamed given left (one y)) (renamed given ds (view more))) (sym leaves)
      ∙ ap (λ p. onto p z) (sym made) in
      let front : onto (view (take i now)) (one x) ≡ view (take (i + 1) (slice_set now i x)) = sym (ap view (take_more_set now i x h) ∙ joined (take i now) x) in (
        step.0 ∙ ap (onto (view (take i now))) new ∙ sym (onto_assoc (view (take i now)) (one x) z)
            ∙ ap (λ p. onto p z) front
            ∙ ap (λ q. onto (view (take (i + 1) (slice_set now i x))) (renamed given rest (view q))) (sym same),
        step.1 ∙ ap (λ p. drop (count p) left) split ∙ ap (λ n. drop n left) (count_onto (one y) (view more))
            ∙ drop_both (count (one y)) (count (view more)) left ∙ ap (drop (count (view more))) (sym leaves)
            ∙ ap (λ q. drop (count (view q)) rest) (sym same),
        same ∙ drop_more_same now all i step.2,
      )

  pub last_step : (given : List Text) (choices left : List (Option ℕ)) (all now : List A) (i : ℕ) → length now ≤ i
      → IsStep view given choices all i now left
      → (view now ≡ renamed given choices (view all)) × (left ≡ drop (count (view all)) choices)
  unfolding count renamed
  last_step given choices left all now i h step =
      let over : view (drop i now) ≡ done = ap view (drop_of_length-le now h) ∙ empty in (
        sym (step.0 ∙ ap (λ p. onto (view (take i now)) (renamed given left p)) over ∙ onto_done (view (take i now)) ∙ ap view (take_all i now h)),
        sym (step.1 ∙ ap (λ p. drop (count p) left) over),
      )

  pub first_step : (given : List Text) (choices : List (Option ℕ)) (all : List A) → IsStep view given choices all 0 all choices
  first_step given choices all = (sym (ap (λ p. onto p (renamed given choices (view all))) empty), refl, refl)

  -- what is still to be done is smaller than the whole
  size_left : ((x : A) (p : Parts) → parts_size (onto (one x) p) ≡ part_size (one x) + parts_size p + 1)
      → (all : List A) (i : ℕ) → parts_size (view (drop i all)) ≤ parts_size (view all)
  size_left size all zero = omega arith
  size_left size [] (suc i) = omega arith
  size_left size (x ∷ xs) (suc i) =
      let here : parts_size (view (x ∷ xs)) ≡ part_size (one x) + parts_size (view xs) + 1 = ap parts_size (first x xs) ∙ size x (view xs) in
      omega (arith, size_left size xs i)

  pub smaller : ((x : A) (p : Parts) → parts_size (onto (one x) p) ≡ part_size (one x) + parts_size p + 1)
      → (all now : List A) (i : ℕ) (d : A) → i < length now → drop i now ≡ drop i all
      → part_size (one (get_or now i d)) < parts_size (view all)
  smaller size all now i d h same =
      let y = get_or now i d in
      let split : parts_size (view (drop i now)) ≡ part_size (one y) + parts_size (view (drop (suc i) now)) + 1 =
      ap (λ l. parts_size (view l)) (drop-cons now i d h) ∙ ap parts_size (first y _) ∙ size y _ in
      let whole : parts_size (view (drop i now)) ≡ parts_size (view (drop i all)) = ap (λ l. parts_size (view l)) same in
      omega (arith, size_left size all i)

-- ---- fields

pub first_field : (f : Field) (fs : List Field) → parts_of (f ∷ fs) ≡ onto (part_of f) (parts_of fs)
first_field f fs = refl

pub field_size : (f : Field) (p : Parts) → parts_size (onto (part_of f) p) ≡ part_size (part_of f) + parts_size p + 1
field_size Empty p = omega arith
field_size (Flag b) p = omega arith
field_size (Word w) p = omega arith
field_size (FieldText t) p = omega arith
field_size (Str us) p = omega arith
field_size (Whole n) p = omega arith
field_size (Child b) p = omega arith
field_size (Several ts) p = omega arith

-- ---- items

pub first_item : (t : Option Tree) (ts : List (Option Tree)) → items_of (t ∷ ts) ≡ onto (item_of t) (items_of ts)
first_item None ts = refl
first_item (Some t) ts = refl

pub item_part_size : (t : Option Tree) (p : Parts) → parts_size (onto (item_of t) p) ≡ part_size (item_of t) + parts_size p + 1
item_part_size None p = omega arith
item_part_size (Some t) p = omega arith

pub item_no_larger : (t : Option Tree) → item_size t ≤ part_size (item_of t)
item_no_larger None = omega arith
item_no_larger (Some t) = omega arith

pub if_ok_also : {T E : Type 0} {P Q : T → Type 0} (r : Result T E) → ((x : T) → P x → Q x) → IfOk r P → IfOk r Q
if_ok_also (Ok x) h p = h x p
if_ok_also (Err e) h p = p

-- a slice that is written back into the vector that lent it
pub written_back : {T : Type 0} (n : ℕ) (new old : List T) → n ≡ length old → length new ≡ length old
    → take n (new ++ drop (length new) old) ≡ new
written_back n new old e f =
    ap (λ xs. take n (new ++ xs)) (drop_all (length new) old (omega (arith, f))) ∙ ap (take n) (append-nil new) ∙ take_all n new (omega (arith, e, f))
