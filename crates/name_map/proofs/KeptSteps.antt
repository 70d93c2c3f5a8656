-- One step of a loop over two lists or three, side by side.
use Rattle.std.proofs.Common.{◌≡◌, ℕ, suc, ◌+◌, ◌≤◌, ◌<◌, ◌^◌, Bool, true, false, not, ◌&&◌, ◌||◌, List, [], ◌∷◌, ◌++◌, length, drop, map, bytes_eq, if◌then◌else◌, Result, Ok, Err, IfOk, OnOk, refl, sym, ap, ap₂, subst, ◌∙◌, arith}
use Rattle.std.proofs.lemmas.List.{append_assoc, append-nil}
use Rattle.std.specs.List.{AllByRecursion}
use Rattle.list_laws.proofs.AllOf.{AllOf_push}
use Rattle.name_map.specs.Kept.{keeps_marks, keeps_plain}
use Rattle.name_map.specs.Undoing.{IsSized, OldName, differing, old_name, taken_off}
use Rattle.name_map.specs.declared.spots.Pair.{Pair}
use Rattle.tree_nodes.specs.Tree.{Text}

one_more : (i : ℕ) → suc i ≡ i + 1
one_more i = omega arith

-- ---- plain names that stay

plain_none_before : (ps : List Bool) (ys : List Text) → keeps_plain ps [] ys ≡ true
unfolding keeps_plain
plain_none_before [] ys = refl
plain_none_before (p ∷ ps) ys = refl

plain_none_after : (ps : List Bool) (xs : List Text) → keeps_plain ps xs [] ≡ true
unfolding keeps_plain
plain_none_after [] xs = refl
plain_none_after (p ∷ ps) [] = refl
plain_none_after (p ∷ ps) (x ∷ xs) = refl

module _ (ps : List Bool) (xs ys : List Text) (i : ℕ) (so_far : keeps_plain ps xs ys ≡ keeps_plain (drop i ps) (drop i xs) (drop i ys)) where
  split : (p : Bool) (x y : Text) → drop i ps ≡ p ∷ drop (i + 1) ps → drop i xs ≡ x ∷ drop (i + 1) xs → drop i ys ≡ y ∷ drop (i + 1) ys
      → keeps_plain ps xs ys ≡ ((not p || bytes_eq x y) && keeps_plain (drop (i + 1) ps) (drop (i + 1) xs) (drop (i + 1) ys))
  unfolding keeps_plain
  split p x y e f g =
      so_far ∙ ap (λ qs. keeps_plain qs (drop i xs) (drop i ys)) e ∙ ap₂ (keeps_plain (p ∷ drop (i + 1) ps)) f g

  pub plain_next : (p : Bool) (x y : Text) → drop i ps ≡ p ∷ drop (i + 1) ps → drop i xs ≡ x ∷ drop (i + 1) xs → drop i ys ≡ y ∷ drop (i + 1) ys
      → (not p || bytes_eq x y) ≡ true → keeps_plain ps xs ys ≡ keeps_plain (drop (i + 1) ps) (drop (i + 1) xs) (drop (i + 1) ys)
  plain_next p x y e f g h = split p x y e f g ∙ ap (λ b. b && keeps_plain (drop (i + 1) ps) (drop (i + 1) xs) (drop (i + 1) ys)) h

  pub plain_not : (p : Bool) (x y : Text) → drop i ps ≡ p ∷ drop (i + 1) ps → drop i xs ≡ x ∷ drop (i + 1) xs → drop i ys ≡ y ∷ drop (i + 1) ys
      → (not p || bytes_eq x y) ≡ false → false ≡ keeps_plain ps xs ys
  plain_not p x y e f g h = sym (split p x y e f g ∙ ap (λ b. b && keeps_plain (drop (i + 1) ps) (drop (i + 1) xs) (drop (i + 1) ys)) h)

  pub plain_all : drop i ps ≡ [] → true ≡ keeps_plain ps xs ys
  unfolding keeps_plain
  plain_all e = sym (so_far ∙ ap (λ qs. keeps_plain qs (drop i xs) (drop i ys)) e)

  pub plain_over_before : drop i xs ≡ [] → true ≡ keeps_plain ps xs ys
  plain_over_before e = sym (so_far ∙ ap (λ zs. keeps_plain (drop i ps) zs (drop i ys)) e ∙ plain_none_before (drop i ps) (drop i ys))

  pub plain_over_after : drop i ys ≡ [] → true ≡ keeps_plain ps xs ys
  plain_over_after e = sym (so_far ∙ ap (keeps_plain (drop i ps) (drop i xs)) e ∙ plain_none_after (drop i ps) (drop i xs))

-- ---- marks that are as they are to be

abbrev pub mark_stays : Bool → Pair → Bool
mark_stays b p = if b && p.agrees then p.marked else not p.marked

marks_none_after : (bs : List Bool) → keeps_marks bs [] ≡ true
unfolding keeps_marks
marks_none_after [] = refl
marks_none_after (b ∷ bs) = refl

module _ (bs : List Bool) (ps : List Pair) (i : ℕ) (so_far : keeps_marks bs ps ≡ keeps_marks (drop i bs) (drop i ps)) where
  marks_split : (b : Bool) (p : Pair) → drop i bs ≡ b ∷ drop (i + 1) bs → drop i ps ≡ p ∷ drop (i + 1) ps
      → keeps_marks bs ps ≡ (mark_stays b p && keeps_marks (drop (i + 1) bs) (drop (i + 1) ps))
  unfolding keeps_marks
  marks_split b p e f = so_far ∙ ap₂ keeps_marks e f

  pub marks_next : (b : Bool) (p : Pair) → drop i bs ≡ b ∷ drop (i + 1) bs → drop i ps ≡ p ∷ drop (i + 1) ps → mark_stays b p ≡ true
      → keeps_marks bs ps ≡ keeps_marks (drop (i + 1) bs) (drop (i + 1) ps)
  marks_next b p e f h = marks_split b p e f ∙ ap (λ c. c && keeps_marks (drop (i + 1) bs) (drop (i + 1) ps)) h

  pub marks_not : (b : Bool) (p : Pair) → drop i bs ≡ b ∷ drop (i + 1) bs → drop i ps ≡ p ∷ drop (i + 1) ps → mark_stays b p ≡ false
      → false ≡ keeps_marks bs ps
  marks_not b p e f h = sym (marks_split b p e f ∙ ap (λ c. c && keeps_marks (drop (i + 1) bs) (drop (i + 1) ps)) h)

  pub marks_all : drop i bs ≡ [] → true ≡ keeps_marks bs ps
  unfolding keeps_marks
  marks_all e = sym (so_far ∙ ap (λ cs. keeps_marks cs (drop i ps)) e)

  pub marks_over : drop i ps ≡ [] → true ≡ keeps_marks bs ps
  marks_over e = sym (so_far ∙ ap (keeps_marks (drop i bs)) e ∙ marks_none_after (drop i bs))

-- ---- names that differ

differing_over : (n : ℕ) (xs : List Text) → differing n xs [] ≡ []
unfolding differing
differing_over n [] = refl
differing_over n (x ∷ xs) = refl

-- the name of a place that has another
abbrev pub name_listed : ℕ → Text → Text → List OldName
name_listed n x y = if bytes_eq x y then [] else old_name n x ∷ []

differing_split : (n : ℕ) (x : Text) (xs : List Text) (y : Text) (ys : List Text) → differing n (x ∷ xs) (y ∷ ys) ≡ name_listed n x y ++ differing (suc n) xs ys
unfolding differing
differing_split n x xs y ys = by_test (bytes_eq x y)
  where
    by_test : (b : Bool) → (if b then differing (suc n) xs ys else old_name n x ∷ differing (suc n) xs ys) ≡ (if b then [] else old_name n x ∷ []) ++ differing (suc n) xs ys
    by_test true = refl
    by_test false = refl

module _ (xs ys : List Text) (i : ℕ) (now : List OldName) (so_far : differing 0 xs ys ≡ now ++ differing i (drop i xs) (drop i ys)) where
  pub differing_next : (x y : Text) (next : List OldName) → drop i xs ≡ x ∷ drop (i + 1) xs → drop i ys ≡ y ∷ drop (i + 1) ys → next ≡ now ++ name_listed i x y
      → differing 0 xs ys ≡ next ++ differing (i + 1) (drop (i + 1) xs) (drop (i + 1) ys)
  differing_next x y next e f g =
      let left = differing (suc i) (drop (i + 1) xs) (drop (i + 1) ys) in
      so_far ∙ ap (λ l. now ++ l) (ap₂ (differing i) e f ∙ differing_split i x (drop (i + 1) xs) y (drop (i + 1) ys))
      ∙ sym (append_assoc now (name_listed i x y) left) ∙ ap (λ l. l ++ left) (sym g)
      ∙ ap (λ j. next ++ differing j (drop (i + 1) xs) (drop (i + 1) ys)) (one_more i)

  pub differing_all : drop i xs ≡ [] → now ≡ differing 0 xs ys
  unfolding differing
  differing_all e = sym (so_far ∙ ap (λ l. now ++ differing i l (drop i ys)) e ∙ append-nil now)

  pub differing_past : drop i ys ≡ [] → now ≡ differing 0 xs ys
  differing_past e = sym (so_far ∙ ap (λ l. now ++ l) (ap (differing i (drop i xs)) e ∙ differing_over i (drop i xs)) ∙ append-nil now)

-- ---- marks that were taken off

taken_over : (n : ℕ) (cs : List Bool) → taken_off n cs [] ≡ []
unfolding taken_off
taken_over n [] = refl
taken_over n (c ∷ cs) = refl

abbrev pub mark_listed : ℕ → Bool → Bool → List ℕ
mark_listed n c d = if c && not d then n ∷ [] else []

taken_split : (n : ℕ) (c : Bool) (cs : List Bool) (d : Bool) (ds : List Bool) → taken_off n (c ∷ cs) (d ∷ ds) ≡ mark_listed n c d ++ taken_off (suc n) cs ds
unfolding taken_off
taken_split n c cs d ds = by_test (c && not d)
  where
    by_test : (b : Bool) → (if b then n ∷ taken_off (suc n) cs ds else taken_off (suc n) cs ds) ≡ (if b then n ∷ [] else []) ++ taken_off (suc n) cs ds
    by_test true = refl
    by_test false = refl

module _ (cs ds : List Bool) (i : ℕ) (now : List ℕ) (so_far : taken_off 0 cs ds ≡ now ++ taken_off i (drop i cs) (drop i ds)) where
  pub taken_next : (c d : Bool) (next : List ℕ) → drop i cs ≡ c ∷ drop (i + 1) cs → drop i ds ≡ d ∷ drop (i + 1) ds → next ≡ now ++ mark_listed i c d
      → taken_off 0 cs ds ≡ next ++ taken_off (i + 1) (drop (i + 1) cs) (drop (i + 1) ds)
  taken_next c d next e f g =
      let left = taken_off (suc i) (drop (i + 1) cs) (drop (i + 1) ds) in
      so_far ∙ ap (λ l. now ++ l) (ap₂ (taken_off i) e f ∙ taken_split i c (drop (i + 1) cs) d (drop (i + 1) ds))
      ∙ sym (append_assoc now (mark_listed i c d) left) ∙ ap (λ l. l ++ left) (sym g)
      ∙ ap (λ j. next ++ taken_off j (drop (i + 1) cs) (drop (i + 1) ds)) (one_more i)

  pub taken_all : drop i cs ≡ [] → now ≡ taken_off 0 cs ds
  unfolding taken_off
  taken_all e = sym (so_far ∙ ap (λ l. now ++ taken_off i l (drop i ds)) e ∙ append-nil now)

  pub taken_past : drop i ds ≡ [] → now ≡ taken_off 0 cs ds
  taken_past e = sym (so_far ∙ ap (λ l. now ++ l) (ap (taken_off i (drop i cs)) e ∙ taken_over i (drop i cs)) ∙ append-nil now)

-- ---- lists that grow by one with a property

pub sized_more : (is : List ℕ) (i : ℕ) → AllByRecursion IsSized is → i < 2 ^ 32 → AllByRecursion IsSized (is ++ i ∷ [])
sized_more is i a h = AllOf_push IsSized is i a h

pub pushed_all : {X T E : Type 0} (P : X → Type 0) (r : Result T E) (old new : List X) (x : X) → OnOk r (new ≡ old ++ x ∷ []) → P x
    → IfOk r (λ _. AllByRecursion P old → AllByRecursion P new)
pushed_all P (Ok u) old new x e h = λ a. subst (AllByRecursion P) (sym e) (AllOf_push P old x a h)
pushed_all P (Err e) old new x o h = tt
