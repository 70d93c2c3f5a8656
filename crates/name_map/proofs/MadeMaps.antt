-- What is listed where names or marks differ, and that it fits and puts back.
use Rattle.std.proofs.Common.{◌≡◌, ℕ, zero, suc, ◌+◌, ◌≤◌, ◌<◌, ◌^◌, Bool, true, false, not, ◌&&◌, ◌||◌, nat_lt, List, [], ◌∷◌, ◌++◌, length, map, Option, Some, None, slice_get, slice_set, bytes_eq, if◌then◌else◌, refl, sym, ap, ap₂, subst, ◌∙◌, arith}
use Rattle.std.proofs.lemmas.List.{append_assoc, length-map}
use Rattle.std.specs.List.{AllByRecursion}
use Rattle.name_map.proofs.Restored.{program_short}
use Rattle.name_map.proofs.RenamedTold.{as_many_marks, as_many_names, renamed_back, renamed_keeps_plain}
use Rattle.name_map.specs.Filled.{apply_map, filled_tree, given}
use Rattle.name_map.specs.Fits.{Fits, is_off, is_old_name, mark_fits, marks_fit, name_fits, names_fit, plain_places}
use Rattle.name_map.specs.Kept.{keeps_plain}
use Rattle.name_map.specs.Made.{IsGivenBack, IsMapOf}
use Rattle.name_map.specs.Undoing.{OldName, Undoing, differing, old_name, put_marks, put_names, taken_off}
use Rattle.tree_core.specs.Program.{IsProgram}
use Rattle.tree_nodes.proofs.Cases.{both as parts_of_both, bytes_equal}
use Rattle.tree_nodes.specs.Tree.{Text, Tree, alone}
use Rattle.tree_places.proofs.Numbers.{one_name_each}
use Rattle.tree_places.specs.Places.{names, sites}
use Rattle.tree_places.specs.Renaming.{IsRenamed, agreements, both, is_plain, marks}
use Rattle.tree_rename.proofs.IdentifierNames.{all_named}
use Rattle.tree_rename.proofs.RenamedPrograms.{program_formed}
use Rattle.tree_rename.proofs.WalkRenames.{same_sites}
use Rattle.tree_rename.specs.Laws.{IsName, IsShort}

there : {X : Type 0} (pre : List X) (x : X) (xs : List X) → slice_get (pre ++ x ∷ xs) (length pre) ≡ Some x
there [] x xs = refl
there (p ∷ pre) x xs = there pre x xs

set_there : {X : Type 0} (pre : List X) (y x : X) (ys : List X) → slice_set (pre ++ y ∷ ys) (length pre) x ≡ (pre ++ x ∷ []) ++ ys
set_there [] y x ys = refl
set_there (p ∷ pre) y x ys = ap (λ zs. p ∷ zs) (set_there pre y x ys)

one_longer : {X : Type 0} (pre : List X) (x : X) (n : ℕ) → length pre ≡ n → length (pre ++ x ∷ []) ≡ suc n
one_longer [] x n e = ap suc e
one_longer (p ∷ pre) x zero e = absurd (cc)
one_longer (p ∷ pre) x (suc n) e = ap suc (one_longer pre x n (cc))

not_below : (n m : ℕ) → m ≤ n → not (nat_lt n m) ≡ true
not_below n m h = search arith

all_three : (a b c : Bool) → a ≡ true → b ≡ true → c ≡ true → (a && b && c) ≡ true
all_three a b c e f g = rw (e, f, g) refl

-- ---- names

put_on : (pre : List Text) (n : ℕ) (xs ys : List Text) → length pre ≡ n → length xs ≡ length ys → put_names (differing n xs ys) (pre ++ ys) ≡ pre ++ xs
unfolding differing put_names
put_on pre n [] [] l e = refl
put_on pre n [] (y ∷ ys) l e = absurd (cc)
put_on pre n (x ∷ xs) [] l e = absurd (cc)
put_on pre n (x ∷ xs) (y ∷ ys) l e =
    by_test (bytes_eq x y) refl (put_on (pre ++ x ∷ []) (suc n) xs ys (one_longer pre x n l) (cc) ∙ append_assoc pre (x ∷ []) xs)
  where
    by_test : (b : Bool) → bytes_eq x y ≡ b → put_names (differing (suc n) xs ys) ((pre ++ x ∷ []) ++ ys) ≡ pre ++ x ∷ xs
        → put_names (if b then differing (suc n) xs ys else old_name n x ∷ differing (suc n) xs ys) (pre ++ y ∷ ys) ≡ pre ++ x ∷ xs
    by_test true h later =
        ap (λ z. put_names (differing (suc n) xs ys) (pre ++ z ∷ ys)) (sym (bytes_equal x y h))
        ∙ ap (put_names (differing (suc n) xs ys)) (sym (append_assoc pre (x ∷ []) ys)) ∙ later
    by_test false h later =
        ap (λ i. put_names (differing (suc n) xs ys) (slice_set (pre ++ y ∷ ys) i x)) (sym l)
        ∙ ap (put_names (differing (suc n) xs ys)) (set_there pre y x ys) ∙ later

pub put_differing : (xs ys : List Text) → length xs ≡ length ys → put_names (differing 0 xs ys) ys ≡ xs
put_differing xs ys e = put_on [] 0 xs ys refl e

not_plain : (p : Bool) → (not p || false) ≡ true → p ≡ false
not_plain true h = absurd (cc)
not_plain false h = refl

place_off : (pre : List Bool) (p : Bool) (ps : List Bool) (n : ℕ) → length pre ≡ n → p ≡ false → is_off (slice_get (pre ++ p ∷ ps) n) ≡ true
place_off pre p ps n l e =
    ap (λ i. is_off (slice_get (pre ++ p ∷ ps) i)) (sym l) ∙ ap is_off (there pre p ps) ∙ ap not e

old_is : (x : Text) → IsName x → IsShort x → is_old_name x ≡ true
unfolding is_old_name
old_is x h l =
    let low : length x < 2 ^ 32 = l in
    let short : nat_lt (length x) (2 ^ 32) ≡ true = search (arith, low) in
    ap₂ (λ a b. a && b) short h.1

fit_on : (pre ps : List Bool) (n least : ℕ) (xs ys : List Text) → length pre ≡ n → least ≤ n → length xs ≡ length ps → length ys ≡ length ps
    → keeps_plain ps xs ys ≡ true → AllByRecursion IsName xs → AllByRecursion IsShort xs
    → names_fit (pre ++ ps) least (differing n xs ys) ≡ true
unfolding differing keeps_plain name_fits names_fit
fit_on pre [] n least [] ys l m e f k a s = refl
fit_on pre [] n least (x ∷ xs) ys l m e f k a s = absurd (cc)
fit_on pre (p ∷ ps) n least [] ys l m e f k a s = absurd (cc)
fit_on pre (p ∷ ps) n least (x ∷ xs) [] l m e f k a s = absurd (cc)
fit_on pre (p ∷ ps) n least (x ∷ xs) (y ∷ ys) l m e f k a s =
    let parts = parts_of_both (not p || bytes_eq x y) (keeps_plain ps xs ys) k in
    by_test (bytes_eq x y) parts.0 (λ from h.
    ap (λ bs. names_fit bs from (differing (suc n) xs ys)) (sym (append_assoc pre (p ∷ []) ps))
    ∙ fit_on (pre ++ p ∷ []) ps (suc n) from xs ys (one_longer pre p n l) h (cc) (cc) parts.1 a.1 s.1)
  where
    by_test : (b : Bool) → (not p || b) ≡ true
        → ((from : ℕ) → from ≤ suc n → names_fit (pre ++ p ∷ ps) from (differing (suc n) xs ys) ≡ true)
        → names_fit (pre ++ p ∷ ps) least (if b then differing (suc n) xs ys else old_name n x ∷ differing (suc n) xs ys) ≡ true
    by_test true h later = later least (omega (arith, m))
    by_test false h later =
        let here : (not (nat_lt n least) && is_off (slice_get (pre ++ p ∷ ps) n) && is_old_name x) ≡ true =
        all_three (not (nat_lt n least)) (is_off (slice_get (pre ++ p ∷ ps) n)) (is_old_name x) (not_below n least m) (place_off pre p ps n l (not_plain p h)) (old_is x a.0 s.0) in
        ap₂ (λ u v. u && v) here (later (suc n) (omega arith))

-- the names that differ are for places that aren't plain, in turn
pub differing_fit : (ps : List Bool) (xs ys : List Text) → length xs ≡ length ps → length ys ≡ length ps → keeps_plain ps xs ys ≡ true
    → AllByRecursion IsName xs → AllByRecursion IsShort xs → names_fit ps 0 (differing 0 xs ys) ≡ true
differing_fit ps xs ys e f k a s = fit_on [] ps 0 0 xs ys refl (omega arith) e f k a s

-- ---- marks

taken_on : (pre : List Bool) (n : ℕ) (cs ds gs : List Bool) → length pre ≡ n → length cs ≡ length ds → ds ≡ both cs gs
    → put_marks (taken_off n cs ds) (pre ++ ds) ≡ pre ++ cs
unfolding both put_marks taken_off
taken_on pre n [] [] gs l e f = refl
taken_on pre n [] (d ∷ ds) gs l e f = absurd (cc)
taken_on pre n (c ∷ cs) [] gs l e f = absurd (cc)
taken_on pre n (c ∷ cs) (d ∷ ds) [] l e f = absurd (cc)
taken_on pre n (true ∷ cs) (true ∷ ds) (g ∷ gs) l e f =
    ap (put_marks (taken_off (suc n) cs ds)) (sym (append_assoc pre (true ∷ []) ds))
    ∙ taken_on (pre ++ true ∷ []) (suc n) cs ds gs (one_longer pre true n l) (cc) (cc) ∙ append_assoc pre (true ∷ []) cs
taken_on pre n (true ∷ cs) (false ∷ ds) (g ∷ gs) l e f =
    ap (λ i. put_marks (taken_off (suc n) cs ds) (slice_set (pre ++ false ∷ ds) i true)) (sym l)
    ∙ ap (put_marks (taken_off (suc n) cs ds)) (set_there pre false true ds)
    ∙ taken_on (pre ++ true ∷ []) (suc n) cs ds gs (one_longer pre true n l) (cc) (cc) ∙ append_assoc pre (true ∷ []) cs
taken_on pre n (false ∷ cs) (true ∷ ds) (g ∷ gs) l e f = absurd (cc)
taken_on pre n (false ∷ cs) (false ∷ ds) (g ∷ gs) l e f =
    ap (put_marks (taken_off (suc n) cs ds)) (sym (append_assoc pre (false ∷ []) ds))
    ∙ taken_on (pre ++ false ∷ []) (suc n) cs ds gs (one_longer pre false n l) (cc) (cc) ∙ append_assoc pre (false ∷ []) cs

pub put_taken : (cs ds gs : List Bool) → length cs ≡ length ds → ds ≡ both cs gs → put_marks (taken_off 0 cs ds) ds ≡ cs
put_taken cs ds gs e f = taken_on [] 0 cs ds gs refl e f

marks_on : (pre : List Bool) (n least : ℕ) (cs ds : List Bool) → length pre ≡ n → least ≤ n → marks_fit (pre ++ ds) least (taken_off n cs ds) ≡ true
unfolding mark_fits marks_fit taken_off
marks_on pre n least [] ds l m = refl
marks_on pre n least (c ∷ cs) [] l m = refl
marks_on pre n least (true ∷ cs) (true ∷ ds) l m =
    ap (λ bs. marks_fit bs least (taken_off (suc n) cs ds)) (sym (append_assoc pre (true ∷ []) ds))
    ∙ marks_on (pre ++ true ∷ []) (suc n) least cs ds (one_longer pre true n l) (omega (arith, m))
marks_on pre n least (true ∷ cs) (false ∷ ds) l m =
    let here : (not (nat_lt n least) && is_off (slice_get (pre ++ false ∷ ds) n)) ≡ true =
    ap₂ (λ u v. u && v) (not_below n least m) (place_off pre false ds n l refl) in
    ap₂ (λ u v. u && v) here
    (ap (λ bs. marks_fit bs (suc n) (taken_off (suc n) cs ds)) (sym (append_assoc pre (false ∷ []) ds))
    ∙ marks_on (pre ++ false ∷ []) (suc n) (suc n) cs ds (one_longer pre false n l) (omega arith))
marks_on pre n least (false ∷ cs) (d ∷ ds) l m =
    ap (λ bs. marks_fit bs least (taken_off (suc n) cs ds)) (sym (append_assoc pre (d ∷ []) ds))
    ∙ marks_on (pre ++ d ∷ []) (suc n) least cs ds (one_longer pre d n l) (omega (arith, m))

-- the marks that were taken off are off, in turn
pub taken_fit : (cs ds : List Bool) → marks_fit ds 0 (taken_off 0 cs ds) ≡ true
taken_fit cs ds = marks_on [] 0 0 cs ds refl (omega arith)

-- ---- the facts on the map of a renaming

module _ (t u : Tree) (m : Undoing) (made : IsMapOf t u m) where
  same_plain : plain_places u ≡ plain_places t
  same_plain = ap (map is_plain) (same_sites (alone t) (alone u) (made.renamed).alike)

  -- it gives back the tree that was renamed
  pub made_restores : apply_map u m ≡ t
  made_restores =
      ap₂ (λ xs bs. filled_tree (given xs bs) u)
      (ap (λ os. put_names os (names (alone u))) made.names ∙ put_differing (names (alone t)) (names (alone u)) (one_name_each (alone t) ∙ sym (as_many_names (alone t) (alone u) (made.renamed).alike)))
      (ap (λ is. put_marks is (marks (alone u))) made.marks ∙ put_taken (marks (alone t)) (marks (alone u)) (agreements (alone u)) (as_many_marks (alone t) (alone u) (made.renamed).alike) (made.renamed).marked)
      ∙ renamed_back t u made.renamed

  -- and fits the other
  pub made_fits : IsProgram t → Fits u m
  made_fits p =
      let long : length (map is_plain (sites (alone t))) ≡ length (sites (alone t)) = length-map (sites (alone t)) is_plain in
      record {
        names = ap₂ (λ ps os. names_fit ps 0 os) same_plain made.names
            ∙ differing_fit (plain_places t) (names (alone t)) (names (alone u)) (one_name_each (alone t) ∙ sym long) (as_many_names (alone t) (alone u) (made.renamed).alike ∙ sym long)
            (renamed_keeps_plain t u made.renamed) (all_named (alone t) (program_formed t p).1) (program_short t p);
        marks = ap (marks_fit (marks (alone u)) 0) made.marks ∙ taken_fit (marks (alone t)) (marks (alone u));
        program = subst IsProgram (sym made_restores) p;
      }

-- what a map that was made gives back is the tree that was renamed
pub given_back : (u w : Tree) (m : Undoing) → w ≡ apply_map u m → IsGivenBack u m w
given_back u w m e t made = e ∙ made_restores t u m made
