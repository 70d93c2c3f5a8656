-- A renaming told by three tests: names and marks put back give the tree; plain names are kept; marks are as the names of key and value have them.
use Rattle.std.proofs.Common.{◌≡◌, ◌↔◌, IsTrue, ℕ, suc, Bool, true, false, not, ◌&&◌, ◌||◌, List, [], ◌∷◌, length, map, bytes_eq, if◌then◌else◌, refl, sym, ap, ap₂, ◌∙◌}
use Rattle.std.proofs.lemmas.List.{length-map}
use Rattle.name_map.proofs.FilledAlike.{filled_alike, properties_blind}
use Rattle.name_map.proofs.FilledBack.{filled_back, length_marks}
use Rattle.name_map.proofs.ListedPairs.{pairs_agreements, pairs_marks}
use Rattle.name_map.proofs.SameTrees.{alone_same}
use Rattle.name_map.specs.Filled.{filled, filled_tree, given, properties}
use Rattle.name_map.specs.Fits.{plain_places}
use Rattle.name_map.specs.Kept.{keeps_marks, keeps_plain}
use Rattle.name_map.specs.Spots.{pairs}
use Rattle.name_map.specs.declared.spots.Pair.{Pair}
use Rattle.tree_core.specs.Program.{IsProgram}
use Rattle.tree_nodes.proofs.Cases.{both as parts_of_both, bytes_equal, bytes_same}
use Rattle.tree_nodes.specs.Tree.{Parts, Text, Tree, alone}
use Rattle.tree_places.proofs.Numbers.{one_name_each}
use Rattle.tree_places.specs.Places.{Site, names, sites}
use Rattle.tree_places.specs.Renaming.{IsRenamed, agreements, blind, both, is_plain, marks, plain_names}
use Rattle.tree_rename.proofs.RenamedPrograms.{program_formed}
use Rattle.tree_rename.proofs.WalkRenames.{same_sites}

-- ---- plain names

pub plain_stay : (ss : List Site) (xs ys : List Text) → length xs ≡ length ss → length ys ≡ length ss → keeps_plain (map is_plain ss) xs ys ≡ true
    → plain_names ss ys ≡ plain_names ss xs
unfolding keeps_plain plain_names
plain_stay [] xs ys e f h = refl
plain_stay (s ∷ ss) [] ys e f h = absurd (cc)
plain_stay (s ∷ ss) (x ∷ xs) [] e f h = absurd (cc)
plain_stay (s ∷ ss) (x ∷ xs) (y ∷ ys) e f h =
    let parts = parts_of_both (not (is_plain s) || bytes_eq x y) (keeps_plain (map is_plain ss) xs ys) h in
    by_test (is_plain s) parts.0 (plain_stay ss xs ys (cc) (cc) parts.1)
  where
    by_test : (b : Bool) → (not b || bytes_eq x y) ≡ true → plain_names ss ys ≡ plain_names ss xs
        → (if b then y ∷ plain_names ss ys else plain_names ss ys) ≡ (if b then x ∷ plain_names ss xs else plain_names ss xs)
    by_test true k later = ap₂ (λ z zs. z ∷ zs) (sym (bytes_equal x y k)) later
    by_test false k later = later

pub plain_stayed : (ss : List Site) (xs ys : List Text) → length xs ≡ length ss → length ys ≡ length ss → plain_names ss ys ≡ plain_names ss xs
    → keeps_plain (map is_plain ss) xs ys ≡ true
unfolding keeps_plain plain_names
plain_stayed [] xs ys e f h = refl
plain_stayed (s ∷ ss) [] ys e f h = absurd (cc)
plain_stayed (s ∷ ss) (x ∷ xs) [] e f h = absurd (cc)
plain_stayed (s ∷ ss) (x ∷ xs) (y ∷ ys) e f h = by_test (is_plain s) h (λ k. plain_stayed ss xs ys (cc) (cc) k)
  where
    by_test : (b : Bool) → (if b then y ∷ plain_names ss ys else plain_names ss ys) ≡ (if b then x ∷ plain_names ss xs else plain_names ss xs)
        → (plain_names ss ys ≡ plain_names ss xs → keeps_plain (map is_plain ss) xs ys ≡ true)
        → ((not b || bytes_eq x y) && keeps_plain (map is_plain ss) xs ys) ≡ true
    by_test true k later =
        let first : y ≡ x = cc in
        let same : bytes_eq x y ≡ true = ap (bytes_eq x) first ∙ bytes_same x in
        ap₂ (λ a b. a && b) same (later (cc))
    by_test false k later = later k

-- ---- marks

mark_is : (wanted m : Bool) → (if wanted then m else not m) ≡ true → m ≡ wanted
mark_is true m h = h
mark_is false true h = absurd (cc)
mark_is false false h = refl

is_mark : (wanted m : Bool) → m ≡ wanted → (if wanted then m else not m) ≡ true
is_mark true m h = h
is_mark false true h = absurd (cc)
is_mark false false h = refl

pub marks_stay : (bs : List Bool) (ps : List Pair) → length bs ≡ length ps → keeps_marks bs ps ≡ true
    → map (λ (p : Pair). p.marked) ps ≡ both bs (map (λ (p : Pair). p.agrees) ps)
unfolding keeps_marks both
marks_stay [] [] e h = refl
marks_stay [] (p ∷ ps) e h = absurd (cc)
marks_stay (b ∷ bs) [] e h = absurd (cc)
marks_stay (b ∷ bs) (p ∷ ps) e h =
    let parts = parts_of_both (if b && p.agrees then p.marked else not p.marked) (keeps_marks bs ps) h in
    ap₂ (λ z zs. z ∷ zs) (mark_is (b && p.agrees) p.marked parts.0) (marks_stay bs ps (cc) parts.1)

pub marks_stayed : (bs : List Bool) (ps : List Pair) → length bs ≡ length ps → map (λ (p : Pair). p.marked) ps ≡ both bs (map (λ (p : Pair). p.agrees) ps)
    → keeps_marks bs ps ≡ true
unfolding keeps_marks both
marks_stayed [] [] e h = refl
marks_stayed [] (p ∷ ps) e h = refl
marks_stayed (b ∷ bs) [] e h = refl
marks_stayed (b ∷ bs) (p ∷ ps) e h =
    let first : p.marked ≡ (b && p.agrees) = cc in
    ap₂ (λ x y. x && y) (is_mark (b && p.agrees) p.marked first) (marks_stayed bs ps (cc) (cc))

-- ---- trees that look alike

module _ (t u : Parts) (alike : blind u ≡ blind t) where
  pub as_many_names : length (names u) ≡ length (sites t)
  as_many_names = one_name_each u ∙ ap length (same_sites t u alike)

  pub as_many_marks : length (marks t) ≡ length (marks u)
  as_many_marks = length_marks t ∙ sym (properties_blind t) ∙ ap properties (sym alike) ∙ properties_blind u ∙ sym (length_marks u)

  pub as_many_pairs : length (marks t) ≡ length (pairs u)
  as_many_pairs = as_many_marks ∙ ap length (sym (pairs_marks u)) ∙ length-map (pairs u) (λ (p : Pair). p.marked)

-- ---- the facts

module _ (t u : Tree) where
  abbrev back : Tree
  back = filled_tree (given (names (alone t)) (marks (alone t))) u

  -- the three tests tell a renaming
  pub told_renamed : IsProgram u → back ≡ t → keeps_plain (plain_places t) (names (alone t)) (names (alone u)) ≡ true
      → keeps_marks (marks (alone t)) (pairs (alone u)) ≡ true → IsRenamed (alone t) (alone u)
  unfolding filled
  told_renamed p e k m =
      let formed = (program_formed u p).0 in
      let alike : blind (alone u) ≡ blind (alone t) =
      sym (filled_alike (given (names (alone t)) (marks (alone t))) (alone u) formed) ∙ ap (λ w. blind (alone w)) e in
      record {
        alike = alike;
        plain = ap (λ ss. plain_names ss (names (alone u))) (same_sites (alone t) (alone u) alike)
            ∙ plain_stay (sites (alone t)) (names (alone t)) (names (alone u)) (one_name_each (alone t)) (as_many_names (alone t) (alone u) alike) k;
        marked = sym (pairs_marks (alone u)) ∙ marks_stay (marks (alone t)) (pairs (alone u)) (as_many_pairs (alone t) (alone u) alike) m
            ∙ ap (both (marks (alone t))) (pairs_agreements (alone u));
      }

  -- and a renaming passes each
  pub renamed_back : IsRenamed (alone t) (alone u) → back ≡ t
  unfolding filled
  renamed_back r = alone_same back t (filled_back (alone u) (alone t) r.alike)

  pub renamed_keeps_plain : IsRenamed (alone t) (alone u) → keeps_plain (plain_places t) (names (alone t)) (names (alone u)) ≡ true
  renamed_keeps_plain r =
      plain_stayed (sites (alone t)) (names (alone t)) (names (alone u)) (one_name_each (alone t)) (as_many_names (alone t) (alone u) r.alike)
      (ap (λ ss. plain_names ss (names (alone u))) (sym (same_sites (alone t) (alone u) r.alike)) ∙ r.plain)

  pub renamed_keeps_marks : IsRenamed (alone t) (alone u) → keeps_marks (marks (alone t)) (pairs (alone u)) ≡ true
  renamed_keeps_marks r =
      marks_stayed (marks (alone t)) (pairs (alone u)) (as_many_pairs (alone t) (alone u) r.alike)
      (pairs_marks (alone u) ∙ r.marked ∙ ap (both (marks (alone t))) (sym (pairs_agreements (alone u))))

  -- so together they tell exactly a renaming
  pub told : IsProgram u → (a b c : Bool) → IsTrue a ↔ (back ≡ t) → b ≡ keeps_plain (plain_places t) (names (alone t)) (names (alone u))
      → c ≡ keeps_marks (marks (alone t)) (pairs (alone u)) → IsTrue (a && b && c) ↔ IsRenamed (alone t) (alone u)
  told p a b c same plain marked =
      let yes : IsTrue (a && b && c) → IsRenamed (alone t) (alone u) = λ e.
      let all = parts_of_both (a && b) c e in
      let two = parts_of_both a b all.0 in
      told_renamed p (same.0 two.0) (sym plain ∙ two.1) (sym marked ∙ all.1) in
      let back_again : IsRenamed (alone t) (alone u) → IsTrue (a && b && c) = λ r.
      ap₂ (λ x y. x && y) (ap₂ (λ x y. x && y) (same.1 (renamed_back r)) (plain ∙ renamed_keeps_plain r)) (marked ∙ renamed_keeps_marks r) in
      (yes, back_again)
