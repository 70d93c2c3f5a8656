-- What a map that fits gives back.
use Rattle.std.proofs.Common.{◌≡◌, ℕ, zero, suc, ◌≤◌, ◌<◌, ◌^◌, Bool, true, List, [], ◌∷◌, length, IsUtf8, slice_set, refl, sym, ap, ap₂, ◌∙◌, arith}
use Rattle.std.proofs.lemmas.List.{length-set}
use Rattle.std.specs.List.{AllByRecursion}
use Rattle.name_map.proofs.FilledPrograms.{filled_program, program_placed}
use Rattle.name_map.proofs.NamesChosen.{FitsPlace, all_fit}
use Rattle.name_map.specs.Filled.{apply_map, filled_tree, given}
use Rattle.name_map.specs.Fits.{Fits, marks_fit, names_fit, plain_places}
use Rattle.name_map.specs.Undoing.{OldName, Undoing, put_marks, put_names}
use Rattle.tree_core.specs.LongestText.{longest_text}
use Rattle.tree_core.specs.Program.{IsProgram}
use Rattle.tree_nodes.specs.Standing.{is_placed}
use Rattle.tree_nodes.specs.Tree.{Text, Tree, alone}
use Rattle.tree_places.specs.Places.{names}
use Rattle.tree_places.specs.Renaming.{marks}
use Rattle.tree_rename.proofs.IdentifierNames.{all_named}
use Rattle.tree_rename.proofs.RenamedNames.{count_names}
use Rattle.tree_rename.proofs.RenamedPrograms.{program_formed}
use Rattle.tree_rename.proofs.RenamedTexts.{names_short}
use Rattle.tree_rename.specs.Laws.{IsName, IsShort}
use Rattle.tree_rename.specs.Renamed.{count}

names_set : (xs : List Text) (i : ℕ) (y : Text) → AllByRecursion IsName xs → IsName y → AllByRecursion IsName (slice_set xs i y)
names_set [] i y a h = a
names_set (x ∷ xs) zero y a h = (h, a.1)
names_set (x ∷ xs) (suc i) y a h = (a.0, names_set xs i y a.1 h)

names_put : (plain : List Bool) (os : List OldName) (xs : List Text) → AllByRecursion (FitsPlace plain) os → AllByRecursion (λ o. IsUtf8 o.name) os
    → AllByRecursion IsName xs → AllByRecursion IsName (put_names os xs)
unfolding put_names
names_put plain [] xs f t a = a
names_put plain (o ∷ os) xs f t a = names_put plain os (slice_set xs o.place o.name) f.1 t.1 (names_set xs o.place o.name a (t.0, (f.0).name))

short_set : (xs : List Text) (i : ℕ) (y : Text) → AllByRecursion IsShort xs → IsShort y → AllByRecursion IsShort (slice_set xs i y)
short_set [] i y a h = a
short_set (x ∷ xs) zero y a h = (h, a.1)
short_set (x ∷ xs) (suc i) y a h = (a.0, short_set xs i y a.1 h)

short_put : (plain : List Bool) (os : List OldName) (xs : List Text) → AllByRecursion (FitsPlace plain) os → AllByRecursion IsShort xs → AllByRecursion IsShort (put_names os xs)
unfolding put_names
short_put plain [] xs f a = a
short_put plain (o ∷ os) xs f a = short_put plain os (slice_set xs o.place o.name) f.1 (short_set xs o.place o.name a (f.0).short)

-- the names of a program
pub program_short : (u : Tree) → IsProgram u → AllByRecursion IsShort (names (alone u))
program_short u p =
    let low : longest_text u.fields < 2 ^ 32 = p.3 in
    names_short (alone u) (omega (arith, low))

length_put : (os : List OldName) (xs : List Text) → length (put_names os xs) ≡ length xs
unfolding put_names
length_put [] xs = refl
length_put (o ∷ os) xs = length_put os (slice_set xs o.place o.name) ∙ length-set xs o.place o.name

-- the fact: a map fits if its lists do and the tree that it gives is placed
pub fits : (u : Tree) (m : Undoing) → IsProgram u → names_fit (plain_places u) 0 m.names ≡ true → AllByRecursion (λ o. IsUtf8 o.name) m.names
    → marks_fit (marks (alone u)) 0 m.marks ≡ true → is_placed (apply_map u m) ≡ true → Fits u m
fits u m p a t b placed =
    let xs = names (alone u) in
    let all = names_put (plain_places u) m.names xs (all_fit (plain_places u) 0 m.names a) t (all_named (alone u) (program_formed u p).1) in
    let short = short_put (plain_places u) m.names xs (all_fit (plain_places u) 0 m.names a) (program_short u p) in
    let enough : count (alone u) ≤ length (put_names m.names xs) = omega (arith, count_names (alone u), length_put m.names xs) in
    record {
      names = a;
      marks = b;
      program = filled_program (given (put_names m.names xs) (put_marks m.marks (marks (alone u)))) u p all short enough placed;
    }

-- what is filled with these names and marks is what the map gives
pub applied : (u w : Tree) (m : Undoing) (xs : List Text) (bs : List Bool) → w ≡ filled_tree (given xs bs) u
    → xs ≡ put_names m.names (names (alone u)) → bs ≡ put_marks m.marks (marks (alone u)) → w ≡ apply_map u m
applied u w m xs bs e f g = e ∙ ap₂ (λ ys cs. filled_tree (given ys cs) u) f g

-- a map that doesn't give a placed tree doesn't fit
pub misplaced : (u : Tree) (m : Undoing) → Fits u m → is_placed (apply_map u m) ≡ true
misplaced u m f = program_placed (apply_map u m) f.program
