-- A run whose plain names get no new ones is renamed.
use Rattle.std.proofs.Common.{◌≡◌, ℕ, Bool, true, false, not, ◌||◌, List, [], ◌∷◌, Option, Some, None, is_some, reverse, if◌then◌else◌, refl, sym, ap, ap₂, ◌∙◌}
use Rattle.tree_nodes.proofs.Cases.{both}
use Rattle.tree_nodes.specs.Tree.{Parts, Text}
use Rattle.tree_places.proofs.Blind.{seen-blind}
use Rattle.tree_places.specs.Places.{Site, names, seen, sites}
use Rattle.tree_places.specs.Renaming.{IsRenamed, blind, is_plain, plain_names}
use Rattle.tree_places.specs.Chosen.{chosen, given_name, or_own, spare_plain}
use Rattle.tree_rename.specs.Formed.{AreFormed}
use Rattle.tree_rename.specs.Renamed.{renamed}
use Rattle.tree_rename.proofs.RenamedAlike.{renamed_alike}
use Rattle.tree_rename.proofs.RenamedMarks.{renamed_marks}
use Rattle.tree_rename.proofs.RenamedNames.{renamed_names}

-- trees that differ in names and marks alone have one list of sites
pub same_sites : (t u : Parts) → blind u ≡ blind t → sites u ≡ sites t
unfolding sites
same_sites t u e = ap (λ s. reverse s.sites) (sym (seen-blind u) ∙ ap seen e ∙ seen-blind t)

chosen_nothing : (given : List Text) (xs : List Text) → chosen given [] xs ≡ xs
unfolding chosen given_name or_own
chosen_nothing given [] = refl
chosen_nothing given (x ∷ xs) = ap (λ ys. x ∷ ys) (chosen_nothing given xs)

-- a site's name, before the plain names that follow
abbrev with_site : Bool → Text → List Text → List Text
with_site plain x xs = if plain then x ∷ xs else xs

spared : (plain : Bool) (c : Option ℕ) (given : List Text) (cs : List (Option ℕ)) (x : Text) (xs ys : List Text)
    → (not plain || not (is_some c)) ≡ true → xs ≡ ys
    → with_site plain (or_own (given_name given (c ∷ cs)) x) xs ≡ with_site plain x ys
unfolding given_name or_own
spared true None given cs x xs ys h e = ap (λ zs. x ∷ zs) e
spared true (Some i) given cs x xs ys h e = absurd (cc)
spared false c given cs x xs ys h e = e

pub plain_chosen : (given : List Text) (ss : List Site) (cs : List (Option ℕ)) (xs : List Text) → spare_plain ss cs ≡ true
    → plain_names ss (chosen given cs xs) ≡ plain_names ss xs
unfolding chosen plain_names spare_plain
plain_chosen given [] [] [] h = refl
plain_chosen given [] [] (x ∷ xs) h = refl
plain_chosen given [] (c ∷ cs) [] h = refl
plain_chosen given [] (c ∷ cs) (x ∷ xs) h = refl
plain_chosen given (s ∷ ss) [] [] h = refl
plain_chosen given (s ∷ ss) (c ∷ cs) [] h = refl
plain_chosen given (s ∷ ss) [] (x ∷ xs) h = ap (plain_names (s ∷ ss)) (chosen_nothing given (x ∷ xs))
plain_chosen given (s ∷ ss) (c ∷ cs) (x ∷ xs) h =
    let parts = both (not (is_plain s) || not (is_some c)) (spare_plain ss cs) h in
    spared (is_plain s) c given cs x _ _ parts.0 (plain_chosen given ss cs xs parts.1)

-- the fact: what the walk makes of a tree is the tree renamed
pub walk_renames : (given : List Text) (cs : List (Option ℕ)) (t : Parts) → AreFormed t → spare_plain (sites t) cs ≡ true
    → IsRenamed t (renamed given cs t)
walk_renames given cs t formed spare =
    let u = renamed given cs t in
    let alike = renamed_alike given cs t formed in
    record {
      alike = alike;
      plain = ap₂ plain_names (same_sites t u alike) (renamed_names given cs t formed) ∙ plain_chosen given (sites t) cs (names t) spare;
      marked = renamed_marks given cs t formed;
    }
