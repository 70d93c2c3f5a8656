-- What undoes a renaming, as data. Places, and Properties, have numbers from 0 in printing order.
use Rattle.std.specs.Coded.{Coded, code_by, coded×, coded_list, coded_ℕ}
use Rattle.std.specs.Prelude.{ℕ, zero, suc, ◌<◌, ◌^◌, Bool, true, false, not, ◌&&◌, List, [], ◌∷◌, bytes_eq, IsUtf8, slice_set, if◌then◌else◌, refl}
use Rattle.tree_nodes.specs.Tree.{Text}

-- the name that the place with this number had
pub record OldName : Type 0 where
  pub place : ℕ
  pub name : Text

abbrev pub old_name : ℕ → Text → OldName
old_name n x = record { place = n; name = x }

-- a number of 32 bits
abbrev pub IsSized : ℕ → Type 0
IsSized i = i < 2 ^ 32

-- as one that is listed: its number has 32 bits, and its name is in UTF-8
abbrev pub IsOldName : OldName → Type 0
IsOldName o = IsSized o.place × IsUtf8 o.name

-- the old names, and the numbers of the Properties whose shorthand mark was on
pub record Undoing : Type 0 where
  pub names : List OldName
  pub marks : List ℕ

abbrev pub undoing : List OldName → List ℕ → Undoing
undoing names marks = record { names = names; marks = marks }

-- ---- put back

-- names, with the old ones at their places
unfoldable pub put_names : List OldName → List Text → List Text
put_names [] xs = xs
put_names (o ∷ os) xs = put_names os (slice_set xs o.place o.name)

-- marks, with these on
unfoldable pub put_marks : List ℕ → List Bool → List Bool
put_marks [] bs = bs
put_marks (i ∷ is) bs = put_marks is (slice_set bs i true)

-- ---- what differs

-- where the names xs and ys of the places from the n-th on differ: those of xs
unfoldable pub differing : ℕ → List Text → List Text → List OldName
differing n [] ys = []
differing n (x ∷ xs) [] = []
differing n (x ∷ xs) (y ∷ ys) = if bytes_eq x y then differing (suc n) xs ys else old_name n x ∷ differing (suc n) xs ys

-- which of the marks from the n-th on are on among the first and off among the others
unfoldable pub taken_off : ℕ → List Bool → List Bool → List ℕ
taken_off n [] ds = []
taken_off n (c ∷ cs) [] = []
taken_off n (c ∷ cs) (d ∷ ds) = if c && not d then n ∷ taken_off (suc n) cs ds else taken_off (suc n) cs ds

-- ---- for models

abbrev pub coded_names : Coded (List OldName)
coded_names = coded_list (code_by (ℕ × List ℕ) (coded× coded_ℕ (coded_list coded_ℕ)) (λ o. (o.place, o.name)) (λ p. record { place = p.0; name = p.1 }) (λ _. refl))

abbrev pub coded_undoing : Coded Undoing
coded_undoing = code_by (List OldName × List ℕ) (coded× coded_names (coded_list coded_ℕ)) (λ m. (m.names, m.marks)) (λ p. record { names = p.0; marks = p.1 }) (λ _. refl)
