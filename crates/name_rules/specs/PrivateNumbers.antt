-- The new names of private members (after oxc_mangler; that the names of open classes stay, and that others avoid them, is our own).
use Rattle.std.specs.Prelude.{ℕ, zero, suc, ◌+◌, Bool, false, not, List, [], ◌∷◌, map, length, Option, Some, None, filter, sum, if◌then◌else◌}
use Rattle.std.specs.List.{flat_map}
use Rattle.name_rules.specs.GivenNames.{given_names}
use Rattle.name_rules.specs.Options.{Options}
use Rattle.name_rules.specs.ShortNames.{short}
use Rattle.tree_nodes.specs.Tree.{Parts, Text}
use Rattle.tree_places.specs.Places.{Place, places}
use Rattle.scope_rules.specs.Bindings.{same_name}
use Rattle.scope_rules.specs.Evals.{is_open}
use Rattle.scope_rules.specs.PrivateNames.{declaring_class, is_among, private_names}

-- where a name stands in a list
unfoldable pub index_of : Text → List Text → ℕ
index_of x [] = 0
index_of x (y ∷ ys) = if same_name x y then 0 else suc (index_of x ys)

-- of these classes: the private names of the open ones, and how many names the others declare, each class its own
unfoldable pub open_names : List Place → List ℕ → List Text
open_names ps cs = flat_map (private_names ps) (filter (is_open ps) cs)

unfoldable pub closed_count : List Place → List ℕ → ℕ
closed_count ps cs = sum (map (λ c. length (private_names ps c)) (filter (λ c. not (is_open ps c)) cs))

-- the n-th number, from k on, whose short name isn't listed. Fuel is how many are asked
unfoldable pub nth_unlisted : List Text → (fuel : ℕ) → ℕ → ℕ → ℕ
nth_unlisted listed zero n k = k
nth_unlisted listed (suc fuel) n k =
    let later : ℕ = nth_unlisted listed fuel n (suc k) in
    if is_among listed (short k) then later else elim n [ zero ↦ k | suc m ↦ nth_unlisted listed fuel m (suc k) ]

-- the number of the n-th private name of a class in these class bodies: its place among all names of the classes around that aren't open, where numbers of the open ones' names are passed over
unfoldable pub number_in : List Place → (outer : List ℕ) → ℕ → ℕ
number_in ps outer n =
    let position : ℕ = closed_count ps outer + n in
    let avoided : List Text = open_names ps outer in
    nth_unlisted avoided (suc (position + length avoided)) position 0

-- the number of a private name in these class bodies, from inside out: none where it is declared in an open class
unfoldable pub private_number : List Place → Text → List ℕ → Option ℕ
private_number ps x [] = None
private_number ps x (c ∷ outer) =
    if is_among (private_names ps c) x then
    (if is_open ps c then None else Some (number_in ps outer (index_of x (private_names ps c))))
    else private_number ps x outer

unfoldable pub new_private_name : List Place → Place → Text
new_private_name ps p = elim (private_number ps p.name p.site.setting.classes) [ None ↦ p.name | Some n ↦ short n ]

-- its binding belongs to an open class
unfoldable pub is_of_open_class : List Place → Place → Bool
is_of_open_class ps p = if p.site.private then elim (declaring_class ps p.name p.site.setting.classes) [ None ↦ false | Some c ↦ is_open ps c ] else false

-- the given names, and at private places the new private names
unfoldable pub with_private : List Place → List Place → List Text → List Text
with_private ps [] xs = []
with_private ps (p ∷ rest) [] = []
with_private ps (p ∷ rest) (x ∷ xs) = (if p.site.private then new_private_name ps p else x) ∷ with_private ps rest xs

-- the names that mangling gives at all places of a tree, in printing order
unfoldable pub new_names : Options → Parts → List Text
new_names o t = let ps : List Place = places t in with_private ps ps (given_names o t)
