-- Numbers for names.
use Rattle.std.specs.Prelude.{◌≡◌, ◌<◌, ℕ, List, nat_eq, bytes_eq, Option, Some}
use Rattle.std.specs.Borrow.{Bor}
use Rattle.std.specs.BTreeMap.{BTreeMap, btree_map_len, get_by}
use Rattle.std.specs.Cmp.Lexicographic.{slice_cmp}
use Rattle.std.specs.List.{Contains}
use Rattle.std.specs.Ordering.{nat_cmp}
use Rattle.place_list.specs.declared.tables.PlaceEntry.{PlaceEntry}
use Rattle.tree_nodes.specs.Tree.{Text}

-- two of these places have one number exactly where their names are equal
abbrev pub AreNumbered : List PlaceEntry → Type 0
AreNumbered es = (p q : PlaceEntry) → Contains es p → Contains es q → nat_eq p.name_number q.name_number ≡ bytes_eq p.name.now q.name.now

-- what a map has at a name
abbrev pub at_name : {X : Type 0} → BTreeMap (Bor Text) X → Text → Option X
at_name m x = get_by (λ k. slice_cmp nat_cmp x k.now) m

-- names have numbers below n, and each number is that of one name
pub record TellsApart (f : Text → Option ℕ) (n : ℕ) : Type 0 where
  pub below : (x : Text) (k : ℕ) → f x ≡ Some k → k < n
  pub apart : (x y : Text) (k : ℕ) → f x ≡ Some k → f y ≡ Some k → x ≡ y

abbrev pub IsNumbering : BTreeMap (Bor Text) ℕ → Type 0
IsNumbering m = TellsApart (at_name m) (btree_map_len m)

-- a name that has a number keeps it
abbrev pub KeepsNumbers : BTreeMap (Bor Text) ℕ → BTreeMap (Bor Text) ℕ → Type 0
KeepsNumbers old new = (x : Text) (k : ℕ) → at_name old x ≡ Some k → at_name new x ≡ Some k
