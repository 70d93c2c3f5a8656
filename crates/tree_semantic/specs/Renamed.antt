-- New private names, class by class, as data.
use Rattle.std.specs.Prelude.{ℕ, map, length, get_or, Option, None}
use Rattle.std.specs.BTreeMap.{BTreeMap, get_by}
use Rattle.std.specs.Borrow.{Bor}
use Rattle.std.specs.Cmp.Lexicographic.{slice_cmp}
use Rattle.std.specs.Ordering.{nat_cmp}
use Rattle.tree_nodes.specs.Tree.{Text}
use Rattle.tree_semantic.specs.declared.private_names.PrivateNames.{PrivateNames}

-- the new name that a class has for an old one, if it has one
abbrev pub name_in : BTreeMap (Bor Text) Text → Text → Option Text
name_in m x = get_by (λ y. slice_cmp nat_cmp x y.now) m

-- how many classes there are
abbrev pub class_count : PrivateNames → ℕ
class_count p = length p.classes.items

-- the new name of an old one in the class k, and none past the last
abbrev pub new_name : PrivateNames → ℕ → Text → Option Text
new_name p k x = get_or (map (λ m. name_in m x) p.classes.items) k None
