-- What a field does depends on nothing that is hidden.
use Rattle.std.proofs.Common.{◌≡◌, Bool, List, [], ◌∷◌, if◌then◌else◌, refl, ap}
use Rattle.place_list.specs.Open.{all_open}
use Rattle.tree_nodes.specs.Along.{Along, all, each, first_column, other_columns}
use Rattle.tree_nodes.specs.Roles.{role_at}
use Rattle.tree_nodes.specs.Table.{Column, row}
use Rattle.tree_nodes.specs.Tree.{Parts, atom, child, flag, flag_of, part}
use Rattle.tree_nodes.specs.declared.kind.Kind.{Kind}
use Rattle.tree_nodes.specs.declared.kind.Kind.TheVariants.{Identifier, PrivateIdentifier, Property}
use Rattle.tree_nodes.specs.declared.table.Mark.{Mark}
use Rattle.tree_nodes.specs.declared.table.Mark.TheVariants.{Declarator, Valued}
use Rattle.tree_nodes.specs.declared.table.Role.{Role}
use Rattle.tree_nodes.specs.declared.table.Role.TheVariants.{Plain, Read}
use Rattle.tree_places.specs.Places.{hide, naming_value, strict_in, unmarked}

abbrev pub MarkAgrees : Mark → Parts → Parts → Type 0
MarkAgrees (Valued i) xs ys = naming_value (part xs i) ≡ naming_value (part ys i)
MarkAgrees (Declarator i) xs ys = naming_value (part xs i) ≡ naming_value (part ys i)
MarkAgrees _ xs ys = Unit {0}

-- a field of this column does the same in nodes with these fields and with those
abbrev pub Agree : Column → Parts → Parts → Type 0
Agree c xs ys = ((own : Role) → role_at c.mode own xs ≡ role_at c.mode own ys) × MarkAgrees c.mark xs ys

abbrev EachAgrees : List Column → Parts → Parts → Type 0
EachAgrees [] xs ys = Unit {0}
EachAgrees (c ∷ cs) xs ys = Agree c xs ys × EachAgrees cs xs ys

abbrev pub AlongAgrees : Along → Parts → Parts → Type 0
AlongAgrees (each cs) xs ys = EachAgrees cs xs ys
AlongAgrees (all c) xs ys = Agree c xs ys

pub first_agrees : (columns : Along) (xs ys : Parts) → AlongAgrees columns xs ys → Agree (first_column columns) xs ys
unfolding all_open
first_agrees (each []) xs ys g = (λ own. refl, tt)
first_agrees (each (c ∷ cs)) xs ys g = g.0
first_agrees (all c) xs ys g = g

pub others_agree : (columns : Along) (xs ys : Parts) → AlongAgrees columns xs ys → AlongAgrees (other_columns columns) xs ys
unfolding all_open
others_agree (each []) xs ys g = tt
others_agree (each (c ∷ cs)) xs ys g = g.1
others_agree (all c) xs ys g = g

mark_same : (m : Mark) (xs : Parts) → MarkAgrees m xs xs
mark_same (Valued i) xs = refl
mark_same (Declarator i) xs = refl
mark_same _ xs = tt

same_agrees : (cs : List Column) (xs : Parts) → EachAgrees cs xs xs
same_agrees [] xs = tt
same_agrees (c ∷ cs) xs = ((λ own. refl, mark_same c.mark xs), same_agrees cs xs)

computed_unmarked : (xs : Parts) → flag_of (part xs 5) ≡ flag_of (part (unmarked xs) 5)
unfolding all_open
computed_unmarked (atom kind (child k s e key (child k' s' e' value (atom method (atom (flag mark) more))))) = refl
computed_unmarked _ = refl

pub hidden_agrees : (k : Kind) (fields : Parts) → AlongAgrees (each (row k).columns) fields (hide k fields)
unfolding all_open
hidden_agrees Identifier fields = ((λ own. refl, tt), tt)
hidden_agrees PrivateIdentifier fields = ((λ own. refl, tt), tt)
hidden_agrees Property fields =
    ((λ own. refl, tt), ((λ own. ap (λ b. if b then Read else Plain) (computed_unmarked fields), tt), ((λ own. refl, tt), ((λ own. refl, tt), ((λ own. refl, tt), ((λ own. refl, tt), tt))))))
hidden_agrees k fields = same_agrees (row k).columns fields

pub hidden_strict : (k : Kind) (outside : Bool) (fields : Parts) → strict_in (row k).strict outside fields ≡ strict_in (row k).strict outside (hide k fields)
unfolding all_open
hidden_strict Identifier outside fields = refl
hidden_strict PrivateIdentifier outside fields = refl
hidden_strict Property outside fields = refl
hidden_strict k outside fields = refl
