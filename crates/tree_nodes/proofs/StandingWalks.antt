-- The walk along the columns, at one step of its loops.
use Rattle.std.proofs.Common.{◌≡◌, ℕ, zero, suc, ◌+◌, Bool, true, false, ◌&&◌, List, drop, Option, Some, refl, sym, ap, ap₂, ◌∙◌, arith}
use Rattle.std.proofs.Math.Bool.{and-true, and_assoc}
use Rattle.tree_nodes.specs.declared.table.Class.{Class as FieldClass}
use Rattle.tree_nodes.specs.declared.table.Role.{Role}
use Rattle.tree_nodes.specs.Tree.{Tree, Parts, done, atom, child, many, alone}
use Rattle.tree_nodes.specs.Look.{past, onto, part_at, item_at, are_items}
use Rattle.tree_nodes.specs.Views.{item_of}
use Rattle.tree_nodes.specs.Table.{Column, row}
use Rattle.tree_nodes.specs.Along.{Along, each, all, first_column, other_columns}
use Rattle.tree_nodes.specs.Roles.{role_at}
use Rattle.tree_nodes.specs.Standing.{group_admits, is_sound, stands, stands_in}
use Rattle.tree_nodes.proofs.ColumnsAlong.{given, other_drop}
use Rattle.tree_nodes.proofs.Lists.{past_item}

and_grouped : (a b c d : Bool) → b ≡ (c && d) → (a && b) ≡ ((a && c) && d)
and_grouped a b c d e = ap (λ x. a && x) e ∙ sym (and_assoc a c d)

and_same : (a b c : Bool) → b ≡ c → (a && b) ≡ (a && c)
and_same a b c e = ap (λ x. a && x) e

one_more : (i : ℕ) → suc i ≡ i + 1
one_more i = omega arith

-- a run under one column depends on its class and on the role that it gives alone
by_role : (ps : Parts) (c : Column) (own : Role) (within : Parts) → stands ps (all c) own within ≡ stands_in c.class (role_at c.mode own within) within ps
unfolding stands first_column other_columns role_at
by_role done c own within = refl
by_role (atom a more) c own within = by_role more c own within
by_role (many items more) c own within = ap₂ (λ x y. x && y) (by_role items c own within) (by_role more c own within)
by_role (child k s e fields more) c own within = and_same _ _ _ (by_role more c own within)

-- one run after another under one column
with_onto : (class : FieldClass) (r : Role) (within a b : Parts) → stands_in class r within (onto a b) ≡ (stands_in class r within a && stands_in class r within b)
unfolding stands first_column other_columns
with_onto class r within done b = refl
with_onto class r within (atom x a) b = with_onto class r within a b
with_onto class r within (many items a) b = and_grouped _ _ _ (stands_in class r within b) (with_onto class r within a b)
with_onto class r within (child k s e fields a) b = and_grouped _ _ _ (stands_in class r within b) (with_onto class r within a b)

-- the i-th part, with the first of the columns that are left
at_part : (ps : Parts) (i : ℕ) (p : Parts) (cs : Along) (own : Role) (within : Parts) → part_at ps i ≡ Some p
    → stands (past i ps) cs own within ≡ (stands_in (first_column cs).class (given cs own within) within p && stands (past (suc i) ps) (other_columns cs) own within)
unfolding stands first_column other_columns role_at
at_part done i p cs own within e = absurd (cc)
at_part (atom a rest) zero p cs own within e = let same : atom a done ≡ p = cc in rw (← same) refl
at_part (atom a rest) (suc i) p cs own within e = at_part rest i p cs own within e
at_part (child k s t fields rest) zero p cs own within e = let same : child k s t fields done ≡ p = cc in rw (← same) (ap (λ x. x && stands rest (other_columns cs) own within) (sym (and-true _)))
at_part (child k s t fields rest) (suc i) p cs own within e = at_part rest i p cs own within e
at_part (many items rest) zero p cs own within e =
    let same : many items done ≡ p = cc in
    rw (← same) (ap (λ x. x && stands rest (other_columns cs) own within) (by_role items (first_column cs) own within ∙ sym (and-true _)))
at_part (many items rest) (suc i) p cs own within e = at_part rest i p cs own within e

module _ (fields : Parts) (cs : List Column) (own : Role) (i : ℕ) (so_far : stands fields (each cs) own fields ≡ stands (past i fields) (each (drop i cs)) own fields) where
  abbrev here : Parts → Bool
  here p = stands_in (first_column (each (drop i cs))).class (given (each (drop i cs)) own fields) fields p

  step : (p : Parts) → part_at fields i ≡ Some p → stands fields (each cs) own fields ≡ (here p && stands (past (i + 1) fields) (each (drop (i + 1) cs)) own fields)
  step p e = so_far ∙ at_part fields i p (each (drop i cs)) own fields e
      ∙ ap (λ xs. here p && stands (past (suc i) fields) xs own fields) (other_drop cs i)
      ∙ ap (λ j. here p && stands (past j fields) (each (drop j cs)) own fields) (one_more i)

  pub refused_field : (p : Parts) → Some p ≡ part_at fields i → here p ≡ false → false ≡ stands fields (each cs) own fields
  refused_field p e fails = sym (step p (sym e) ∙ ap (λ b. b && stands (past (i + 1) fields) (each (drop (i + 1) cs)) own fields) fails)

  pub passed_field : (p : Parts) → Some p ≡ part_at fields i → here p ≡ true → stands fields (each cs) own fields ≡ stands (past (i + 1) fields) (each (drop (i + 1) cs)) own fields
  passed_field p e holds = step p (sym e) ∙ ap (λ b. b && stands (past (i + 1) fields) (each (drop (i + 1) cs)) own fields) holds

  pub no_field : past i fields ≡ done → true ≡ stands fields (each cs) own fields
  unfolding stands
  no_field e = sym (so_far ∙ ap (λ x. stands x (each (drop i cs)) own fields) e)

module _ (class : FieldClass) (r : Role) (within ps : Parts) (i : ℕ) (so_far : stands_in class r within ps ≡ stands_in class r within (past i ps)) (shaped : are_items ps ≡ true) where
  item_step : (t : Option Tree) → Some t ≡ item_at ps i → stands_in class r within ps ≡ (stands_in class r within (item_of t) && stands_in class r within (past (i + 1) ps))
  item_step t e = so_far ∙ ap (stands_in class r within) (past_item ps i t shaped (sym e)) ∙ with_onto class r within (item_of t) (past (suc i) ps)
      ∙ ap (λ j. stands_in class r within (item_of t) && stands_in class r within (past j ps)) (one_more i)

  pub refused_item : (t : Option Tree) → Some t ≡ item_at ps i → stands_in class r within (item_of t) ≡ false → false ≡ stands_in class r within ps
  refused_item t e fails = sym (item_step t e ∙ ap (λ b. b && stands_in class r within (past (i + 1) ps)) fails)

  pub passed_item : (t : Option Tree) → Some t ≡ item_at ps i → stands_in class r within (item_of t) ≡ true → stands_in class r within ps ≡ stands_in class r within (past (i + 1) ps)
  passed_item t e holds = item_step t e ∙ ap (λ b. b && stands_in class r within (past (i + 1) ps)) holds

  pub no_items_left : past i ps ≡ done → true ≡ stands_in class r within ps
  unfolding stands
  no_items_left e = sym (so_far ∙ ap (stands_in class r within) e)

pub list_is : (class : FieldClass) (r : Role) (within items : Parts) → stands_in class r within (many items done) ≡ stands_in class r within items
unfolding stands first_column other_columns
list_is class r within items = and-true (stands_in class r within items)

node_is : (class : FieldClass) (r : Role) (within : Parts) (t : Tree) →
    stands_in class r within (alone t) ≡ (group_admits class r within t.kind t.fields && is_sound t.kind t.fields && stands t.fields (each (row t.kind).columns) r t.fields)
unfolding stands first_column other_columns role_at
node_is class r within t = and-true _

pub unfit_node : (class : FieldClass) (r : Role) (within : Parts) (t : Tree) → (group_admits class r within t.kind t.fields && is_sound t.kind t.fields) ≡ false → false ≡ stands_in class r within (alone t)
unfit_node class r within t e = sym (node_is class r within t ∙ ap (λ b. b && stands t.fields (each (row t.kind).columns) r t.fields) e)

pub fit_node : (class : FieldClass) (r : Role) (within : Parts) (t : Tree) → (group_admits class r within t.kind t.fields && is_sound t.kind t.fields) ≡ true → stands t.fields (each (row t.kind).columns) r t.fields ≡ stands_in class r within (alone t)
fit_node class r within t e = sym (node_is class r within t ∙ ap (λ b. b && stands t.fields (each (row t.kind).columns) r t.fields) e)
