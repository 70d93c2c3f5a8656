-- The bound names of runs of parts: of one before another, and of one from its i-th part on.
use Rattle.std.proofs.Common.{◌≡◌, ℕ, zero, suc, ◌+◌, Bool, true, false, List, [], ◌∷◌, ◌++◌, drop, Result, OnOk, Option, Some, if◌then◌else◌, refl, sym, ap, ap₂, ◌∙◌, arith}
use Rattle.std.specs.Prelude.{Ok, Err}
use Rattle.std.proofs.lemmas.List.{append-nil, append_assoc}
use Rattle.tree_nodes.specs.Along.{Along, all, each, first_column, other_columns}
use Rattle.tree_nodes.specs.Kinds.{is_kind}
use Rattle.tree_nodes.specs.Look.{are_items, item_at, onto, part_at, past}
use Rattle.tree_nodes.specs.Roles.{role_at}
use Rattle.tree_nodes.specs.Standing.{declares_role}
use Rattle.tree_nodes.specs.Table.{Column, row, unlisted}
use Rattle.tree_nodes.specs.Tree.{Parts, Tree, alone, atom, child, done, many}
use Rattle.tree_nodes.specs.Views.{item_of}
use Rattle.tree_nodes.specs.declared.kind.Kind.TheVariants.{Identifier}
use Rattle.tree_nodes.proofs.ColumnsAlong.{other_drop}
use Rattle.tree_nodes.proofs.Lists.{past_item}
use Rattle.tree_patterns.specs.BoundNames.{bound, bound_in, declares, declaring}

abbrev pub if_so : Bool → List Tree → List Tree
if_so b names = if b then names else []

pub on_ok : {T E P Q : Type 0} (r : Result T E) → (P → Q) → OnOk r P → OnOk r Q
on_ok (Ok x) f p = f p
on_ok (Err x) f p = p

-- what a node binds that stands where it declares
abbrev pub of_node : Tree → List Tree
of_node t = if is_kind t.kind Identifier then t ∷ [] else bound t.fields (each (row t.kind).columns) t.fields

-- ---- a run under one column

pub passed_over : (c : Column) (within ps : Parts) → declares declaring c within ≡ false → bound ps (all c) within ≡ []
unfolding bound first_column other_columns
passed_over c within done e = refl
passed_over c within (atom a more) e = passed_over c within more e
passed_over c within (many items more) e = ap₂ (λ x y. x ++ y) (passed_over c within items e) (passed_over c within more e)
passed_over c within (child k s t fields more) e = ap₂ (λ b y. if_so b (of_node (record { kind = k; start = s; stop = t; fields = fields })) ++ y) e (passed_over c within more e)

pub entered : (c : Column) (within ps : Parts) → declares declaring c within ≡ true → bound ps (all c) within ≡ bound_in ps
unfolding bound first_column other_columns declares declares_role role_at
entered c within done e = refl
entered c within (atom a more) e = entered c within more e
entered c within (many items more) e = ap₂ (λ x y. x ++ y) (entered c within items e) (entered c within more e)
entered c within (child k s t fields more) e = ap₂ (λ b y. if_so b (of_node (record { kind = k; start = s; stop = t; fields = fields })) ++ y) e (entered c within more e)

by_test : (c : Column) (within ps : Parts) (b : Bool) → declares declaring c within ≡ b → bound ps (all c) within ≡ if_so b (bound_in ps)
by_test c within ps true e = entered c within ps e
by_test c within ps false e = passed_over c within ps e

with_onto : (a b : Parts) → bound_in (onto a b) ≡ bound_in a ++ bound_in b
unfolding bound first_column other_columns declares declares_role role_at
with_onto done b = refl
with_onto (atom x a) b = with_onto a b
with_onto (many items a) b = ap (λ y. bound_in items ++ y) (with_onto a b) ∙ sym (append_assoc (bound_in items) (bound_in a) (bound_in b))
with_onto (child k s e fields a) b =
    let here = of_node (record { kind = k; start = s; stop = e; fields = fields }) in
    ap (λ y. here ++ y) (with_onto a b) ∙ sym (append_assoc here (bound_in a) (bound_in b))

-- ---- a run of one part
pub of_list : (items : Parts) → bound_in (many items done) ≡ bound_in items
unfolding bound first_column other_columns
of_list items = append-nil (bound_in items)

pub node_is : (t : Tree) → bound_in (alone t) ≡ of_node t
unfolding bound first_column other_columns declares declares_role role_at
node_is t = append-nil (of_node t)

pub of_identifier : (t : Tree) → is_kind t.kind Identifier ≡ true → bound_in (alone t) ≡ t ∷ []
of_identifier t e = node_is t ∙ ap (λ b. if b then t ∷ [] else bound t.fields (each (row t.kind).columns) t.fields) e

pub of_other : (t : Tree) → is_kind t.kind Identifier ≡ false → bound_in (alone t) ≡ bound t.fields (each (row t.kind).columns) t.fields
of_other t e = node_is t ∙ ap (λ b. if b then t ∷ [] else bound t.fields (each (row t.kind).columns) t.fields) e

pub unlisted_is_none : (within : Parts) → declares declaring unlisted within ≡ false
unfolding declares declares_role role_at
unlisted_is_none within = refl

-- ---- a run of fields, from its i-th part on

nothing : (b : Bool) → [] ≡ if_so b []
nothing true = refl
nothing false = refl

at_part : (ps : Parts) (i : ℕ) (p : Parts) (cs : Along) (within : Parts) → part_at ps i ≡ Some p
    → bound (past i ps) cs within ≡ if_so (declares declaring (first_column cs) within) (bound_in p) ++ bound (past (suc i) ps) (other_columns cs) within
unfolding bound
at_part done i p cs within e = absurd (cc)
at_part (atom a rest) zero p cs within e =
    let same : atom a done ≡ p = cc in
    rw (← same) (ap (λ x. x ++ bound rest (other_columns cs) within) (nothing (declares declaring (first_column cs) within)))
at_part (atom a rest) (suc i) p cs within e = at_part rest i p cs within e
at_part (child k s t fields rest) zero p cs within e =
    let same : child k s t fields done ≡ p = cc in
    rw (← same) (ap (λ x. if_so (declares declaring (first_column cs) within) x ++ bound rest (other_columns cs) within) (sym (node_is (record { kind = k; start = s; stop = t; fields = fields }))))
at_part (child k s t fields rest) (suc i) p cs within e = at_part rest i p cs within e
at_part (many items rest) zero p cs within e =
    let same : many items done ≡ p = cc in
    rw (← same) (ap (λ x. x ++ bound rest (other_columns cs) within) (by_test (first_column cs) within items _ refl ∙ ap (if_so (declares declaring (first_column cs) within)) (sym (of_list items))))
at_part (many items rest) (suc i) p cs within e = at_part rest i p cs within e

one_more : (i : ℕ) → suc i ≡ i + 1
one_more i = omega arith

-- names found so far, before those that are left
join : (now old here left total rest : List Tree) → now ≡ old ++ here → left ≡ here ++ rest → old ++ left ≡ total → now ++ rest ≡ total
join now old here left total rest found split e =
    ap (λ x. x ++ rest) found ∙ append_assoc old here rest ∙ ap (λ x. old ++ x) (sym split) ∙ e

module _ (fields : Parts) (cs : List Column) (i : ℕ) (old total : List Tree) (so_far : old ++ bound (past i fields) (each (drop i cs)) fields ≡ total) where
  pub next_field : (now : List Tree) (p : Parts) → Some p ≡ part_at fields i → now ≡ old ++ if_so (declares declaring (first_column (each (drop i cs))) fields) (bound_in p)
      → now ++ bound (past (i + 1) fields) (each (drop (i + 1) cs)) fields ≡ total
  next_field now p e found =
      let here = if_so (declares declaring (first_column (each (drop i cs))) fields) (bound_in p) in
      let split = at_part fields i p (each (drop i cs)) fields (sym e)
      ∙ ap (λ xs. here ++ bound (past (suc i) fields) xs fields) (other_drop cs i)
      ∙ ap (λ j. here ++ bound (past j fields) (each (drop j cs)) fields) (one_more i) in
      join now old here _ total _ found split so_far

  pub no_field : past i fields ≡ done → old ≡ total
  unfolding bound
  no_field e = sym (append-nil old) ∙ ap (λ ps. old ++ bound ps (each (drop i cs)) fields) (sym e) ∙ so_far

-- ---- a run of items, from its i-th on

module _ (items : Parts) (i : ℕ) (old total : List Tree) (so_far : old ++ bound_in (past i items) ≡ total) where
  pub next_item : (now : List Tree) (t : Option Tree) → are_items items ≡ true → Some t ≡ item_at items i → now ≡ old ++ bound_in (item_of t) → now ++ bound_in (past (i + 1) items) ≡ total
  next_item now t shaped e found =
      let here = bound_in (item_of t) in
      let split = ap bound_in (past_item items i t shaped (sym e)) ∙ with_onto (item_of t) (past (suc i) items)
      ∙ ap (λ j. here ++ bound_in (past j items)) (one_more i) in
      join now old here _ total _ found split so_far

  pub no_item : past i items ≡ done → old ≡ total
  unfolding bound
  no_item e = sym (append-nil old) ∙ ap (λ ps. old ++ bound_in ps) (sym e) ∙ so_far
