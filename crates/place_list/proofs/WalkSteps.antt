-- The walk in tables, at one step of its loops.
use Rattle.std.proofs.Common.{◌≡◌, ℕ, zero, suc, ◌+◌, Bool, true, List, [], ◌∷◌, drop, length, Option, Some, None, Result, Ok, Err, IfOk, refl, sym, ap, ◌∙◌, arith}
use Rattle.place_list.specs.Open.{all_open}
use Rattle.place_list.specs.ScopeKinds.{scope_kind, value_scope}
use Rattle.place_list.specs.TableWalk.{Around, State, after_field, at_field, enter, inside_of, listed_node, met, nothing_met, nowhere, put_scope, tables_of, walk}
use Rattle.place_list.specs.declared.setting.ScopeKind.{ScopeKind}
use Rattle.place_list.specs.declared.setting.ScopeKind.TheVariants as scope
use Rattle.place_list.specs.declared.setting.Setting.{Setting}
use Rattle.tree_nodes.proofs.ColumnsAlong.{other_drop}
use Rattle.tree_nodes.specs.Along.{Along, all, each, first_column, other_columns}
use Rattle.tree_nodes.specs.Look.{are_items, item_at, onto, part_at, past}
use Rattle.tree_nodes.specs.Table.{Column, Row, row, unlisted}
use Rattle.tree_nodes.specs.Tree.{Parts, Tree, alone, atom, child, done, many, text_of}
use Rattle.tree_nodes.specs.Views.{item_of}
use Rattle.tree_nodes.proofs.Lists.{past_item}

one_more : (i : ℕ) → suc i ≡ i + 1
one_more i = omega arith

-- one run after another under one column
onto_is : (c : Column) (a : Around) (x y : Parts) (s : State) → walk (onto x y) (all c) a s ≡ walk y (all c) a (walk x (all c) a s)
unfolding walk first_column other_columns
onto_is c a done y s = refl
onto_is c a (atom v x) y s = onto_is c a x y s
onto_is c a (many items x) y s = onto_is c a x y (walk items (all c) a s)
onto_is c a (child k b e fields x) y s = onto_is c a x y _

-- the i-th part, with the first of the columns that are left
at_part : (ps : Parts) (i : ℕ) (p : Parts) (cs : Along) (a : Around) (s : State) → part_at ps i ≡ Some p
    → walk (past i ps) cs a s ≡ walk (past (suc i) ps) (other_columns cs) a (walk p (all (first_column cs)) a s)
unfolding walk first_column other_columns
at_part done i p cs a s e = absurd (cc)
at_part (atom v rest) zero p cs a s e = let same : atom v done ≡ p = cc in rw (← same) refl
at_part (atom v rest) (suc i) p cs a s e = at_part rest i p cs a s e
at_part (child k b t fields rest) zero p cs a s e = let same : child k b t fields done ≡ p = cc in rw (← same) refl
at_part (child k b t fields rest) (suc i) p cs a s e = at_part rest i p cs a s e
at_part (many items rest) zero p cs a s e = let same : many items done ≡ p = cc in rw (← same) refl
at_part (many items rest) (suc i) p cs a s e = at_part rest i p cs a s e

module _ (fields : Parts) (cs : List Column) (a : Around) (i : ℕ) (start now : State) (so_far : walk fields (each cs) a start ≡ walk (past i fields) (each (drop i cs)) a now) where
  pub walked_field : (p : Parts) (c : Column) (next : State) → Some p ≡ part_at fields i → c ≡ first_column (each (drop i cs)) → next ≡ walk p (all c) a now
      → walk fields (each cs) a start ≡ walk (past (i + 1) fields) (each (drop (i + 1) cs)) a next
  walked_field p c next e f next_is =
      so_far ∙ at_part fields i p (each (drop i cs)) a now (sym e)
      ∙ ap (λ d. walk (past (suc i) fields) (other_columns (each (drop i cs))) a (walk p (all d) a now)) (sym f)
      ∙ ap (walk (past (suc i) fields) (other_columns (each (drop i cs))) a) (sym next_is)
      ∙ ap (λ ds. walk (past (suc i) fields) ds a next) (other_drop cs i)
      ∙ ap (λ j. walk (past j fields) (each (drop j cs)) a next) (one_more i)

  pub all_walked : past i fields ≡ done → now ≡ walk fields (each cs) a start
  unfolding walk
  all_walked e = sym (so_far ∙ ap (λ x. walk x (each (drop i cs)) a now) e)

module _ (c : Column) (a : Around) (ps : Parts) (i : ℕ) (start now : State) (so_far : walk ps (all c) a start ≡ walk (past i ps) (all c) a now) where
  pub walked_item : (t : Option Tree) (next : State) → are_items ps ≡ true → Some t ≡ item_at ps i → next ≡ walk (item_of t) (all c) a now
      → walk ps (all c) a start ≡ walk (past (i + 1) ps) (all c) a next
  walked_item t next shaped e next_is =
      so_far ∙ ap (λ x. walk x (all c) a now) (past_item ps i t shaped (sym e)) ∙ onto_is c a (item_of t) (past (suc i) ps) now
      ∙ ap (walk (past (suc i) ps) (all c) a) (sym next_is)
      ∙ ap (λ j. walk (past j ps) (all c) a next) (one_more i)

  pub all_items_walked : past i ps ≡ done → now ≡ walk ps (all c) a start
  unfolding walk
  all_items_walked e = sym (so_far ∙ ap (λ x. walk x (all c) a now) e)

-- the step at a node, where the last walk answers
pub node_is : {X E : Type 0} (t : Tree) (c : Column) (a : Around) (s s₁ s₂ s₃ : State) (r : Row) (here inside : Setting) (v k : ScopeKind)
    → r ≡ row t.kind → here ≡ at_field c a (length s.heads) → s₁ ≡ after_field c a s → inside ≡ inside_of r.opens r.strict t.fields here s₁
    → v ≡ value_scope t.kind t.fields → k ≡ scope_kind t.kind c a.value_scope
    → s₂ ≡ listed_node a here t s₁ → s₃ ≡ met r.opens t.start here inside.var_scope (text_of t.fields) (put_scope r.opens k here inside s₂)
    → (result : Result X E) (new : X → State)
    → IfOk result (λ x. new x ≡ walk t.fields (each r.columns) (record { outside = here; inside = inside; fields = t.fields; number = s₁.nodes; value_scope = v }) s₃)
    → IfOk result (λ x. new x ≡ walk (alone t) (all c) a s)
unfolding walk first_column enter
node_is t c a s s₁ s₂ s₃ r here inside v k er eh e₁ ei ev ek e₂ e₃ (Ok x) new e = rw (e, e₃, e₂, ek, ev, ei, e₁, eh, er) refl
node_is t c a s s₁ s₂ s₃ r here inside v k er eh e₁ ei ev ek e₂ e₃ (Err x) new e = tt

-- at the root it doesn't matter in which node's fields it stands
pub from_root : (b : Bool) (t : Tree) (fields : Parts) → walk (alone t) (all unlisted) (record { outside = nowhere; inside = nowhere; fields = fields; number = 0; value_scope = scope.Function }) (nothing_met b) ≡ tables_of b (alone t)
unfolding all_open
from_root b t fields = refl
