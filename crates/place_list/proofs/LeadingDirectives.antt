-- The directives that lead a list of statements, at one step of a loop over it.
use Rattle.std.proofs.Common.{◌≡◌, ℕ, suc, ◌+◌, Bool, true, false, ◌||◌, Option, Some, None, bytes_eq, refl, sym, ap, ◌∙◌, arith}
use Rattle.place_list.specs.Directives.{directive, is_use_strict}
use Rattle.tree_nodes.specs.Look.{are_items, item_at, onto, past}
use Rattle.tree_nodes.specs.Tree.{Parts, Tree, atom, child, done, many, part, empty, flag, word, text, units, whole}
use Rattle.tree_nodes.specs.Views.{item_of}
use Rattle.tree_nodes.specs.declared.kind.Kind.{Kind}
use Rattle.tree_nodes.specs.declared.kind.Kind.TheVariants.{ExpressionStatement}
use Rattle.tree_nodes.proofs.Lists.{past_item}
use Rattle.tree_places.specs.Places.{directs, use_strict}

one_more : (i : ℕ) → suc i ≡ i + 1
one_more i = omega arith

-- with what the first says, and the rest
by : Option Bool → Bool → Bool
by None rest = false
by (Some b) rest = b || rest

by_text : (p : Parts) (rest : Bool) → (elim p [ atom (text t) r ↦ bytes_eq t use_strict || rest | _ ↦ false ]) ≡ by (is_use_strict p) rest
unfolding is_use_strict by
by_text done rest = refl
by_text (atom empty r) rest = refl
by_text (atom (flag b) r) rest = refl
by_text (atom (word n) r) rest = refl
by_text (atom (text t) r) rest = refl
by_text (atom (units t) r) rest = refl
by_text (atom (whole n) r) rest = refl
by_text (child k s e fields r) rest = refl
by_text (many items r) rest = refl

by_kind : (k : Kind) (s e : ℕ) (fields more : Parts) → directs (child k s e fields more) ≡ by (directive (child k s e fields done)) (directs more)
unfolding directs directive by
by_kind ExpressionStatement s e fields more = by_text (part fields 1) (directs more)
by_kind k s e fields more = refl

by_item : (t : Option Tree) (more : Parts) → directs (onto (item_of t) more) ≡ by (directive (item_of t)) (directs more)
unfolding directs directive by
by_item None more = refl
by_item (Some t) more = by_kind t.kind t.start t.stop t.fields more

module _ (items : Parts) (i : ℕ) (so_far : directs items ≡ directs (past i items)) where
  step : (t : Option Tree) → are_items items ≡ true → Some t ≡ item_at items i → directs items ≡ by (directive (item_of t)) (directs (past (suc i) items))
  step t shaped e = so_far ∙ ap directs (past_item items i t shaped (sym e)) ∙ by_item t (past (suc i) items)

  pub passed : (t : Option Tree) → are_items items ≡ true → Some t ≡ item_at items i → Some false ≡ directive (item_of t) → directs items ≡ directs (past (i + 1) items)
  unfolding by
  passed t shaped e d = step t shaped e ∙ ap (λ o. by o (directs (past (suc i) items))) (sym d) ∙ ap (λ j. directs (past j items)) (one_more i)

  pub found : (t : Option Tree) → are_items items ≡ true → Some t ≡ item_at items i → Some true ≡ directive (item_of t) → true ≡ directs items
  unfolding by
  found t shaped e d = sym (step t shaped e ∙ ap (λ o. by o (directs (past (suc i) items))) (sym d))

  pub ended : (t : Option Tree) → are_items items ≡ true → Some t ≡ item_at items i → None ≡ directive (item_of t) → false ≡ directs items
  unfolding by
  ended t shaped e d = sym (step t shaped e ∙ ap (λ o. by o (directs (past (suc i) items))) (sym d))

  pub none_left : past i items ≡ done → false ≡ directs items
  unfolding directs
  none_left e = sym (so_far ∙ ap directs e)
