-- When two runs, and two nodes, are the same: told by their parts in turn.
use Rattle.std.proofs.Common.{◌≡◌, ◌↔◌, ℕ, zero, suc, ◌+◌, ◌≤◌, Bool, true, false, Option, Some, None, IsTrue, ◌&&◌, nat_eq, not, is_some, true≢false, refl, sym, ap, ap₂, ◌∙◌, arith}
use Rattle.std.proofs.lemmas.Bool.{and_parts, eq-eqb, eqb-true}
use Rattle.name_map.specs.Heads.{same_heads}
use Rattle.tree_nodes.proofs.Lists.{past_item, past_len, past_next}
use Rattle.tree_nodes.proofs.EachKind.{kind_told}
use Rattle.tree_nodes.specs.Kinds.{kind_number}
use Rattle.tree_nodes.specs.Look.{are_items, item_at, onto, part_at, parts_len, past}
use Rattle.tree_nodes.specs.Tree.{Parts, Tree, alone, atom, child, done, many}
use Rattle.tree_nodes.specs.Views.{item_of, part_of}
use Rattle.tree_nodes.specs.declared.node.Field.{Field}
use Rattle.tree_nodes.specs.declared.node.Field.TheVariants.{Empty, Flag, Word, Text, Str, Whole, Child, List as Several}
use Rattle.tree_nodes.specs.declared.kind.Kind.{Kind}

one_more : (i : ℕ) → suc i ≡ i + 1
one_more i = omega arith

pub told_apart : {A : Type 0} (x y : A) → (x ≡ y → ⊥) → IsTrue false ↔ (x ≡ y)
told_apart x y h = (λ e. absurd (cc), λ e. absurd (h e))

pub told_same : {A : Type 0} (x y : A) → x ≡ y → IsTrue true ↔ (x ≡ y)
told_same x y e = (λ _. e, λ _. refl)

some_inside : {A : Type 0} (x y : A) → Some x ≡ Some y → x ≡ y
some_inside x y e = cc

-- runs that differ in a part differ
pub parts_apart : (ps qs : Parts) (i : ℕ) (p q : Parts) → Some p ≡ part_at ps i → Some q ≡ part_at qs i → (p ≡ q → ⊥) → ps ≡ qs → ⊥
parts_apart ps qs i p q e f h same = h (some_inside p q (e ∙ ap (λ xs. part_at xs i) same ∙ sym f))

pub items_apart : (ps qs : Parts) (i : ℕ) (t u : Option Tree) → Some t ≡ item_at ps i → Some u ≡ item_at qs i → (t ≡ u → ⊥) → ps ≡ qs → ⊥
items_apart ps qs i t u e f h same = h (some_inside t u (e ∙ ap (λ xs. item_at xs i) same ∙ sym f))

-- ---- the loops: the runs are the same if what is left of them is

module _ (ps qs : Parts) (i : ℕ) (so_far : past i ps ≡ past i qs → ps ≡ qs) where
  pub parts_next : (p q : Parts) → Some p ≡ part_at ps i → Some q ≡ part_at qs i → p ≡ q → past (i + 1) ps ≡ past (i + 1) qs → ps ≡ qs
  parts_next p q e f g h =
      let left : past (suc i) ps ≡ past (suc i) qs = ap (λ j. past j ps) (one_more i) ∙ h ∙ sym (ap (λ j. past j qs) (one_more i)) in
      so_far (past_next ps i p (sym e) ∙ ap₂ onto g left ∙ sym (past_next qs i q (sym f)))

  pub items_next : (t u : Option Tree) → are_items ps ≡ true → are_items qs ≡ true → Some t ≡ item_at ps i → Some u ≡ item_at qs i → t ≡ u
      → past (i + 1) ps ≡ past (i + 1) qs → ps ≡ qs
  items_next t u a b e f g h =
      let left : past (suc i) ps ≡ past (suc i) qs = ap (λ j. past j ps) (one_more i) ∙ h ∙ sym (ap (λ j. past j qs) (one_more i)) in
      so_far (past_item ps i t a (sym e) ∙ ap₂ (λ x y. onto (item_of x) y) g left ∙ sym (past_item qs i u b (sym f)))

  pub all_same : past i ps ≡ done → past i qs ≡ done → ps ≡ qs
  all_same e f = so_far (e ∙ sym f)

lengths_apart : (ps qs : Parts) → (parts_len ps ≡ parts_len qs → ⊥) → ps ≡ qs → ⊥
lengths_apart ps qs h same = h (ap parts_len same)

-- runs of other lengths differ
pub other_lengths : (ps qs : Parts) → (parts_len ps ≡ parts_len qs → ⊥) → IsTrue false ↔ (ps ≡ qs)
other_lengths ps qs h = told_apart ps qs (lengths_apart ps qs h)

-- runs of one length are the same if all their parts are
pub one_length : (ps qs : Parts) (i : ℕ) → (past i ps ≡ past i qs → ps ≡ qs) → parts_len ps ≡ parts_len qs → parts_len ps ≤ i → IsTrue true ↔ (ps ≡ qs)
one_length ps qs i so_far e h =
    told_same ps qs (so_far (past_len ps i h ∙ sym (past_len qs i (omega (arith, e, h)))))

pub no_part : (ps : Parts) (i : ℕ) → None ≡ part_at ps i → parts_len ps ≤ i
no_part done i e = omega arith
no_part (atom a rest) zero e = absurd (cc)
no_part (atom a rest) (suc i) e = let l = no_part rest i e in omega (arith, l)
no_part (child k s t fields rest) zero e = absurd (cc)
no_part (child k s t fields rest) (suc i) e = let l = no_part rest i e in omega (arith, l)
no_part (many items rest) zero e = absurd (cc)
no_part (many items rest) (suc i) e = let l = no_part rest i e in omega (arith, l)

pub no_item : (ps : Parts) (i : ℕ) → None ≡ item_at ps i → parts_len ps ≤ i
no_item done i e = omega arith
no_item (atom a rest) zero e = absurd (cc)
no_item (atom a rest) (suc i) e = let l = no_item rest i e in omega (arith, l)
no_item (child k s t fields rest) zero e = absurd (cc)
no_item (child k s t fields rest) (suc i) e = let l = no_item rest i e in omega (arith, l)
no_item (many items rest) zero e = absurd (cc)
no_item (many items rest) (suc i) e = let l = no_item rest i e in omega (arith, l)

-- ---- nodes

abbrev made : Kind → ℕ → ℕ → Parts → Tree
made k s e p = record { kind = k; start = s; stop = e; fields = p }

tree_same : (t u : Tree) → t.kind ≡ u.kind → t.start ≡ u.start → t.stop ≡ u.stop → t.fields ≡ u.fields → t ≡ u
tree_same t u a b d e = ap₂ (λ k s. made k s t.stop t.fields) a b ∙ ap₂ (made u.kind u.start) d e

pub alone_same : (t u : Tree) → alone t ≡ alone u → t ≡ u
alone_same t u e = tree_same t u (cc) (cc) (cc) (cc)

pub other_heads : (t u : Tree) → same_heads t u ≡ false → IsTrue false ↔ (t ≡ u)
other_heads t u h = told_apart t u (λ e. true≢false (sym (own_heads u) ∙ ap (λ x. same_heads x u) (sym e) ∙ h))
  where
    own_heads : (x : Tree) → same_heads x x ≡ true
    own_heads x = ap₂ (λ a b. a && b) (ap₂ (λ a b. a && b) (eq-eqb (kind_number x.kind) (kind_number x.kind) refl) (eq-eqb x.start x.start refl)) (eq-eqb x.stop x.stop refl)

pub told_by_fields : (t u : Tree) (b : Bool) → same_heads t u ≡ true → IsTrue b ↔ (t.fields ≡ u.fields) → IsTrue b ↔ (t ≡ u)
told_by_fields t u b heads h =
    let all = and_parts (nat_eq (kind_number t.kind) (kind_number u.kind) && nat_eq t.start u.start) (nat_eq t.stop u.stop) heads in
    let two = and_parts (nat_eq (kind_number t.kind) (kind_number u.kind)) (nat_eq t.start u.start) all.0 in
    (λ y. tree_same t u (kind_told t.kind u.kind two.0) (eqb-true t.start u.start two.1) (eqb-true t.stop u.stop all.1) (h.0 y), λ same. h.1 (ap (λ (x : Tree). x.fields) same))

-- ---- what is told of a part of it

pub told_inside : {A B : Type 0} (f : A → B) (x y : A) (b : Bool) → (f x ≡ f y → x ≡ y) → IsTrue b ↔ (x ≡ y) → IsTrue b ↔ (f x ≡ f y)
told_inside f x y b inside h = (λ t. ap f (h.0 t), λ e. h.1 (inside e))

pub many_inside : (ps qs : Parts) → many ps done ≡ many qs done → ps ≡ qs
many_inside ps qs e = cc

pub some_same : (t u : Tree) → Some t ≡ Some u → t ≡ u
some_same t u e = cc

pub no_tree : (o : Option Tree) (b : Bool) → is_some o ≡ not b → IsTrue b ↔ (None ≡ o)
no_tree None true e = told_same None None refl
no_tree None false e = absurd (cc)
no_tree (Some t) true e = absurd (cc)
no_tree (Some t) false e = told_apart None (Some t) (λ same. absurd (cc))

-- a field of another variant
pub no_child : (f : Field) (t : Tree) → ((x : _) → f ≡ Child x → ⊥) → IsTrue false ↔ (alone t ≡ part_of f)
no_child Empty t h = told_apart (alone t) _ (λ e. absurd (cc))
no_child (Flag b) t h = told_apart (alone t) _ (λ e. absurd (cc))
no_child (Word w) t h = told_apart (alone t) _ (λ e. absurd (cc))
no_child (Text x) t h = told_apart (alone t) _ (λ e. absurd (cc))
no_child (Str us) t h = told_apart (alone t) _ (λ e. absurd (cc))
no_child (Whole n) t h = told_apart (alone t) _ (λ e. absurd (cc))
no_child (Child b) t h = absurd (h b refl)
no_child (Several ts) t h = told_apart (alone t) _ (λ e. absurd (cc))

pub no_list : (f : Field) (ps : Parts) → ((x : _) → f ≡ Several x → ⊥) → IsTrue false ↔ (many ps done ≡ part_of f)
no_list Empty ps h = told_apart (many ps done) _ (λ e. absurd (cc))
no_list (Flag b) ps h = told_apart (many ps done) _ (λ e. absurd (cc))
no_list (Word w) ps h = told_apart (many ps done) _ (λ e. absurd (cc))
no_list (Text x) ps h = told_apart (many ps done) _ (λ e. absurd (cc))
no_list (Str us) ps h = told_apart (many ps done) _ (λ e. absurd (cc))
no_list (Whole n) ps h = told_apart (many ps done) _ (λ e. absurd (cc))
no_list (Child b) ps h = told_apart (many ps done) _ (λ e. absurd (cc))
no_list (Several ts) ps h = absurd (h ts refl)
