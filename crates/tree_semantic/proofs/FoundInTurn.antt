-- The pass over the nodes, one node after another.
use Rattle.std.specs.Prelude.{◌≡◌, ◌<◌, ◌+◌, ℕ, zero, suc, Bool, false, List, [], ◌∷◌, length, slice_get, take, Option, Some, None, IfSome}
use Rattle.std.proofs.Common.{refl, sym, ap, ◌∙◌, subst, add-one, arith}
use Rattle.tree_nodes.specs.Table.{row}
use Rattle.tree_nodes.specs.declared.kind.Kind.{Kind}
use Rattle.tree_nodes.specs.declared.table.Opens.{Opens}
use Rattle.tree_nodes.specs.declared.table.Opens.TheVariants.{ClassMembers}
use Rattle.tree_places.specs.Enclosing.{is_class_body}
use Rattle.tree_semantic.specs.ClassesAround.{Found, found_after, is_body, with_node, with_told}
use Rattle.tree_semantic.specs.Nodes.{NodeTold}

pub no_body : (o : Opens) → (o ≡ ClassMembers → ⊥) → false ≡ is_class_body o
unfolding is_class_body
no_body ClassMembers h = absurd (h refl)
no_body _ h = refl

abbrev pub found_with : List (Option ℕ) → List (Option ℕ) → Found
found_with inside parents = record { inside = inside; parents = parents }

-- a node that is taken in, by what is read of it
pub node_taken : (o : Option NodeTold) (kind : Kind) (parent index : ℕ) (body : Bool) (f g : Found) → IfSome o (λ n. kind ≡ n.tree.kind) → IfSome o (λ n. parent ≡ n.parent) → body ≡ is_class_body (row kind).opens → index ≡ parent
    → g ≡ with_node f body index → IfSome o (λ n. g ≡ with_told f n)
unfolding with_told is_body
node_taken None kind parent index body f g k p b i e = tt
node_taken (Some n) kind parent index body f g k p b i e =
    e ∙ ap (λ (x : Bool). with_node f x index) (b ∙ ap (λ (l : Kind). is_class_body (row l).opens) k) ∙ ap (λ (m : ℕ). with_node f (is_class_body (row n.tree.kind).opens) m) (i ∙ p)

one_found : (f : Found) (ns : List NodeTold) (i : ℕ) (g : Found) → i < length ns → IfSome (slice_get ns i) (λ n. g ≡ with_told (found_after f (take i ns)) n) → g ≡ found_after f (take (suc i) ns)
unfolding found_after
one_found f [] i g h told = absurd (omega (arith, h))
one_found f (n ∷ ns) zero g h told = told
one_found f (n ∷ ns) (suc i) g h told = one_found (with_told f n) ns i g (omega (arith, h)) told

pub found_more : (start f g : Found) (ns : List NodeTold) (i j : ℕ) → i < length ns → j ≡ i → f ≡ found_after start (take i ns) → IfSome (slice_get ns j) (λ n. g ≡ with_told f n) → g ≡ found_after start (take (i + 1) ns)
found_more start f g ns i j h same so_far told =
    one_found start ns i g h
    (subst (λ (k : ℕ). IfSome (slice_get ns k) (λ n. g ≡ with_told (found_after start (take i ns)) n)) same (subst (λ (e : Found). IfSome (slice_get ns j) (λ n. g ≡ with_told e n)) so_far told))
    ∙ ap (λ (k : ℕ). found_after start (take k ns)) (sym (add-one i))
