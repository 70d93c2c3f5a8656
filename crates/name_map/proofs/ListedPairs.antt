-- The Properties of a run, at one step of the walk that lists them.
use Rattle.std.proofs.Common.{◌≡◌, ℕ, zero, suc, ◌+◌, Bool, true, false, List, [], ◌∷◌, ◌++◌, map, Option, Some, Result, Ok, Err, IfOk, if◌then◌else◌, refl, sym, ap, ap₂, ◌∙◌, arith}
use Rattle.std.proofs.lemmas.List.{append-nil, append_assoc}
use Rattle.name_map.specs.Spots.{pair, pairs}
use Rattle.name_map.specs.declared.spots.Pair.{Pair}
use Rattle.tree_nodes.proofs.Lists.{past_item}
use Rattle.tree_nodes.specs.Look.{are_items, item_at, onto, part_at, past}
use Rattle.tree_nodes.specs.Tree.{Parts, Tree, alone, atom, child, done, many}
use Rattle.tree_nodes.specs.Views.{item_of}
use Rattle.tree_nodes.specs.declared.kind.Kind.{Kind}
use Rattle.tree_places.specs.Renaming.{agreements, is_property, marks}

one_more : (i : ℕ) → suc i ≡ i + 1
one_more i = omega arith

pairs_onto : (p q : Parts) → pairs (onto p q) ≡ pairs p ++ pairs q
unfolding pairs
pairs_onto done q = refl
pairs_onto (atom a more) q = pairs_onto more q
pairs_onto (many items more) q = ap (λ xs. pairs items ++ xs) (pairs_onto more q) ∙ sym (append_assoc (pairs items) (pairs more) (pairs q))
pairs_onto (child k s e fields more) q =
    let own = if is_property k then pair fields ∷ pairs fields else pairs fields in
    ap (λ xs. own ++ xs) (pairs_onto more q) ∙ sym (append_assoc own (pairs more) (pairs q))

pairs_at : (ps : Parts) (i : ℕ) (p : Parts) → part_at ps i ≡ Some p → pairs (past i ps) ≡ pairs p ++ pairs (past (suc i) ps)
unfolding pairs
pairs_at done i p e = absurd (cc)
pairs_at (atom v rest) zero p e = let same : atom v done ≡ p = cc in rw (← same) refl
pairs_at (atom v rest) (suc i) p e = pairs_at rest i p e
pairs_at (child k b t fields rest) zero p e =
    let same : child k b t fields done ≡ p = cc in
    rw (← same) (ap (λ xs. xs ++ pairs rest) (sym (append-nil (if is_property k then pair fields ∷ pairs fields else pairs fields))))
pairs_at (child k b t fields rest) (suc i) p e = pairs_at rest i p e
pairs_at (many items rest) zero p e = let same : many items done ≡ p = cc in rw (← same) (ap (λ xs. xs ++ pairs rest) (sym (append-nil (pairs items))))
pairs_at (many items rest) (suc i) p e = pairs_at rest i p e

-- ---- the loops

module _ (ps : Parts) (i : ℕ) (start now : List Pair) (so_far : start ++ pairs ps ≡ now ++ pairs (past i ps)) where
  grown : (here : List Pair) (next : List Pair) → pairs (past i ps) ≡ here ++ pairs (past (suc i) ps) → next ≡ now ++ here
      → start ++ pairs ps ≡ next ++ pairs (past (i + 1) ps)
  grown here next split next_is =
      so_far ∙ ap (λ xs. now ++ xs) split ∙ sym (append_assoc now here (pairs (past (suc i) ps)))
      ∙ ap (λ xs. xs ++ pairs (past (suc i) ps)) (sym next_is)
      ∙ ap (λ j. next ++ pairs (past j ps)) (one_more i)

  pub listed_field : (p : Parts) (next : List Pair) → Some p ≡ part_at ps i → next ≡ now ++ pairs p
      → start ++ pairs ps ≡ next ++ pairs (past (i + 1) ps)
  listed_field p next e next_is = grown (pairs p) next (pairs_at ps i p (sym e)) next_is

  pub listed_item : (t : Option Tree) (next : List Pair) → are_items ps ≡ true → Some t ≡ item_at ps i → next ≡ now ++ pairs (item_of t)
      → start ++ pairs ps ≡ next ++ pairs (past (i + 1) ps)
  listed_item t next shaped e next_is =
      grown (pairs (item_of t)) next (ap pairs (past_item ps i t shaped (sym e)) ∙ pairs_onto (item_of t) (past (suc i) ps)) next_is

  pub all_listed : past i ps ≡ done → now ≡ start ++ pairs ps
  unfolding pairs
  all_listed e = sym (so_far ∙ ap (λ x. now ++ pairs x) e ∙ append-nil now)

-- a node
pub node_listed : (t : Tree) (start now next : List Pair) → now ≡ start ++ (if is_property t.kind then pair t.fields ∷ [] else []) → next ≡ now ++ pairs t.fields
    → next ≡ start ++ pairs (alone t)
unfolding pairs
node_listed t start now next e f = f ∙ ap (λ xs. xs ++ pairs t.fields) e ∙ append_assoc start _ (pairs t.fields) ∙ ap (λ xs. start ++ xs) (by_test (is_property t.kind))
  where
    by_test : (b : Bool) → (if b then pair t.fields ∷ [] else []) ++ pairs t.fields ≡ (if b then pair t.fields ∷ pairs t.fields else pairs t.fields) ++ []
    by_test true = sym (append-nil (pair t.fields ∷ pairs t.fields))
    by_test false = sym (append-nil (pairs t.fields))

-- ---- their marks, and whether names agree

map_append : {X Y : Type 0} (f : X → Y) (xs ys : List X) → map f (xs ++ ys) ≡ map f xs ++ map f ys
map_append f [] ys = refl
map_append f (x ∷ xs) ys = ap (λ zs. f x ∷ zs) (map_append f xs ys)

map_own : {Y : Type 0} (f : Pair → Y) (b : Bool) (x : Pair) (xs : List Pair) (ys : List Y) → map f xs ≡ ys → map f (if b then x ∷ xs else xs) ≡ (if b then f x ∷ ys else ys)
map_own f true x xs ys e = ap (λ zs. f x ∷ zs) e
map_own f false x xs ys e = e

pub pairs_marks : (p : Parts) → map (λ (x : Pair). x.marked) (pairs p) ≡ marks p
unfolding marks pairs
pairs_marks done = refl
pairs_marks (atom a more) = pairs_marks more
pairs_marks (many items more) = map_append (λ (x : Pair). x.marked) (pairs items) (pairs more) ∙ ap₂ (λ x y. x ++ y) (pairs_marks items) (pairs_marks more)
pairs_marks (child k s e fields more) =
    map_append (λ (x : Pair). x.marked) (if is_property k then pair fields ∷ pairs fields else pairs fields) (pairs more)
    ∙ ap₂ (λ x y. x ++ y) (map_own (λ (x : Pair). x.marked) (is_property k) (pair fields) (pairs fields) (marks fields) (pairs_marks fields)) (pairs_marks more)

pub pairs_agreements : (p : Parts) → map (λ (x : Pair). x.agrees) (pairs p) ≡ agreements p
unfolding agreements pairs
pairs_agreements done = refl
pairs_agreements (atom a more) = pairs_agreements more
pairs_agreements (many items more) = map_append (λ (x : Pair). x.agrees) (pairs items) (pairs more) ∙ ap₂ (λ x y. x ++ y) (pairs_agreements items) (pairs_agreements more)
pairs_agreements (child k s e fields more) =
    map_append (λ (x : Pair). x.agrees) (if is_property k then pair fields ∷ pairs fields else pairs fields) (pairs more)
    ∙ ap₂ (λ x y. x ++ y) (map_own (λ (x : Pair). x.agrees) (is_property k) (pair fields) (pairs fields) (agreements fields) (pairs_agreements fields)) (pairs_agreements more)

-- a list, and a field or an item with nothing below it
pub list_listed : (items : Parts) (start next : List Pair) → next ≡ start ++ pairs items → next ≡ start ++ pairs (many items done)
unfolding pairs
list_listed items start next e = e ∙ ap (λ xs. start ++ xs) (sym (append-nil (pairs items)))

pub nothing_listed : (p : Parts) (start : List Pair) → pairs p ≡ [] → start ≡ start ++ pairs p
nothing_listed p start e = sym (ap (λ xs. start ++ xs) e ∙ append-nil start)
