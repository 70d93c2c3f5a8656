-- Scopes are the same exactly where their numbers are, and a walk outwards goes from entry to entry.
use Rattle.std.proofs.Common.{◌≡◌, ◌<◌, ℕ, zero, suc, Bool, true, false, ◌||◌, nat_eq, List, [], ◌∷◌, length, slice_get, Option, Some, None, refl, sym, ap, ap₂, ◌∙◌, arith}
use Rattle.std.proofs.lemmas.List.{length-map}
use Rattle.place_list.proofs.NumbersStand.{lineages_length, list_is, own_number}
use Rattle.place_list.proofs.OuterComesFirst.{head_at, line_at}
use Rattle.place_list.specs.Bounds.{ComesBefore, IsBelow, IsBounded}
use Rattle.place_list.specs.Outwards.{same_number}
use Rattle.place_list.specs.TableViews.{heads_at, list_view, scope_at, scope_parents}
use Rattle.place_list.specs.Tables.{head_lists, lineages, list_at}
use Rattle.place_list.specs.declared.tables.HeadEntry.{HeadEntry}
use Rattle.place_list.specs.declared.tables.PlaceList.{PlaceList}
use Rattle.place_list.specs.declared.tables.ScopeEntry.{ScopeEntry}
use Rattle.tree_nodes.proofs.Cases.{bytes_same}
use Rattle.tree_places.specs.Scopes.{is_inside, number_of, same_scope}

-- how far outwards a walk may go
abbrev pub how_far : Option ℕ → ℕ
how_far None = 0
how_far (Some k) = suc k

-- a list that stands at a place
got : (lists : List (List ℕ)) (k : ℕ) → k < length lists → (xs : List ℕ) × (slice_get lists k ≡ Some xs)
got [] k h = absurd (omega (arith, h))
got (l ∷ ls) zero h = (l, refl)
got (l ∷ ls) (suc k) h = got ls k (omega (arith, h))

with_head : (k : ℕ) (xs : List ℕ) → number_of xs ≡ k ∷ [] → (rest : List ℕ) × (xs ≡ k ∷ rest)
unfolding number_of
with_head k [] e = absurd (cc)
with_head k (n ∷ rest) e = (rest, let same : n ≡ k = cc in ap (λ (m : ℕ). m ∷ rest) same)

pub line_form : (os : List (Option ℕ)) (k : ℕ) → k < length os → (rest : List ℕ) × (list_at (lineages os) (Some k) ≡ k ∷ rest)
line_form os k h =
    let g : (xs : List ℕ) × (slice_get (lineages os) k ≡ Some xs) = got (lineages os) k (let e : length (lineages os) ≡ length os = lineages_length os in omega (arith, e, h)) in
    let w : (rest : List ℕ) × (g.0 ≡ k ∷ rest) = with_head k g.0 (own_number os k g.0 g.1) in
    (w.0, list_is (lineages os) (Some k) g.0 g.1 ∙ w.1)

same_tests : (a b : ℕ) (x y : List ℕ) → (nat_eq a b ≡ true → a ∷ x ≡ b ∷ y) → same_scope (a ∷ x) (b ∷ y) ≡ nat_eq a b
unfolding same_scope
same_tests a b x y h = go (nat_eq a b) refl
  where
    go : (t : Bool) → nat_eq a b ≡ t → same_scope (a ∷ x) (b ∷ y) ≡ nat_eq a b
    go true e = ap (λ (z : List ℕ). same_scope (a ∷ x) z) (sym (h e)) ∙ bytes_same (a ∷ x) ∙ sym e
    go false e = rw e refl

nat_same : (a b : ℕ) → nat_eq a b ≡ true → a ≡ b
nat_same a b e = grind (arith, e)

pub same_is_number : (os : List (Option ℕ)) (a b : Option ℕ) → IsBelow (length os) a → IsBelow (length os) b
    → same_scope (list_at (lineages os) a) (list_at (lineages os) b) ≡ same_number a b
unfolding same_scope same_number list_at
same_is_number os None None f g = refl
same_is_number os None (Some b) f g = let w : (rest : List ℕ) × (list_at (lineages os) (Some b) ≡ b ∷ rest) = line_form os b g in ap (λ (z : List ℕ). same_scope [] z) w.1
same_is_number os (Some a) None f g = let w : (rest : List ℕ) × (list_at (lineages os) (Some a) ≡ a ∷ rest) = line_form os a f in ap (λ (z : List ℕ). same_scope z []) w.1
same_is_number os (Some a) (Some b) f g =
    let v : (rest : List ℕ) × (list_at (lineages os) (Some a) ≡ a ∷ rest) = line_form os a f in
    let w : (rest : List ℕ) × (list_at (lineages os) (Some b) ≡ b ∷ rest) = line_form os b g in
    ap₂ (λ (y z : List ℕ). same_scope y z) v.1 w.1
    ∙ same_tests a b v.0 w.0 (λ e. sym v.1 ∙ ap (λ (k : ℕ). list_at (lineages os) (Some k)) (nat_same a b e) ∙ w.1)

-- by a table of the numbers outside, whose entries come after what lies outside
pub line_outwards : (os : List (Option ℕ)) → ComesBefore os → (k : ℕ) (p : Option ℕ) → slice_get os k ≡ Some p → list_at (lineages os) (Some k) ≡ k ∷ list_at (lineages os) p
line_outwards os rising k p e = list_is (lineages os) (Some k) (k ∷ list_at (lineages os) p) (line_at os rising k p e)

pub outer_below : (os : List (Option ℕ)) → ComesBefore os → (k : ℕ) (p : Option ℕ) → slice_get os k ≡ Some p → IsBelow k p
outer_below os rising k None e = tt
outer_below os rising k (Some q) e = rising k q e

pub head_outwards : (l : PlaceList) → IsBounded (list_view l) → (k : ℕ) (h : HeadEntry) → slice_get l.heads.items k ≡ Some h → heads_at l (Some k) ≡ h.scope ∷ heads_at l h.parent
head_outwards l bounded k h e = list_is (head_lists l.heads.items) (Some k) (h.scope ∷ heads_at l h.parent) (head_at l.heads.items bounded.heads k h e)

pub nearer : (k : ℕ) (p : Option ℕ) → IsBelow k p → how_far p < suc k
nearer k None h = omega arith
nearer k (Some q) h = omega (arith, h)

pub lower : (n k : ℕ) (p : Option ℕ) → k < n → IsBelow k p → IsBelow n p
lower n k None l h = tt
lower n k (Some q) l h = omega (arith, l, h)

module _ (l : PlaceList) where
  abbrev os : List (Option ℕ)
  os = scope_parents l

  many : length os ≡ length l.scopes.items
  many = length-map l.scopes.items (λ (e : ScopeEntry). e.parent)

  fits : (o : Option ℕ) → IsBelow (length l.scopes.items) o → IsBelow (length os) o
  fits None h = tt
  fits (Some k) h = omega (arith, many, h)

  pub same_scope_is_number : (a b : Option ℕ) → IsBelow (length l.scopes.items) a → IsBelow (length l.scopes.items) b
      → same_scope (scope_at l a) (scope_at l b) ≡ same_number a b
  same_scope_is_number a b h g = same_is_number os a b (fits a h) (fits b g)

  module _ (outer : Option ℕ) (below : IsBelow (length l.scopes.items) outer) where
    pub inside_on : (k : ℕ) (p : Option ℕ) → k < length l.scopes.items → scope_at l (Some k) ≡ k ∷ scope_at l p → same_number (Some k) outer ≡ false
        → is_inside (scope_at l (Some k)) (scope_at l outer) ≡ is_inside (scope_at l p) (scope_at l outer)
    unfolding is_inside
    inside_on k p h line s =
        ap (λ (z : List ℕ). is_inside z (scope_at l outer)) line
        ∙ ap (λ (t : Bool). t || is_inside (scope_at l p) (scope_at l outer)) (ap (λ (z : List ℕ). same_scope z (scope_at l outer)) (sym line) ∙ same_scope_is_number (Some k) outer h below ∙ s)

    pub inside_found : (k : ℕ) → k < length l.scopes.items → same_number (Some k) outer ≡ true → is_inside (scope_at l (Some k)) (scope_at l outer) ≡ true
    unfolding is_inside
    inside_found k h s =
        let w : (rest : List ℕ) × (list_at (lineages os) (Some k) ≡ k ∷ rest) = line_form os k (fits (Some k) h) in
        ap (λ (z : List ℕ). is_inside z (scope_at l outer)) w.1
        ∙ ap (λ (t : Bool). t || is_inside w.0 (scope_at l outer)) (ap (λ (z : List ℕ). same_scope z (scope_at l outer)) (sym w.1) ∙ same_scope_is_number (Some k) outer h below ∙ s)

    pub inside_end : is_inside (scope_at l None) (scope_at l outer) ≡ same_number None outer
    unfolding is_inside list_at
    inside_end = same_scope_is_number None outer tt below
