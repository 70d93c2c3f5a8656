-- What is marked from nothing are the scopes that hold one of those from which it is marked.
use Rattle.std.specs.Prelude.{◌≡◌, ◌<◌, ◌≤◌, ℕ, zero, suc, ◌+◌, Bool, true, false, cond, ◌&&◌, ◌||◌, List, [], ◌∷◌, ◌++◌, length, get_or, slice_get, map, filter, take, replicate, Option, Some, None}
use Rattle.std.specs.List.{AllByRecursion, list_any}
use Rattle.std.proofs.Common.{refl, sym, ap, ◌∙◌, arith, take_all}
use Rattle.std.proofs.Math.Bool.{and-true}
use Rattle.std.proofs.lemmas.Bool.{both_ways}
use Rattle.std.proofs.lemmas.List.{ext_get_or, get_or-map, get_or-replicate, length-map, length-replicate, map-append}
use Rattle.std.proofs.lemmas.List.Elements.{filter-append}
use Rattle.list_laws.proofs.AllOf.{AllOf}
use Rattle.list_laws.proofs.AnyOf.{any_same}
use Rattle.name_rules.specs.Kept.{holds_with}
use Rattle.place_list.specs.Bounds.{IsBelow, IsBounded, IsKnown}
use Rattle.place_list.specs.TableViews.{entry_view, list_view, lists_in, places_in, scope_at, scope_parents, scopes_in, withs_in}
use Rattle.place_list.specs.Tables.{place_of, setting_of, site_of}
use Rattle.place_list.specs.declared.tables.PlaceEntry.{PlaceEntry}
use Rattle.place_list.specs.declared.tables.PlaceList.{PlaceList}
use Rattle.scope_marks.proofs.MarkedOutwards.{length_each, marked_each}
use Rattle.scope_marks.proofs.ScopesByNumber.{IsTable, Within, as_many_scopes, never_empty, scope_within, scopes_are_table}
use Rattle.scope_marks.proofs.StepsOutwards.{each_append}
use Rattle.scope_marks.specs.Marks.{eval_scopes, mark_each}
use Rattle.scope_rules.specs.Evals.{holds_eval, is_eval}
use Rattle.tree_places.specs.Open.{all_open}
use Rattle.tree_places.specs.Places.{Place}
use Rattle.tree_places.specs.Scopes.{Scope, is_inside}

inside_nowhere : (s : Scope) → is_inside s [] ≡ true
unfolding all_open
inside_nowhere [] = refl
inside_nowhere (n ∷ outer) = inside_nowhere outer

module _ (ss : List Scope) (t : IsTable ss) where
  within_nowhere : (ps : List Scope) → AllOf (Within ss) ps → AllOf (λ p. Within ss p × (is_inside p [] ≡ true)) ps
  within_nowhere [] a = tt
  within_nowhere (p ∷ ps) a = ((a.0, inside_nowhere p), within_nowhere ps a.1)

  marked_at : (ps : List Scope) → AllOf (Within ss) ps → (m : ℕ) → m < length ss → get_or (mark_each (replicate (length ss) false) ps) m false ≡ list_any (λ p. is_inside p (get_or ss m [])) ps
  marked_at ps a m h =
      marked_each ss t [] ps (replicate (length ss) false) (λ n. false) (λ n. false) (length-replicate (length ss) false)
      (λ n l. get_or-replicate (length ss) n false false l)
      (record { further = λ n k ln lk x i j. absurd (both_ways _ refl x); in_home = λ n l e. absurd (never_empty ss t n l (sym e)) })
      (within_nowhere ps a) (λ n l x y. both_ways _ refl y) m h
      ∙ any_same (λ p. is_inside p (get_or ss m []) && is_inside (get_or ss m []) []) (λ p. is_inside p (get_or ss m [])) ps
      (λ p i. ap (λ b. is_inside p (get_or ss m []) && b) (inside_nowhere (get_or ss m [])) ∙ and-true (is_inside p (get_or ss m [])))

  marks_hold : (ps : List Scope) → AllOf (Within ss) ps → mark_each (replicate (length ss) false) ps ≡ map (λ s. list_any (λ p. is_inside p s) ps) ss
  marks_hold ps a =
      ext_get_or false (mark_each (replicate (length ss) false) ps) (map (λ s. list_any (λ p. is_inside p s) ps) ss)
      (many ∙ sym (length-map ss (λ s. list_any (λ p. is_inside p s) ps)))
      (λ i l. marked_at ps a i (omega (arith, l, many)) ∙ sym (get_or-map (λ s. list_any (λ p. is_inside p s) ps) ss i [] false (omega (arith, l, many))))
    where
      many : length (mark_each (replicate (length ss) false) ps) ≡ length ss
      many = length_each (replicate (length ss) false) ps ∙ length-replicate (length ss) false

-- ---- of a list of places

module _ (l : PlaceList) (bounded : IsBounded (list_view l)) where
  listed_within : (os : List (Option ℕ)) → AllOf (IsBelow (length l.scopes.items)) os → AllOf (Within (scopes_in l)) (map (scope_at l) os)
  listed_within [] a = tt
  listed_within (o ∷ os) a = (scope_within l bounded o a.0, listed_within os a.1)

  many_parents : length (scope_parents l) ≡ length l.scopes.items
  many_parents = length-map l.scopes.items (λ e. e.parent)

  below_entries : (o : Option ℕ) → IsBelow (length (scope_parents l)) o → IsBelow (length l.scopes.items) o
  below_entries None h = tt
  below_entries (Some n) h = omega (arith, h, many_parents)

  -- the scopes around the WithStatements are those of the table
  pub withs_below : AllByRecursion (IsBelow (length l.scopes.items)) l.withs.items
  withs_below = go l.withs.items bounded.withs
    where
      go : (os : List (Option ℕ)) → AllByRecursion (IsBelow (length (scope_parents l))) os → AllByRecursion (IsBelow (length l.scopes.items)) os
      go [] a = tt
      go (o ∷ os) a = (below_entries o a.0, go os a.1)

  pub scope_below : (e : PlaceEntry) → IsKnown (list_view l) e.setting → IsBelow (length l.scopes.items) e.setting.scope
  scope_below e k = below_entries e.setting.scope k.scope

  empty_marks : (n : ℕ) → n ≡ length l.scopes.items → replicate n false ≡ replicate (length (scopes_in l)) false
  empty_marks n e = ap (λ (k : ℕ). replicate k false) (e ∙ sym (as_many_scopes l))

  pub withs_are_held : (n : ℕ) (bits : List Bool) → n ≡ length l.scopes.items → bits ≡ mark_each (replicate n false) (map (scope_at l) l.withs.items) → bits ≡ map (holds_with (withs_in l)) (scopes_in l)
  unfolding holds_with
  withs_are_held n bits e f =
      f ∙ ap (λ (start : List Bool). mark_each start (withs_in l)) (empty_marks n e)
      ∙ marks_hold (scopes_in l) (scopes_are_table l bounded) (withs_in l) (listed_within l.withs.items withs_below)

  -- ---- of direct evals

  any_scope : (s : Scope) (ps : List Place) → list_any (λ p. is_inside p s) (eval_scopes ps) ≡ holds_eval ps s
  unfolding holds_eval eval_scopes
  any_scope s [] = refl
  any_scope s (p ∷ ps) = go (is_eval p) (any_scope s ps)
    where
      go : (b : Bool) → list_any (λ p. is_inside p s) (map (λ (q : Place). q.site.setting.scope) (filter is_eval ps)) ≡ list_any (λ q. is_eval q && is_inside q.site.setting.scope s) ps
          → list_any (λ p. is_inside p s) (map (λ (q : Place). q.site.setting.scope) (cond b (p ∷ filter is_eval ps) (filter is_eval ps))) ≡ ((b && is_inside p.site.setting.scope s) || list_any (λ q. is_eval q && is_inside q.site.setting.scope s) ps)
      go true ih = ap (λ b. is_inside p.site.setting.scope s || b) ih
      go false ih = ih

  evals_within : (es : List PlaceEntry) → AllByRecursion (λ e. IsKnown (list_view l) e.setting) (map entry_view es) → AllOf (Within (scopes_in l)) (eval_scopes (map (place_of (lists_in l)) (map entry_view es)))
  unfolding eval_scopes place_of site_of setting_of
  evals_within [] a = tt
  evals_within (e ∷ es) a = go (is_eval (place_of (lists_in l) (entry_view e))) (evals_within es a.1)
    where
      rest : List Place
      rest = filter is_eval (map (place_of (lists_in l)) (map entry_view es))

      go : (b : Bool) → AllOf (Within (scopes_in l)) (map (λ (q : Place). q.site.setting.scope) (filter is_eval (map (place_of (lists_in l)) (map entry_view es))))
          → AllOf (Within (scopes_in l)) (map (λ (q : Place). q.site.setting.scope) (cond b (place_of (lists_in l) (entry_view e) ∷ filter is_eval (map (place_of (lists_in l)) (map entry_view es))) (filter is_eval (map (place_of (lists_in l)) (map entry_view es)))))
      go true ih = (scope_within l bounded e.setting.scope (scope_below e a.0), ih)
      go false ih = ih

  pub evals_are_held : (n : ℕ) (bits : List Bool) → n ≡ length l.scopes.items → bits ≡ mark_each (replicate n false) (eval_scopes (places_in l)) → bits ≡ map (holds_eval (places_in l)) (scopes_in l)
  evals_are_held n bits e f =
      f ∙ ap (λ (start : List Bool). mark_each start (eval_scopes (places_in l))) (empty_marks n e)
      ∙ marks_hold (scopes_in l) (scopes_are_table l bounded) (eval_scopes (places_in l)) (evals_within l.places.items bounded.places)
      ∙ each_scope (scopes_in l)
    where
      each_scope : (ss : List Scope) → map (λ s. list_any (λ p. is_inside p s) (eval_scopes (places_in l))) ss ≡ map (holds_eval (places_in l)) ss
      each_scope [] = refl
      each_scope (s ∷ ss) = ap (λ b. b ∷ map (λ s. list_any (λ p. is_inside p s) (eval_scopes (places_in l))) ss) (any_scope s (places_in l)) ∙ ap (λ bs. holds_eval (places_in l) s ∷ bs) (each_scope ss)

-- ---- the loop over the places

evals_append : (xs ys : List Place) → eval_scopes (xs ++ ys) ≡ eval_scopes xs ++ eval_scopes ys
unfolding eval_scopes
evals_append xs ys = ap (map (λ (q : Place). q.site.setting.scope)) (filter-append is_eval xs ys) ∙ map-append (λ (q : Place). q.site.setting.scope) (filter is_eval xs) (filter is_eval ys)

taken_next : (xs : List Place) (i : ℕ) (x : Place) → slice_get xs i ≡ Some x → take (suc i) xs ≡ take i xs ++ x ∷ []
taken_next [] i x e = absurd (cc)
taken_next (y ∷ ys) zero x e = let same : y ≡ x = cc in ap (λ (z : Place). z ∷ []) same
taken_next (y ∷ ys) (suc i) x e = ap (λ (zs : List Place). y ∷ zs) (taken_next ys i x e)

taken_more : (xs : List Place) (i : ℕ) (x : Place) → slice_get xs i ≡ Some x → take (i + 1) xs ≡ take i xs ++ x ∷ []
taken_more xs i x e = ap (λ (n : ℕ). take n xs) {x = i + 1} {y = suc i} (omega arith) ∙ taken_next xs i x e

pub no_evals : (start : List Bool) → start ≡ mark_each start (eval_scopes [])
unfolding mark_each eval_scopes
no_evals start = refl

pub evals_more : (ps : List Place) (i : ℕ) (p : Place) (start bits bits' : List Bool) → slice_get ps i ≡ Some p → bits ≡ mark_each start (eval_scopes (take i ps)) → bits' ≡ mark_each bits (eval_scopes (p ∷ []))
    → bits' ≡ mark_each start (eval_scopes (take (i + 1) ps))
evals_more ps i p start bits bits' r e f =
    f ∙ ap (λ (b : List Bool). mark_each b (eval_scopes (p ∷ []))) e
    ∙ sym (each_append start (eval_scopes (take i ps)) (eval_scopes (p ∷ [])))
    ∙ sym (ap (mark_each start) (ap eval_scopes (taken_more ps i p r) ∙ evals_append (take i ps) (p ∷ [])))

pub all_places : (l : PlaceList) (i : ℕ) → length l.places.items ≤ i → take i (places_in l) ≡ places_in l
all_places l i h = take_all i (places_in l) (omega (arith, h, length-map (map entry_view l.places.items) (place_of (lists_in l)), length-map l.places.items entry_view))
