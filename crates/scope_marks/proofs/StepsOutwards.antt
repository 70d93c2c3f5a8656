-- The loops that mark, step by step.
use Rattle.std.specs.Prelude.{◌≡◌, ◌<◌, ℕ, zero, suc, ◌+◌, Bool, true, false, cond, List, [], ◌∷◌, ◌++◌, length, get_or, map, take, Option, Some, None, slice_get, slice_set}
use Rattle.std.proofs.Common.{refl, sym, ap, ◌∙◌, arith}
use Rattle.std.proofs.lemmas.Bool.{both_ways}
use Rattle.std.proofs.lemmas.List.{length-map, length-set, map_more}
use Rattle.list_laws.proofs.Tests.{none_some}
use Rattle.place_list.proofs.OutwardWalks.{line_form, lower}
use Rattle.place_list.specs.Bounds.{IsBelow}
use Rattle.place_list.specs.TableViews.{scope_at, scope_parents}
use Rattle.place_list.specs.Tables.{list_at}
use Rattle.place_list.specs.declared.tables.PlaceList.{PlaceList}
use Rattle.place_list.specs.declared.tables.ScopeEntry.{ScopeEntry}
use Rattle.scope_marks.specs.Marks.{mark_each, mark_up}
use Rattle.tree_places.specs.Scopes.{Scope}

pub bit_read : (bits : List Bool) (i : ℕ) → slice_get bits i ≡ Some true → get_or bits i false ≡ true
bit_read [] i e = absurd (none_some true e)
bit_read (b ∷ bs) zero e = cc
bit_read (b ∷ bs) (suc i) e = bit_read bs i e

bit_get : (bits : List Bool) (i : ℕ) → get_or bits i false ≡ true → slice_get bits i ≡ Some true
bit_get [] i e = absurd (both_ways _ refl e)
bit_get (b ∷ bs) zero e = ap (λ (x : Bool). Some x) e
bit_get (b ∷ bs) (suc i) e = bit_get bs i e

-- a bit that isn't told is off
pub bit_off : (bits : List Bool) (i : ℕ) → (slice_get bits i ≡ Some true → ⊥) → get_or bits i false ≡ false
bit_off bits i no_such = go (get_or bits i false) refl
  where
    go : (b : Bool) → get_or bits i false ≡ b → b ≡ false
    go true e = absurd (no_such (bit_get bits i e))
    go false e = refl

-- what is left to mark makes it whole
pub record Rest (l : PlaceList) (start : List Bool) (from : Option ℕ) (bits : List Bool) (next : Option ℕ) : Type 0 where
  pub room : length bits ≡ length l.scopes.items
  pub inside : IsBelow (length l.scopes.items) next
  pub left : mark_up bits (scope_at l next) ≡ mark_up start (scope_at l from)

module _ (l : PlaceList) (start bits : List Bool) (from : Option ℕ) where
  module _ (n : ℕ) (r : Rest l start from bits (Some n)) where
    pub rest_step : (bits' : List Bool) (next : Option ℕ) → get_or bits n false ≡ false → bits' ≡ slice_set bits n true → scope_at l (Some n) ≡ n ∷ scope_at l next → IsBelow n next → Rest l start from bits' next
    unfolding mark_up
    rest_step bits' next off e o low = record {
      room = ap (length {A = Bool}) e ∙ length-set bits n true ∙ r.room;
      inside = lower (length l.scopes.items) n next r.inside low;
      left =
          ap (λ (b : List Bool). mark_up b (scope_at l next)) e
          ∙ sym (ap (λ (b : Bool). cond b bits (mark_up (slice_set bits n true) (scope_at l next))) off)
          ∙ sym (ap (mark_up bits) o) ∙ r.left;
    }

    pub rest_marked : get_or bits n false ≡ true → bits ≡ mark_up start (scope_at l from)
    unfolding mark_up
    rest_marked on =
        let many : length (scope_parents l) ≡ length l.scopes.items = length-map l.scopes.items (λ (e : ScopeEntry). e.parent) in
        let w : (outer : List ℕ) × (scope_at l (Some n) ≡ n ∷ outer) = line_form (scope_parents l) n (omega (arith, many, r.inside)) in
        sym (ap (λ (b : Bool). cond b bits (mark_up (slice_set bits n true) w.0)) on) ∙ sym (ap (mark_up bits) w.1) ∙ r.left

  pub rest_done : Rest l start from bits None → bits ≡ mark_up start (scope_at l from)
  unfolding mark_up list_at
  rest_done r = r.left

pub each_append : (bits : List Bool) (xs ys : List Scope) → mark_each bits (xs ++ ys) ≡ mark_each (mark_each bits xs) ys
unfolding mark_each
each_append bits [] ys = refl
each_append bits (x ∷ xs) ys = each_append (mark_up bits x) xs ys

-- one more scope is marked
pub each_more : {X : Type 0} (f : X → Scope) (xs : List X) (d : X) (start bits bits' : List Bool) (i : ℕ) → i < length xs → bits ≡ mark_each start (map f (take i xs)) → bits' ≡ mark_up bits (f (get_or xs i d))
    → bits' ≡ mark_each start (map f (take (i + 1) xs))
unfolding mark_each
each_more f xs d start bits bits' i l e h =
    h ∙ ap (λ (b : List Bool). mark_up b (f (get_or xs i d))) e
    ∙ sym (each_append start (map f (take i xs)) (f (get_or xs i d) ∷ []))
    ∙ ap (mark_each start) (sym (map_more f xs i d l))

pub each_none : (start : List Bool) → start ≡ mark_each start []
unfolding mark_each
each_none start = refl
