-- Marks for a slot that may be new.
use Rattle.std.specs.Prelude.{◌≡◌, ◌⊎◌, ◌<◌, ◌≤◌, ℕ, Bool, true, false, List, [], ◌∷◌, ◌++◌, length, get_or, replicate, slice_set, Option, All}
use Rattle.std.proofs.Common.{refl, sym, ap, ◌∙◌, arith, inl, inr, subst}
use Rattle.std.proofs.lemmas.Bool.{cases_lt, lt-ltb, le-ltb}
use Rattle.std.proofs.lemmas.List.{get_or_push, get_or_read, length-replicate, length_push}
use Rattle.live_slots.specs.Marks.{IsGiven, mark_group, reached}
use Rattle.live_slots.specs.Open.{all_open}
use Rattle.tree_places.specs.Scopes.{Scope}

pub reached_new : (marks : List (List Bool)) (slot n : ℕ) → length marks ≤ slot → reached marks slot n ≡ marks ++ replicate n false ∷ []
unfolding all_open
reached_new marks slot n h = rw (le-ltb slot (length marks) h) refl

pub reached_old : (marks : List (List Bool)) (slot n : ℕ) → slot < length marks → reached marks slot n ≡ marks
unfolding all_open
reached_old marks slot n h = rw (lt-ltb slot (length marks) h) refl

pub reached_long : (marks : List (List Bool)) (slot n : ℕ) → slot ≤ length marks → slot < length (reached marks slot n)
reached_long marks slot n h = go (cases_lt slot (length marks))
  where
    go : (slot < length marks) ⊎ (length marks ≤ slot) → slot < length (reached marks slot n)
    go (inl l) = rw (reached_old marks slot n l) l
    go (inr l) = rw (reached_new marks slot n l) (omega (arith, h, length_push marks (replicate n false)))

pub reached_room : (marks : List (List Bool)) (slot n : ℕ) → All (λ bits. length bits ≡ n) marks → slot ≤ length marks → length (get_or (reached marks slot n) slot []) ≡ n
reached_room marks slot n a h = go (cases_lt slot (length marks))
  where
    go : (slot < length marks) ⊎ (length marks ≤ slot) → length (get_or (reached marks slot n) slot []) ≡ n
    go (inl l) = rw (reached_old marks slot n l) (a slot [] l)
    go (inr l) = ap (λ (ms : List (List Bool)). length (get_or ms slot [])) (reached_new marks slot n l) ∙ ap (length {A = Bool}) (get_or_push marks (replicate n false) [] slot (omega (arith, l, h))) ∙ length-replicate n false

-- the marks at a slot, as they are read
pub read_at : (marks ms : List (List Bool)) (slot n m : ℕ) (bits : List Bool) → slot ≤ length marks → ms ≡ reached marks slot n → n ≡ m → bits ≡ get_or ms slot bits → bits ≡ get_or (reached marks slot m) slot []
read_at marks ms slot n m bits h e f r =
    get_or_read ms slot bits (subst (λ (xs : List (List Bool)). slot < length xs) (sym e) (reached_long marks slot n h)) r []
    ∙ ap (λ (xs : List (List Bool)). get_or xs slot []) e ∙ ap (λ (k : ℕ). get_or (reached marks slot k) slot []) f

pub is_given : (ss : List Scope) (k : ℕ) (old seen ms : List (List Bool)) (from home slot n : ℕ) (places : List (Option ℕ)) (bits new : List Bool)
    → seen ≡ old → from ≤ slot → slot ≤ length seen → ((j : ℕ) → from ≤ j → j < slot → get_or (get_or seen j []) home false ≡ true) → get_or (get_or seen slot []) home false ≡ false
    → ms ≡ reached old slot n → n ≡ k → bits ≡ get_or ms slot bits → new ≡ mark_group ss bits home places
    → IsGiven ss k old from home places slot (slice_set ms slot new)
is_given ss k old seen ms from home slot n places bits new s low high skipped free e f r g =
    let at_most : slot ≤ length old = omega (arith, high, ap (length {A = List Bool}) s) in
    record {
      low = low;
      high = at_most;
      skipped = λ j h l. subst (λ (xs : List (List Bool)). get_or (get_or xs j []) home false ≡ true) s (skipped j h l);
      free = subst (λ (xs : List (List Bool)). get_or (get_or xs slot []) home false ≡ false) s free;
      marked =
          ap (λ (xs : List (List Bool)). slice_set xs slot new) (e ∙ ap (reached old slot) f)
          ∙ ap (slice_set (reached old slot k) slot) (g ∙ ap (λ (b : List Bool). mark_group ss b home places) (read_at old ms slot n k bits at_most e f r));
    }
