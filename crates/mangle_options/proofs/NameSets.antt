-- Names that are put into a set, one after another.
use Rattle.std.specs.Prelude.{◌≡◌, ◌+◌, ◌≤◌, ℕ, suc, Bool, true, false, cond, ◌||◌, List, [], ◌∷◌, ◌++◌, length, bytes_eq, map, if◌then◌else◌}
use Rattle.std.specs.Borrow.{Bor}
use Rattle.std.proofs.Common.{refl, sym, ap, ◌∙◌, append_assoc, arith}
use Rattle.std.proofs.lemmas.List.{map-append}
use Rattle.std.proofs.lemmas.List.Folds.{list_any-append}
use Rattle.std.proofs.lemmas.Slice.Eq.{bytes_eq-Decides}
use Rattle.list_laws.proofs.Tests.{tests_agree}
use Rattle.scope_rules.specs.Bindings.{same_name}
use Rattle.scope_rules.specs.PrivateNames.{is_among}
use Rattle.tree_nodes.specs.Tree.{Text}

same_flips : (x y : Text) → bytes_eq x y ≡ bytes_eq y x
same_flips x y = tests_agree (bytes_eq x y) (bytes_eq y x) (λ e. (bytes_eq-Decides y x).1 (sym ((bytes_eq-Decides x y).0 e))) (λ e. (bytes_eq-Decides x y).1 (sym ((bytes_eq-Decides y x).0 e)))

put_last : (t u b : Bool) → t ≡ u → cond t true b ≡ (b || (u || false))
put_last true true true e = refl
put_last true true false e = refl
put_last false false true e = refl
put_last false false false e = refl
put_last true false b e = absurd (cc)
put_last false true b e = absurd (cc)

-- ---- the names of a list

pub name_more : (ns : List Text) (k x : Text) (old new : Bool) → old ≡ is_among ns x → new ≡ cond (bytes_eq k x) true old → new ≡ is_among (ns ++ k ∷ []) x
unfolding is_among same_name
name_more ns k x old new so_far put =
    put
    ∙ put_last (bytes_eq k x) (bytes_eq x k) old (same_flips k x)
    ∙ ap (λ (b : Bool). b || (bytes_eq x k || false)) so_far
    ∙ sym (list_any-append (bytes_eq x) ns (k ∷ []))

-- ---- the names of another set, of which some are still left

put_first : (t u a b : Bool) → t ≡ u → (a || (u || b)) ≡ (cond t true a || b)
put_first true true true b e = refl
put_first true true false b e = refl
put_first false false a b e = refl
put_first true false a b e = absurd (cc)
put_first false true a b e = absurd (cc)

or_nothing : (b : Bool) → (b || false) ≡ b
or_nothing true = refl
or_nothing false = refl

module _ (whole copy : List Text) (x : Text) where
  pub copied_more : (new all rest : List Text) (k name : Text) → is_among whole x ≡ (is_among copy x || is_among all x) → all ≡ k ∷ rest → name ≡ k
      → is_among new x ≡ cond (bytes_eq name x) true (is_among copy x) → is_among whole x ≡ (is_among new x || is_among rest x)
  unfolding is_among same_name
  copied_more new all rest k name told e n put =
      told
      ∙ ap (λ ns. is_among copy x || is_among ns x) e
      ∙ put_first (bytes_eq name x) (bytes_eq x k) (is_among copy x) (is_among rest x) (ap (λ (m : Text). bytes_eq m x) n ∙ same_flips k x)
      ∙ ap (λ (b : Bool). b || is_among rest x) (sym put)

  pub copied_all : (rest : List Text) → is_among whole x ≡ (is_among copy x || is_among rest x) → rest ≡ [] → is_among copy x ≡ is_among whole x
  unfolding is_among
  copied_all rest told e = sym (told ∙ ap (λ ns. is_among copy x || is_among ns x) e ∙ or_nothing (is_among copy x))

-- none is copied yet
pub copied_none : (whole copy rest : List Text) (x : Text) → copy ≡ [] → rest ≡ whole → is_among whole x ≡ (is_among copy x || is_among rest x)
unfolding is_among
copied_none whole copy rest x none all = sym (ap (λ ns. is_among ns x || is_among rest x) none ∙ ap (λ ns. is_among ns x) all)

pub none_more : (copy rest whole : List Text) → copy ≡ [] → rest ≡ whole → length copy + length rest ≤ length whole
none_more copy rest whole none all =
    let a : length copy ≡ 0 = ap length none in
    let b : length rest ≡ length whole = ap length all in
    omega (arith, a, b)

one_at_most : (b : Bool) (old new : ℕ) → new ≡ old + (if b then 1 else 0) → new ≤ old + 1
one_at_most true old new e = omega (arith, e)
one_at_most false old new e = omega (arith, e)

pub fewer : (all rest : List Text) (k : Text) (old new n : ℕ) (b : Bool) → all ≡ k ∷ rest → old + length all ≤ n → new ≡ old + (if b then 1 else 0) → new + length rest ≤ n
fewer all rest k old new n b e so_far put =
    let s : length all ≡ suc (length rest) = ap length e in
    let l : new ≤ old + 1 = one_at_most b old new put in
    omega (arith, s, l, so_far)

-- ---- the names of a set, listed one after another

pub listed_more : (ns new : List (Bor Text)) (s : Bor Text) (k : Text) (rest all whole : List Text) → new ≡ ns ++ s ∷ [] → s.now ≡ k → all ≡ k ∷ rest → map (λ n. n.now) ns ++ all ≡ whole
    → map (λ n. n.now) new ++ rest ≡ whole
listed_more ns new s k rest all whole put same e so_far =
    ap (λ (ms : List (Bor Text)). map (λ n. n.now) ms ++ rest) put
    ∙ ap (λ (ms : List Text). ms ++ rest) (map-append (λ (n : Bor Text). n.now) ns (s ∷ []))
    ∙ append_assoc (map (λ n. n.now) ns) (s.now ∷ []) rest
    ∙ ap (λ (m : Text). map (λ n. n.now) ns ++ (m ∷ rest)) same
    ∙ ap (λ (ms : List Text). map (λ n. n.now) ns ++ ms) (sym e)
    ∙ so_far
