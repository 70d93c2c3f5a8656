-- Names that are set.
use Rattle.std.specs.Prelude.{◌≡◌, ◌+◌, ◌<◌, ◌++◌, ◌∷◌, [], ◌||◌, ℕ, Bool, true, false, nat_eq, List, length, map, take, get_or, Option, Some, None, if◌then◌else◌}
use Rattle.std.specs.List.{list_any}
use Rattle.std.proofs.Common.{refl, sym, ap, ◌∙◌, set}
use Rattle.std.proofs.lemmas.Bool.{eqb-false, eqb-true}
use Rattle.std.proofs.lemmas.Grind.{get_or-set_at}
use Rattle.std.proofs.lemmas.List.{get_or-set_other, map_push, take_more}
use Rattle.scope_rules.specs.Evals.{contains}

any_push : {X : Type 0} (t : X → Bool) (xs : List X) (x : X) → list_any t (xs ++ x ∷ []) ≡ (list_any t xs || t x)
any_push t [] x = go (t x)
  where
    go : (b : Bool) → (b || false) ≡ (false || b)
    go true = refl
    go false = refl
any_push t (y ∷ ys) x = ap (λ (b : Bool). t y || b) (any_push t ys x) ∙ go (t y) (list_any t ys) (t x)
  where
    go : (a b c : Bool) → (a || (b || c)) ≡ ((a || b) || c)
    go true b c = refl
    go false b c = refl

pub contains_push : (ns : List ℕ) (n k : ℕ) → contains (ns ++ n ∷ []) k ≡ (contains ns k || nat_eq k n)
unfolding contains
contains_push ns n k = any_push (nat_eq k) ns n

-- a name more
pub names_more : {X Y : Type 0} (number : X → ℕ) (ids : List X) (i : ℕ) (d : X) (x : X) (n : ℕ) (names : List (Option Y)) (old : ℕ → Option Y) (name : Y) → i < length ids → x ≡ get_or ids i x → n ≡ number x → n < length names
    → ((k : ℕ) → get_or names k None ≡ (if contains (map number (take i ids)) k then Some name else old k))
    → (k : ℕ) → get_or (set names n (Some name)) k None ≡ (if contains (map number (take (i + 1) ids)) k then Some name else old k)
names_more {X} {Y} number ids i d x n names old name h read is inside so_far k =
    go (nat_eq k n) refl
    ∙ ap (λ (b : Bool). if b then Some name else old k)
    (sym (ap (λ (ys : List X). contains (map number ys) k) (take_more ids i x h ∙ ap (λ (y : X). take i ids ++ y ∷ []) (sym read)) ∙ ap (λ ns. contains ns k) (map_push number (take i ids) x)
    ∙ ap (λ m. contains (map number (take i ids) ++ m ∷ []) k) (sym is) ∙ contains_push (map number (take i ids)) n k))
  where
    either : (b : Bool) (o : Option Y) → o ≡ (if b then Some name else old k) → o ≡ (if (b || false) then Some name else old k)
    either true o e = e
    either false o e = e

    always : (b : Bool) → Some name ≡ (if (b || true) then Some name else old k)
    always true = refl
    always false = refl

    go : (t : Bool) → nat_eq k n ≡ t → get_or (set names n (Some name)) k None ≡ (if (contains (map number (take i ids)) k || t) then Some name else old k)
    go true e = get_or-set_at names n k (Some name) None (eqb-true k n e) inside ∙ always (contains (map number (take i ids)) k)
    go false e = get_or-set_other names n k (Some name) None (λ s. eqb-false k n e s) ∙ either (contains (map number (take i ids)) k) (get_or names k None) (so_far k)
