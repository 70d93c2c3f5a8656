-- Numbers of places, one place after another: their list, a limit above them, and the short names of all below a limit.
use Rattle.std.specs.Prelude.{◌≡◌, ◌<◌, ◌≤◌, ℕ, zero, suc, ◌+◌, List, [], ◌∷◌, ◌++◌, length, map, take, get_or, slice_get, Option, Some, None, IfSome, String, string_bytes}
use Rattle.std.proofs.Common.{sym, ap, ◌∙◌, subst, arith, append_assoc, take_all}
use Rattle.std.proofs.lemmas.List.{map-append, take_more}
use Rattle.list_laws.proofs.AllOf.{AllOf_push, AllOf_weaken}
use Rattle.name_rules.proofs.Ranks.{count_push}
use Rattle.name_rules.specs.ChosenNames.{AreBelow}
use Rattle.name_rules.specs.GivenNames.{count_from}
use Rattle.name_rules.specs.ShortNames.{short}
use Rattle.new_names.specs.Limits.{limit_with}
use Rattle.tree_nodes.specs.Tree.{Text}

-- ---- lists under a map

map_next : {X Y : Type 0} (f : X → Y) (xs : List X) (i : ℕ) (y : Y) → i < length xs → IfSome (slice_get xs i) (λ x. y ≡ f x) → map f (take (suc i) xs) ≡ map f (take i xs) ++ y ∷ []
map_next f [] i y h e = absurd (omega (arith, h))
map_next f (x ∷ xs) zero y h e = ap (λ z. z ∷ []) (sym e)
map_next f (x ∷ xs) (suc i) y h e = ap (λ ys. f x ∷ ys) (map_next f xs i y (omega (arith, h)) e)

pub one_more : {X Y : Type 0} (f : X → Y) (xs : List X) (i : ℕ) (y : Y) (ys new : List Y) → i < length xs → ys ≡ map f (take i xs) → IfSome (slice_get xs i) (λ x. y ≡ f x) → new ≡ ys ++ y ∷ [] → new ≡ map f (take (i + 1) xs)
one_more {X} {Y} f xs i y ys new h so_far e put =
    put ∙ ap (λ (zs : List Y). zs ++ y ∷ []) so_far ∙ sym (map_next f xs i y h e)
    ∙ ap (λ (n : ℕ). map f (take n xs)) (let q : suc i ≡ i + 1 = omega arith in q)

-- ---- a limit above numbers

below_more : (a b : ℕ) → a ≤ b → (o : Option ℕ) → IfSome o (λ n. n < a) → IfSome o (λ n. n < b)
below_more a b h None e = tt
below_more a b h (Some n) e = let l : n < a = e in omega (arith, h, l)

pub below_limit : (a b : ℕ) → a ≤ b → (ns : List (Option ℕ)) → AreBelow a ns → AreBelow b ns
below_limit a b h ns all = AllOf_weaken (λ o. IfSome o (λ n. n < a)) (λ o. IfSome o (λ n. n < b)) (below_more a b h) ns all

raised : (limit : ℕ) (o : Option ℕ) → limit ≤ limit_with limit o
unfolding limit_with
raised limit None = omega arith
raised limit (Some n) = omega arith

above : (limit : ℕ) (o : Option ℕ) → IfSome o (λ n. n < limit_with limit o)
unfolding limit_with
above limit None = tt
above limit (Some n) = omega arith

pub limit_more : (ns : List (Option ℕ)) (i limit new : ℕ) (o : Option ℕ) → i < length ns → AreBelow limit (take i ns) → new ≡ limit_with limit (get_or ns i o) → AreBelow new (take (i + 1) ns)
limit_more ns i limit new o h all e =
    let n : Option ℕ = get_or ns i o in
    subst (λ (k : ℕ). AreBelow k (take (i + 1) ns)) (sym e)
    (subst (AreBelow (limit_with limit n)) (sym (take_more ns i o h))
    (AllOf_push (λ p. IfSome p (λ m. m < limit_with limit n)) (take i ns) n (below_limit limit (limit_with limit n) (raised limit n) (take i ns) all) (above limit n)))

pub limit_all : (ns : List (Option ℕ)) (i limit : ℕ) → length ns ≤ i → AreBelow limit (take i ns) → AreBelow limit ns
limit_all ns i limit h all = subst (AreBelow limit) (take_all i ns h) all

-- ---- short names

pub one_more_short : {Z : Type 0} (old before after : List (String Z)) (x : String Z) (n : ℕ) → map string_bytes before ≡ map string_bytes old ++ map short (count_from n 0) → after ≡ before ++ x ∷ [] → string_bytes x ≡ short n
    → map string_bytes after ≡ map string_bytes old ++ map short (count_from (n + 1) 0)
one_more_short {Z} old before after x n so_far put e =
    ap (λ (ss : List (String Z)). map string_bytes ss) put
    ∙ map-append string_bytes before (x ∷ [])
    ∙ ap (λ (xs : List Text). xs ++ string_bytes x ∷ []) so_far
    ∙ append_assoc (map string_bytes old) (map short (count_from n 0)) (string_bytes x ∷ [])
    ∙ ap (λ (xs : List Text). map string_bytes old ++ xs)
    (ap (λ (y : Text). map short (count_from n 0) ++ y ∷ []) (e ∙ ap short (let q : n ≡ n + 0 = omega arith in q))
    ∙ sym (map-append short (count_from n 0) ((n + 0) ∷ []))
    ∙ ap (map short) (sym (count_push n 0) ∙ ap (λ (k : ℕ). count_from k 0) (let q : suc n ≡ n + 1 = omega arith in q)))
