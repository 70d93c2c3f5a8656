-- The numbers of symbols, as rows have them.
use Rattle.std.specs.Prelude.{◌≡◌, ◌+◌, ◌<◌, ℕ, zero, suc, Bool, true, false, nat_eq, List, [], ◌∷◌, length, map, get_or, Option, Some, None, IfSome, if◌then◌else◌}
use Rattle.std.specs.List.{AllByRecursion, range_with_len}
use Rattle.std.proofs.Common.{refl, sym, ap, ◌∙◌, subst, arith}
use Rattle.std.proofs.lemmas.List.FromFn.{length-map-range_with_len}
use Rattle.list_laws.proofs.Tests.{none_some, some_one}
use Rattle.number_tables.specs.GroupsOf.{items_of, is_number}
use Rattle.number_tables.specs.PlacedNumbers.{number_at}
use Rattle.tree_symbols.specs.Known.{IsRowBelow, declared_by, declares, entry_at}
use Rattle.tree_symbols.specs.SymbolTables.{IsRowOf, bound_symbol, declared_symbol, first_numbers, number_among, symbol_at}
use Rattle.tree_symbols.specs.declared.known.KnownPlace.{KnownPlace}

number_below : (n : ℕ) (ms : List ℕ) (j c k : ℕ) → number_at n ms (map (λ (i : ℕ). Some i) (range_with_len j c)) ≡ Some k → k < j + c
unfolding number_at
number_below n [] j c k e = absurd (none_some k e)
number_below n (m ∷ ms) j zero k e = absurd (none_some k e)
number_below n (m ∷ ms) j (suc c) k e = go (nat_eq m n) e (number_below n ms (j + 1) c k)
  where
    go : (b : Bool) → (if b then Some j else number_at n ms (map (λ (i : ℕ). Some i) (range_with_len (j + 1) c))) ≡ Some k
        → (number_at n ms (map (λ (i : ℕ). Some i) (range_with_len (j + 1) c)) ≡ Some k → k < j + 1 + c) → k < j + suc c
    go true f more = let h : j ≡ k = some_one j k f in omega (arith, h)
    go false f more = let h : k < j + 1 + c = more f in omega (arith, h)

pub row_below : (ss : List KnownPlace) (row : List (Option ℕ)) → IsRowOf ss row → IsRowBelow (length ss) row
unfolding number_among
row_below ss row h n k e = let l : k < 0 + length ss = number_below n (map (λ (s : KnownPlace). s.place.node) ss) 0 (length ss) k (sym (h n) ∙ e) in omega (arith, l)

pub number_among_below : (ss : List KnownPlace) (n k : ℕ) → number_among ss n ≡ Some k → k < length ss
unfolding number_among
number_among_below ss n k e = let l : k < 0 + length ss = number_below n (map (λ (s : KnownPlace). s.place.node) ss) 0 (length ss) k e in omega (arith, l)

pub some_below : (m : ℕ) (o : Option ℕ) → ((j : ℕ) → o ≡ Some j → j < m) → IfSome o (λ j. j < m)
some_below m None f = tt
some_below m (Some j) f = f j refl

-- all to which places are bound are among the symbols
pub bound_below : (ss ks : List KnownPlace) → AllByRecursion (λ o. IfSome o (λ k. k < length ss)) (map (bound_symbol ss) ks)
unfolding bound_symbol symbol_at
bound_below ss [] = tt
bound_below ss (k ∷ ks) = (go k.binding, bound_below ss ks)
  where
    go : (o : Option ℕ) → IfSome (symbol_at ss o) (λ j. j < length ss)
    go None = tt
    go (Some n) = some_below (length ss) (number_among ss n) (number_among_below ss n)

pub found_below : (m n : ℕ) (ns : List ℕ) (os : List (Option ℕ)) (k : ℕ) → AllByRecursion (λ o. IfSome o (λ j. j < m)) os → number_at n ns os ≡ Some k → k < m
unfolding number_at
found_below m n [] os k a e = absurd (none_some k e)
found_below m n (i ∷ ns) [] k a e = absurd (none_some k e)
found_below m n (i ∷ ns) (o ∷ os) k a e = go (nat_eq i n) e (found_below m n ns os k a.1)
  where
    go : (b : Bool) → (if b then o else number_at n ns os) ≡ Some k → (number_at n ns os ≡ Some k → k < m) → k < m
    go true f more = subst (λ (p : Option ℕ). IfSome p (λ j. j < m)) f a.0
    go false f more = more f

pub entry_is : (ss : List KnownPlace) (row : List (Option ℕ)) → IsRowOf ss row → (o : Option ℕ) → entry_at row o ≡ symbol_at ss o
unfolding entry_at symbol_at
entry_is ss row h None = refl
entry_is ss row h (Some n) = h n

pub bound_are : (ss : List KnownPlace) (row : List (Option ℕ)) → IsRowOf ss row → (ks : List KnownPlace) → map (λ k. entry_at row k.binding) ks ≡ map (bound_symbol ss) ks
unfolding bound_symbol
bound_are ss row h [] = refl
bound_are ss row h (k ∷ ks) = ap (λ o. o ∷ map (λ k. entry_at row k.binding) ks) (entry_is ss row h k.binding) ∙ ap (λ os. symbol_at ss k.binding ∷ os) (bound_are ss row h ks)

pub declared_are : (ss : List KnownPlace) (row : List (Option ℕ)) → IsRowOf ss row → (ks : List KnownPlace) → map (declared_by row) ks ≡ map (declared_symbol ss) ks
unfolding bound_symbol declared_by declared_symbol
declared_are ss row h [] = refl
declared_are ss row h (k ∷ ks) =
    ap (λ (o : Option ℕ). (if declares k then o else None) ∷ map (declared_by row) ks) (entry_is ss row h k.binding)
    ∙ ap (λ os. (if declares k then symbol_at ss k.binding else None) ∷ os) (declared_are ss row h ks)

-- each symbol that is declared is among the symbols
pub declared_below : (count : ℕ) (row : List (Option ℕ)) → IsRowBelow count row → (ks : List KnownPlace) → AllByRecursion (λ o. IfSome o (λ k. k < count)) (map (declared_by row) ks)
unfolding declared_by entry_at
declared_below count row h [] = tt
declared_below count row h (k ∷ ks) = (go (declares k) k.binding, declared_below count row h ks)
  where
    go : (b : Bool) (o : Option ℕ) → IfSome (if b then entry_at row o else None) (λ j. j < count)
    go true None = tt
    go true (Some n) = some_below count (get_or row n None) (h n)
    go false o = tt

pub entries_below : (count : ℕ) (row : List (Option ℕ)) → IsRowBelow count row → (ks : List KnownPlace) → AllByRecursion (λ o. IfSome o (λ k. k < count)) (map (λ k. entry_at row k.binding) ks)
unfolding entry_at
entries_below count row h [] = tt
entries_below count row h (k ∷ ks) = (go k.binding, entries_below count row h ks)
  where
    go : (o : Option ℕ) → IfSome (entry_at row o) (λ j. j < count)
    go None = tt
    go (Some n) = some_below count (get_or row n None) (h n)

-- the symbol to which a place is bound, too
pub entry_below : (count : ℕ) (row : List (Option ℕ)) → IsRowBelow count row → (o : Option ℕ) (k : ℕ) → entry_at row o ≡ Some k → k < count
unfolding entry_at
entry_below count row h None k e = absurd (none_some k e)
entry_below count row h (Some n) k e = h n k e

-- items that stand for others
pub items_map : {X Y : Type 0} (f : X → Y) (k : ℕ) (os : List (Option ℕ)) (xs : List X) → map f (items_of k os xs) ≡ items_of k os (map f xs)
unfolding items_of
items_map f k [] xs = refl
items_map f k (o ∷ os) [] = refl
items_map f k (o ∷ os) (x ∷ xs) = go (is_number o k) (items_map f k os xs)
  where
    go : (b : Bool) → map f (items_of k os xs) ≡ items_of k os (map f xs) → map f (if b then x ∷ items_of k os xs else items_of k os xs) ≡ (if b then f x ∷ items_of k os (map f xs) else items_of k os (map f xs))
    go true e = ap (λ ys. f x ∷ ys) e
    go false e = e

pub same_length : {X Y : Type 0} (f : X → Y) (xs : List X) → length (map f xs) ≡ length xs
same_length f [] = refl
same_length f (x ∷ xs) = ap (λ (n : ℕ). suc n) (same_length f xs)

pub numbers_fit : (ss : List KnownPlace) → length (first_numbers (length ss)) ≡ length (map (λ s. s.place.node) ss)
numbers_fit ss = length-map-range_with_len (λ (n : ℕ). Some n) 0 (length ss) ∙ sym (same_length (λ (s : KnownPlace). s.place.node) ss)
