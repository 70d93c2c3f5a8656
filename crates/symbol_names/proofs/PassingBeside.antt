-- What stands beside the items that pass a test, one item after another, and where each of those stands.
use Rattle.std.specs.Prelude.{◌≡◌, ◌<◌, ◌≤◌, ℕ, zero, suc, ◌+◌, Bool, true, false, cond, List, [], ◌∷◌, ◌++◌, filter, length, map, take, get_or, slice_get, Option, Some, None}
use Rattle.std.proofs.Common.{refl, sym, ap, ◌∙◌, arith, take_all, add-one}
use Rattle.std.proofs.lemmas.List.{append-nil, length-take-le, take_more}
use Rattle.list_laws.proofs.Tests.{none_some, some_one}
use Rattle.symbol_names.specs.Beside.{beside}

beside_push : {X : Type 0} (bs : List Bool) (b : Bool) (f : ℕ → X) (n : ℕ) → beside (bs ++ b ∷ []) f n ≡ beside bs f n ++ cond b (f (n + length bs) ∷ []) []
unfolding beside
beside_push {X} [] b f n = ap (λ (m : ℕ). cond b (f m ∷ []) []) (let e : n ≡ n + 0 = omega arith in e)
beside_push {X} (c ∷ bs) b f n = go c (beside_push bs b f (suc n) ∙ ap (λ (m : ℕ). beside bs f (suc n) ++ cond b (f m ∷ []) []) (let e : suc n + length bs ≡ n + suc (length bs) = omega arith in e))
  where
    last : List X
    last = cond b (f (n + suc (length bs)) ∷ []) []

    go : (c : Bool) → beside (bs ++ b ∷ []) f (suc n) ≡ beside bs f (suc n) ++ last
        → cond c (f n ∷ beside (bs ++ b ∷ []) f (suc n)) (beside (bs ++ b ∷ []) f (suc n)) ≡ cond c (f n ∷ beside bs f (suc n)) (beside bs f (suc n)) ++ last
    go true ih = ap (λ xs. f n ∷ xs) ih
    go false ih = ih

module _ {X : Type 0} (bs : List Bool) (f : ℕ → X) (i : ℕ) (found : List X) (so_far : found ≡ beside (take i bs) f 0) where
  pub one_beside : (d : Bool) (x : X) (new : List X) → i < length bs → x ≡ f i → new ≡ found ++ cond (get_or bs i d) (x ∷ []) [] → new ≡ beside (take (i + 1) bs) f 0
  one_beside d x new h e put =
      put
      ∙ ap (λ xs. xs ++ cond (get_or bs i d) (x ∷ []) []) so_far
      ∙ ap (λ (y : X). beside (take i bs) f 0 ++ cond (get_or bs i d) (y ∷ []) []) (e ∙ ap f (let l : i ≡ 0 + length (take i bs) = omega (arith, length-take-le i bs (omega (arith, h))) in l))
      ∙ sym (ap (λ cs. beside cs f 0) (take_more bs i d h) ∙ beside_push (take i bs) (get_or bs i d) f 0)

  pub all_beside : length bs ≤ i → found ≡ beside bs f 0
  all_beside h = so_far ∙ ap (λ cs. beside cs f 0) (take_all i bs h)

-- ---- where those that pass stand

module _ {X Y : Type 0} (test : X → Bool) (f : ℕ → Y) where
  pub as_many : (xs : List X) (n : ℕ) → length (beside (map test xs) f n) ≡ length (filter test xs)
  unfolding beside
  as_many [] n = refl
  as_many (x ∷ xs) n = go (test x) (as_many xs (suc n))
    where
      go : (b : Bool) → length (beside (map test xs) f (suc n)) ≡ length (filter test xs)
          → length (cond b (f n ∷ beside (map test xs) f (suc n)) (beside (map test xs) f (suc n))) ≡ length (cond b (x ∷ filter test xs) (filter test xs))
      go true ih = ap (λ (m : ℕ). suc m) ih
      go false ih = ih

  -- the k-th that passes is the i-th item, and what stands beside it is what the function has there
  pub record Stands (xs : List X) (n k : ℕ) (x : X) (d : Y) : Type 0 where
    pub index : ℕ
    pub is : slice_get xs index ≡ Some x
    pub passes : test x ≡ true
    pub beside_it : get_or (beside (map test xs) f n) k d ≡ f (n + index)

  pub stands : (xs : List X) (n k : ℕ) (x : X) (d : Y) → slice_get (filter test xs) k ≡ Some x → Stands xs n k x d
  unfolding beside
  stands [] n k x d e = absurd (none_some x e)
  stands (y ∷ xs) n k x d e = go (test y) refl k e (λ j. stands xs (suc n) j x d)
    where
      rest : List Y
      rest = beside (map test xs) f (suc n)

      later : (b : Bool) → test y ≡ b → (j m : ℕ) → Stands xs (suc n) j x d → get_or (cond b (f n ∷ rest) rest) m d ≡ get_or rest j d → Stands (y ∷ xs) n m x d
      later b t j m s same = record {
        index = suc s.index;
        is = s.is;
        passes = s.passes;
        beside_it = ap (λ (c : Bool). get_or (cond c (f n ∷ rest) rest) m d) t ∙ same ∙ s.beside_it ∙ ap f (let l : suc n + s.index ≡ n + suc s.index = omega arith in l);
      }

      here : test y ≡ true → (m : ℕ) → slice_get (y ∷ filter test xs) m ≡ Some x → ((j : ℕ) → slice_get (filter test xs) j ≡ Some x → Stands xs (suc n) j x d) → Stands (y ∷ xs) n m x d
      here t zero g ih = record {
        index = 0;
        is = g;
        passes = ap test (sym (some_one y x g)) ∙ t;
        beside_it = ap (λ (c : Bool). get_or (cond c (f n ∷ rest) rest) 0 d) t ∙ ap f (let l : n ≡ n + 0 = omega arith in l);
      }
      here t (suc j) g ih = later true t j (suc j) (ih j g) refl

      go : (b : Bool) → test y ≡ b → (m : ℕ) → slice_get (cond b (y ∷ filter test xs) (filter test xs)) m ≡ Some x → ((j : ℕ) → slice_get (filter test xs) j ≡ Some x → Stands xs (suc n) j x d) → Stands (y ∷ xs) n m x d
      go true t m g ih = here t m g ih
      go false t m g ih = later false t m m (ih m g) refl

-- what stands there is what the function has somewhere
pub from_beside : {Y : Type 0} (bs : List Bool) (f : ℕ → Option Y) (n k : ℕ) (y : Y) → get_or (beside bs f n) k None ≡ Some y → (i : ℕ) × (f i ≡ Some y)
unfolding beside
from_beside [] f n k y e = absurd (none_some y e)
from_beside {Y} (b ∷ bs) f n k y e = go b k e (λ m. from_beside bs f (suc n) m y)
  where
    go : (c : Bool) (m : ℕ) → get_or (cond c (f n ∷ beside bs f (suc n)) (beside bs f (suc n))) m None ≡ Some y → ((j : ℕ) → get_or (beside bs f (suc n)) j None ≡ Some y → (i : ℕ) × (f i ≡ Some y)) → (i : ℕ) × (f i ≡ Some y)
    go true zero g ih = (n, g)
    go true (suc m) g ih = ih m g
    go false m g ih = ih m g
