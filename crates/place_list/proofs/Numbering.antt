-- Names that get numbers in turn.
use Rattle.std.specs.Prelude.{◌≡◌, ◌+◌, ◌<◌, ℕ, zero, suc, ◌≤◌, slice_index_or, slice_set, take, map, Bool, true, false, cond, nat_eq, List, [], ◌∷◌, length, Option, Some, None, bytes_eq}
use Rattle.std.specs.List.{AllByRecursion, Contains}
use Rattle.std.proofs.Common.{refl, sym, ap, ◌∙◌, subst, arith}
use Rattle.std.proofs.lemmas.Bool.{both_ways, eqb-true, eq-eqb}
use Rattle.std.proofs.lemmas.List.{length-set, take_all, take_more_set}
use Rattle.std.proofs.lemmas.Slice.Eq.{bytes_eq-Decides}
use Rattle.std.proofs.Math.Seq.{map-set_same}
use Rattle.place_list.specs.Names.{TellsApart}
use Rattle.place_list.specs.TableViews.{entry_view}
use Rattle.place_list.specs.declared.tables.PlaceEntry.{PlaceEntry}
use Rattle.tree_nodes.specs.Tree.{Text}
use Rattle.list_laws.proofs.AllOf.{AllOf_push}

-- ---- one name gets the next number

module _ (f g : Text → Option ℕ) (x : Text) (n : ℕ) (set : (y : Text) → g y ≡ cond (bytes_eq x y) (Some n) (f y)) (new : f x ≡ None) where
  pub keeps_the_others : (y : Text) (k : ℕ) → f y ≡ Some k → g y ≡ Some k
  keeps_the_others y k e = set y ∙ go (bytes_eq x y) refl
    where
      go : (b : Bool) → bytes_eq x y ≡ b → cond b (Some n) (f y) ≡ Some k
      go true h = let impossible : None ≡ Some k = sym new ∙ ap f ((bytes_eq-Decides x y).0 h) ∙ e in absurd (cc)
      go false h = e

  data Had (y : Text) (k : ℕ) : Type 0 where
    is_new : x ≡ y → n ≡ k → Had y k
    was : f y ≡ Some k → Had y k

  had : (y : Text) (k : ℕ) → g y ≡ Some k → Had y k
  had y k e = go (bytes_eq x y) refl (sym (set y) ∙ e)
    where
      go : (b : Bool) → bytes_eq x y ≡ b → cond b (Some n) (f y) ≡ Some k → Had y k
      go true h q = is_new ((bytes_eq-Decides x y).0 h) (cc)
      go false h q = was q

  pub tells_one_more_apart : (m : ℕ) → m ≡ n + 1 → TellsApart f n → TellsApart g m
  tells_one_more_apart m e t = record { below = λ y k h. is_below y k (had y k h); apart = λ y z k h j. is_apart y z k (had y k h) (had z k j) }
    where
      is_below : (y : Text) (k : ℕ) → Had y k → k < m
      is_below y k (is_new p q) = omega arith
      is_below y k (was p) = let l : k < n = t.below y k p in omega arith

      is_apart : (y z : Text) (k : ℕ) → Had y k → Had z k → y ≡ z
      is_apart y z k (is_new p q) (is_new r s) = sym p ∙ r
      is_apart y z k (is_new p q) (was r) = absurd (let l : k < n = t.below z k r in omega arith)
      is_apart y z k (was p) (is_new r s) = absurd (let l : k < n = t.below y k p in omega arith)
      is_apart y z k (was p) (was r) = t.apart y z k p r

-- ---- places with the numbers of their names

abbrev pub HaveNumbers : (Text → Option ℕ) → List PlaceEntry → Type 0
HaveNumbers f es = AllByRecursion (λ e. f e.name.now ≡ Some e.name_number) es

pub numbers_stay : (f g : Text → Option ℕ) → ((x : Text) (k : ℕ) → f x ≡ Some k → g x ≡ Some k) → (es : List PlaceEntry) → HaveNumbers f es → HaveNumbers g es
numbers_stay f g keeps [] h = tt
numbers_stay f g keeps (e ∷ es) h = (keeps _ _ h.0, numbers_stay f g keeps es h.1)

pub numbers_below : (f : Text → Option ℕ) (n : ℕ) (es : List PlaceEntry) → TellsApart f n → HaveNumbers f es → AllByRecursion (λ e. e.name_number < n) es
numbers_below f n [] t h = tt
numbers_below f n (e ∷ es) t h = (t.below _ _ h.0, numbers_below f n es t h.1)

of_contained : {X : Type 0} (P : X → Type 0) (xs : List X) (x : X) → AllByRecursion P xs → Contains xs x → P x
of_contained {X} P xs x a c = go xs a c.0 c.1 c.2
  where
    go : (ys : List X) → AllByRecursion P ys → (k : ℕ) → k < length ys → slice_index_or ys k x ≡ x → P x
    go [] b k h e = absurd (omega (arith, h))
    go (y ∷ ys) b zero h e = subst P e b.0
    go (y ∷ ys) b (suc k) h e = go ys b.1 k (omega (arith, h)) e

-- two of them have one number exactly where their names are equal
pub numbers_tell_names : (f : Text → Option ℕ) (n : ℕ) (es : List PlaceEntry) → TellsApart f n → HaveNumbers f es
    → (p q : PlaceEntry) → Contains es p → Contains es q → nat_eq p.name_number q.name_number ≡ bytes_eq p.name.now q.name.now
numbers_tell_names f n es t h p q i j = go _ refl _ refl
  where
    x : f p.name.now ≡ Some p.name_number
    x = of_contained (λ e. f e.name.now ≡ Some e.name_number) es p h i

    y : f q.name.now ≡ Some q.name_number
    y = of_contained (λ e. f e.name.now ≡ Some e.name_number) es q h j

    go : (a : Bool) → nat_eq p.name_number q.name_number ≡ a → (b : Bool) → bytes_eq p.name.now q.name.now ≡ b → a ≡ b
    go true d true e = refl
    go false d false e = refl
    go true d false e = absurd (both_ways _ e ((bytes_eq-Decides _ _).1 (t.apart _ _ q.name_number (x ∙ ap Some (eqb-true _ _ d)) y)))
    go false d true e = absurd (both_ways _ d (eq-eqb _ _ (let same : Some p.name_number ≡ Some q.name_number = sym x ∙ ap f ((bytes_eq-Decides _ _).0 e) ∙ y in cc)))

-- ---- a place gets the number of its name

module _ (es : List PlaceEntry) (i : ℕ) (x : PlaceEntry) (k : ℕ) where
  abbrev given : List PlaceEntry
  given = slice_set es i (record { node = x.node; start = x.start; private = x.private; setting = x.setting; name = x.name; name_number = k })

  pub same_length : length given ≡ length es
  same_length = length-set es i _

  pub views_stay : x ≡ slice_index_or es i x → map entry_view given ≡ map entry_view es
  views_stay e = map-set_same entry_view es i _ x (ap entry_view e)

pub one_number_more : (f : Text → Option ℕ) (es : List PlaceEntry) (i : ℕ) (x : PlaceEntry) (k : ℕ) → i < length es → HaveNumbers f (take i es) → f x.name.now ≡ Some k
    → HaveNumbers f (take (i + 1) (slice_set es i (record { node = x.node; start = x.start; private = x.private; setting = x.setting; name = x.name; name_number = k })))
one_number_more f es i x k h a e =
    let y : PlaceEntry = record { node = x.node; start = x.start; private = x.private; setting = x.setting; name = x.name; name_number = k } in
    subst (HaveNumbers f) (sym (take_more_set es i y h)) (AllOf_push (λ (z : PlaceEntry). f z.name.now ≡ Some z.name_number) (take i es) y a e)

pub all_numbered : (f : Text → Option ℕ) (es : List PlaceEntry) (i : ℕ) → length es ≤ i → HaveNumbers f (take i es) → HaveNumbers f es
all_numbered f es i h a = subst (HaveNumbers f) (take_all i es h) a
