-- Names that are put into a set, beside the list that they are of.
use Rattle.std.proofs.Common.{◌≡◌, ◌+◌, suc, Bool, true, false, not, ◌||◌, List, ◌∷◌, length, bytes_eq, refl, sym, ap, ◌∙◌, subst, arith, if◌then◌else◌}
use Rattle.std.proofs.lemmas.Slice.Eq.{bytes_eq-Decides}
use Rattle.list_laws.proofs.Tests.{tests_agree}
use Rattle.scope_rules.specs.Bindings.{same_name}
use Rattle.scope_rules.specs.PrivateNames.{is_among}
use Rattle.tree_nodes.specs.Tree.{Text}
use Rattle.tool_words.specs.Readings.{HasPut}
use Rattle.tool_words.specs.Words.{AreListed}

same_flips : (x y : Text) → bytes_eq x y ≡ bytes_eq y x
same_flips x y = tests_agree (bytes_eq x y) (bytes_eq y x) (λ e. (bytes_eq-Decides y x).1 (sym ((bytes_eq-Decides x y).0 e))) (λ e. (bytes_eq-Decides x y).1 (sym ((bytes_eq-Decides y x).0 e)))

either_way : (t u a b : Bool) → t ≡ u → a ≡ b → (if t then true else a) ≡ (u || b)
either_way true true a b e f = refl
either_way false false a b e f = f
either_way true false a b e f = absurd (cc)
either_way false true a b e f = absurd (cc)

module _ (x : Text) (old new listed : List Text) (a : AreListed old listed) (p : HasPut x old new) where
  -- where it is listed it is not listed again
  listed_again : is_among listed x ≡ true → (y : Text) → is_among new y ≡ is_among listed y
  listed_again e y = p.same y ∙ told (bytes_eq x y) refl
    where
      told : (t : Bool) → bytes_eq x y ≡ t → (if t then true else is_among old y) ≡ is_among listed y
      told true h = sym (subst (λ (z : Text). is_among listed z ≡ true) ((bytes_eq-Decides x y).0 h) e)
      told false h = a.same y

  listed_first : (y : Text) → is_among new y ≡ is_among (x ∷ listed) y
  unfolding is_among same_name
  listed_first y = p.same y ∙ either_way (bytes_eq x y) (bytes_eq y x) (is_among old y) (is_among listed y) (same_flips x y) (a.same y)

  listed_by : (t : Bool) → is_among listed x ≡ t → AreListed new (if t then listed else x ∷ listed)
  listed_by true e = record {
    same = listed_again e;
    many = p.many ∙ ap (λ (t : Bool). length (if t then old else x ∷ old)) (a.same x ∙ e) ∙ a.many;
  }
  listed_by false e = record {
    same = listed_first;
    many = p.many ∙ ap (λ (t : Bool). length (if t then old else x ∷ old)) (a.same x ∙ e) ∙ ap suc a.many;
  }

  pub listed_put : AreListed new (if is_among listed x then listed else x ∷ listed)
  listed_put = listed_by (is_among listed x) refl

-- ---- what a set tells of a name that is put into it

pub put_counted : (old new : List Text) (x : Text) (added : Bool) (had : Bool) → added ≡ not had → had ≡ is_among old x → length new ≡ length old + (if added then 1 else 0)
    → length new ≡ length (if is_among old x then old else x ∷ old)
put_counted old new x added had e h n = n ∙ counted had e ∙ ap (λ (t : Bool). length (if t then old else x ∷ old)) h
  where
    counted : (t : Bool) → added ≡ not t → length old + (if added then 1 else 0) ≡ length (if t then old else x ∷ old)
    counted true f = ap (λ (t : Bool). length old + (if t then 1 else 0)) f ∙ omega arith
    counted false f = ap (λ (t : Bool). length old + (if t then 1 else 0)) f ∙ omega arith
