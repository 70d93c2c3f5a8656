-- The number of a private name is that of its place in the class body that declares it.
use Rattle.std.specs.Prelude.{◌≡◌, ◌<◌, ℕ, zero, suc, Bool, true, nat_lt, List, [], ◌∷◌, drop, length, Option, Some, None, if◌then◌else◌}
use Rattle.std.proofs.Common.{refl, sym, ap, ◌∙◌, subst, arith, lt-ltb, le-ltb}
use Rattle.list_laws.proofs.Tests.{none_some, some_one, tested, told}
use Rattle.name_rules.proofs.PrivateChains.{index_below}
use Rattle.name_rules.specs.PrivateNumbers.{index_of, number_in, private_number}
use Rattle.tree_nodes.specs.Tree.{Text}
use Rattle.tree_places.specs.Places.{Place}
use Rattle.scope_rules.specs.Evals.{is_open}
use Rattle.scope_rules.specs.PrivateNames.{declaring_class, is_among, private_names}
use Rattle.private_numbers.specs.Numbers.{class_number, numbered_names}

-- class bodies below n, each followed by those around it, by what lies from each one outwards
abbrev pub Follow : (ℕ → List ℕ) → ℕ → List ℕ → Type 0
Follow from n [] = Unit {0}
Follow from n (c ∷ cs) = (c < n) × (from c ≡ c ∷ cs) × Follow from n cs

-- from a number on, with the next one outwards
abbrev pub from_next : (ℕ → List ℕ) → Option ℕ → List ℕ
from_next from None = []
from_next from (Some p) = from p

module _ (from : ℕ → List ℕ) (n : ℕ) (next : ℕ → Option ℕ) (falls : (k p : ℕ) → next k ≡ Some p → p < k) (step : (k : ℕ) → k < n → from k ≡ k ∷ from_next from (next k)) where
  follow_by : (fuel k : ℕ) → k < fuel → k < n → Follow from n (from k)
  follow_by zero k h l = absurd (omega (arith, h))
  follow_by (suc fuel) k h l = subst (Follow from n) (sym (step k l)) (
    l,
    step k l,
    told (next k)
        (λ e. subst (λ o. Follow from n (from_next from o)) (sym e) tt)
        (λ p e. subst (λ o. Follow from n (from_next from o)) (sym e) (let j : p < k = falls k p e in follow_by fuel p (omega (arith, j, h)) (omega (arith, j, l)))),
  )

  pub they_follow : (k : ℕ) → k < n → Follow from n (from k)
  they_follow k h = follow_by (suc k) k (omega arith) h

module _ (ps : List Place) (from : ℕ → List ℕ) (n : ℕ) (x : Text) where
  -- the number of the name in the class body that declares it
  abbrev pub declared_number : Option ℕ → Option ℕ
  declared_number None = None
  declared_number (Some c) = class_number ps (drop 1 (from c)) c (index_of x (private_names ps c))

  number_here : (c : ℕ) (cs : List ℕ) → from c ≡ c ∷ cs → is_among (private_names ps c) x ≡ true
      → if◌then◌else◌ {A = Option ℕ} (is_open ps c) None (Some (number_in ps cs (index_of x (private_names ps c)))) ≡ class_number ps (drop 1 (from c)) c (index_of x (private_names ps c))
  unfolding class_number numbered_names
  number_here c cs e among =
      tested (is_open ps c)
      (λ t. ap (λ (b : Bool). if◌then◌else◌ {A = Option ℕ} b None (Some (number_in ps cs k))) t
      ∙ sym (ap (λ (b : Bool). if nat_lt k (if b then 0 else length (private_names ps c)) then Some (number_in ps (drop 1 (from c)) k) else None) t
      ∙ ap (λ (b : Bool). if b then Some (number_in ps (drop 1 (from c)) k) else None) (le-ltb k 0 (omega arith))))
      (λ t. ap (λ (b : Bool). if◌then◌else◌ {A = Option ℕ} b None (Some (number_in ps cs k))) t
      ∙ ap (λ (outer : List ℕ). Some (number_in ps outer k)) (sym (ap (drop 1) e))
      ∙ sym (ap (λ (b : Bool). if nat_lt k (if b then 0 else length (private_names ps c)) then Some (number_in ps (drop 1 (from c)) k) else None) t
      ∙ ap (λ (b : Bool). if b then Some (number_in ps (drop 1 (from c)) k) else None) (lt-ltb k (length (private_names ps c)) (index_below (private_names ps c) x among))))
    where
      k : ℕ
      k = index_of x (private_names ps c)

  pub number_is : (cs : List ℕ) → Follow from n cs → private_number ps x cs ≡ declared_number (declaring_class ps x cs)
  unfolding private_number declaring_class
  number_is [] f = refl
  number_is (c ∷ cs) f = tested (is_among (private_names ps c) x)
      (λ t. ap (λ (b : Bool). if b then (if is_open ps c then None else Some (number_in ps cs (index_of x (private_names ps c)))) else private_number ps x cs) t
      ∙ number_here c cs f.1 t
      ∙ sym (ap (λ (b : Bool). declared_number (if b then Some c else declaring_class ps x cs)) t))
      (λ t. ap (λ (b : Bool). if b then (if is_open ps c then None else Some (number_in ps cs (index_of x (private_names ps c)))) else private_number ps x cs) t
      ∙ number_is cs f.2
      ∙ sym (ap (λ (b : Bool). declared_number (if b then Some c else declaring_class ps x cs)) t))

  pub declared_below : (cs : List ℕ) → Follow from n cs → (c : ℕ) → declaring_class ps x cs ≡ Some c → c < n
  unfolding declaring_class
  declared_below [] f c e = absurd (none_some c e)
  declared_below (d ∷ cs) f c e = tested (is_among (private_names ps d) x)
      (λ t. let same : d ≡ c = some_one d c (sym (ap (λ (b : Bool). if b then Some d else declaring_class ps x cs) t) ∙ e) in let h : d < n = f.0 in omega (arith, same, h))
      (λ t. declared_below cs f.2 c (sym (ap (λ (b : Bool). if b then Some d else declaring_class ps x cs) t) ∙ e))
