-- Tests that compare by content: of two fields together, and of what is there or not.
use Rattle.std.proofs.Common.{◌≡◌, ◌↔◌, Bool, ◌&&◌, None, Some, IsTrue, option_map, refl, ap, ap₂}
use Rattle.std.specs.Option.{option_eq}
use Rattle.std.proofs.lemmas.Bool.{and_parts, and_from}
use Rattle.oxc_str.specs.Equality.{ComparesBy}

-- two fields are equal together exactly where each is
pub joined : {A B : Type 0} {p q : Bool} {a c : A} {b d : B} → (IsTrue p ↔ (a ≡ c)) → (IsTrue q ↔ (b ≡ d)) → IsTrue (p && q) ↔ (◌≡◌ {A = A × B} (a, b) (c, d))
joined {A} {B} {p} {q} {a} {c} {b} {d} first second = (
  λ h. let both = and_parts p q h in ap₂ (λ s t. (s, t)) (first.0 both.0) (second.0 both.1),
  λ e. and_from p q (first.1 (ap (λ (pair : A × B). pair.0) e)) (second.1 (ap (λ (pair : A × B). pair.1) e)),
)

-- five or seven fields as pairs within pairs, and back
module _ {A B C D E : Type 0} where
  abbrev pub paired5 : A × B × C × D × E → A × (B × (C × (D × E)))
  paired5 p = (p.0, (p.1, (p.2, (p.3, p.4))))

  abbrev pub flat5 : A × (B × (C × (D × E))) → A × B × C × D × E
  flat5 p = (p.0, p.1.0, p.1.1.0, p.1.1.1.0, p.1.1.1.1)

module _ {A B C D E F G : Type 0} where
  abbrev pub paired7 : A × B × C × D × E × F × G → A × (B × (C × (D × (E × (F × G)))))
  paired7 p = (p.0, (p.1, (p.2, (p.3, (p.4, (p.5, p.6))))))

  abbrev pub flat7 : A × (B × (C × (D × (E × (F × G))))) → A × B × C × D × E × F × G
  flat7 p = (p.0, p.1.0, p.1.1.0, p.1.1.1.0, p.1.1.1.1.0, p.1.1.1.1.1.0, p.1.1.1.1.1.1)

module _ {T A : Type 0} (f : T → A) (E : T → T → Bool) where
  -- what is there or not is equal exactly where neither is there, or both are and are equal
  pub optional : ComparesBy f E → ComparesBy (option_map f) (option_eq E)
  optional a None None = (λ h. refl, λ e. refl)
  optional a None (Some y) = (λ h. cc, λ e. cc)
  optional a (Some x) None = (λ h. cc, λ e. cc)
  optional a (Some x) (Some y) = (λ h. ap Some ((a x y).0 h), λ e. (a x y).1 (cc))
