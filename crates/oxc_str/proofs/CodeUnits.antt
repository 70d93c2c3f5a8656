-- Code units and their code points give each other back.
use Rattle.std.proofs.Common.{◌≡◌, ℕ, ◌<◌, ◌≤◌, ◌+◌, ◌-◌, ◌/◌, ◌%◌, ⊎_elim, inl, inr, List, [], ◌∷◌, get_or, Bool, true, false, ◌&&◌, nat_le, nat_lt, flat_map, arith, sym, ap, ◌∙◌, refl, subst, ltb-true, leb-true}
use Rattle.std.specs.Char.Escape.{encode_utf16}
use Rattle.std.proofs.Math.Bool.{and-false}
use Rattle.std.proofs.lemmas.Bool.{and_parts, cases_lt}
use Rattle.std.proofs.lemmas.Bool.Decides.{nat_tests}
use Rattle.json_text.specs.Strings.{is_lead, is_trail, joined}
use Rattle.json_text.specs.HasText.{AreCodeUnits}
use Rattle.json_text.proofs.Units.{AreCodeUnits-append, encode_utf16-long, encode_utf16-short}
use Rattle.oxc_estree.proofs.Units.{no_lead, no_trail}
use Rattle.oxc_str.specs.Wtf8.{code_points}
use Rattle.oxc_str.proofs.CodePoints.{IsCodePoint, AreCodePoints}

-- ---- leads and trails

-- a lead that a trail follows
abbrev pub is_pair : ℕ → ℕ → Bool
is_pair u v = is_lead u && is_trail v

pub lead_range : (u : ℕ) → is_lead u ≡ true → (55296 ≤ u) × (u < 56320)
lead_range u e = let b = and_parts (nat_le 55296 u) (nat_lt u 56320) e in (leb-true 55296 u b.0, ltb-true u 56320 b.1)

pub trail_range : (u : ℕ) → is_trail u ≡ true → (56320 ≤ u) × (u < 57344)
trail_range u e = let b = and_parts (nat_le 56320 u) (nat_lt u 57344) e in (leb-true 56320 u b.0, ltb-true u 57344 b.1)

pub no_pair_by_trail : (u v : ℕ) → is_trail v ≡ false → is_pair u v ≡ false
no_pair_by_trail u v e = ap (λ (b : Bool). is_lead u && b) e ∙ and-false (is_lead u)

pub no_pair_by_lead : (u v : ℕ) → is_lead u ≡ false → is_pair u v ≡ false
no_pair_by_lead u v e = ap (λ (b : Bool). b && is_trail v) e

-- ---- one code point

pub code_points-nil : code_points [] ≡ []
unfolding code_points
code_points-nil = refl

pub code_points_pair : (u v : ℕ) (us : List ℕ) → is_pair u v ≡ true → code_points (u ∷ v ∷ us) ≡ joined u v ∷ code_points us
unfolding code_points
code_points_pair u v us e = ap (λ (b : Bool). elim b as (λ _. List ℕ) [ true ↦ joined u v ∷ code_points us | false ↦ u ∷ code_points (v ∷ us) ]) e

pub code_points_alone : (u : ℕ) (us : List ℕ) → is_pair u (get_or us 0 0) ≡ false → code_points (u ∷ us) ≡ u ∷ code_points us
unfolding code_points
code_points_alone u [] e = refl
code_points_alone u (v ∷ us) e = ap (λ (b : Bool). elim b as (λ _. List ℕ) [ true ↦ joined u v ∷ code_points us | false ↦ u ∷ code_points (v ∷ us) ]) e

-- ---- from code units to code points and back

-- no lead stands right before a trail
abbrev pub Unsplit : List ℕ → Type 0
Unsplit [] = Unit {0}
Unsplit (c ∷ cs) = (is_pair c (get_or cs 0 0) ≡ false) × Unsplit cs

-- these code points are those of the units, and give them back
pub record Spelled (us cs : List ℕ) : Type 0 where
  pub codes : AreCodePoints cs
  pub unsplit : Unsplit cs
  pub back : flat_map encode_utf16 cs ≡ us
  pub head : is_trail (get_or cs 0 0) ≡ is_trail (get_or us 0 0)

spelled_pair : (u v : ℕ) (us cs : List ℕ) → is_pair u v ≡ true → Spelled us cs → Spelled (u ∷ v ∷ us) (joined u v ∷ cs)
spelled_pair u v us cs p s =
    let b = and_parts (is_lead u) (is_trail v) p in
    let l = lead_range u b.0 in
    let t = trail_range v b.1 in
    let c = joined u v in
    let top : c < 1114112 = omega arith in
    let long : 65536 ≤ c = omega arith in
    let first : 55296 + (c - 65536) / 1024 ≡ u = omega arith in
    let second : 56320 + (c - 65536) % 1024 ≡ v = omega arith in
    let low : u < 56320 = l.1 in
    record {
      codes = (top, s.codes);
      unsplit = (no_pair_by_lead c (get_or cs 0 0) (no_lead c (inr (omega arith))), s.unsplit);
      back = rw (encode_utf16-long c long, first, second, s.back) refl;
      head = no_trail c (inr (omega arith)) ∙ sym (no_trail u (inl low));
    }

spelled_alone : (u : ℕ) (us cs : List ℕ) → u < 65536 → is_pair u (get_or us 0 0) ≡ false → Spelled us cs → Spelled (u ∷ us) (u ∷ cs)
spelled_alone u us cs h p s = record {
  codes = (omega arith, s.codes);
  unsplit = (ap (λ (b : Bool). is_lead u && b) s.head ∙ p, s.unsplit);
  back = rw (encode_utf16-short u h, s.back) refl;
  head = refl;
}

by_pair : (u v : ℕ) (us : List ℕ) (b : Bool) → is_pair u v ≡ b → u < 65536 → Spelled us (code_points us) → Spelled (v ∷ us) (code_points (v ∷ us)) → Spelled (u ∷ v ∷ us) (code_points (u ∷ v ∷ us))
by_pair u v us true p h s r = subst (Spelled (u ∷ v ∷ us)) (sym (code_points_pair u v us p)) (spelled_pair u v us (code_points us) p s)
by_pair u v us false p h s r = subst (Spelled (u ∷ v ∷ us)) (sym (code_points_alone u (v ∷ us) p)) (spelled_alone u (v ∷ us) (code_points (v ∷ us)) h p r)

none_spelled : Spelled [] (code_points [])
none_spelled = subst (Spelled []) (sym code_points-nil) (record { codes = tt; unsplit = tt; back = refl; head = refl })

pub spelled : (us : List ℕ) → AreCodeUnits us → Spelled us (code_points us)
spelled [] a = none_spelled
spelled (u ∷ []) a =
    let p = no_pair_by_trail u 0 refl in
    subst (Spelled (u ∷ [])) (sym (code_points_alone u [] p)) (spelled_alone u [] (code_points []) a.0 p none_spelled)
spelled (u ∷ v ∷ us) a = by_pair u v us (is_pair u v) refl a.0 (spelled us a.1.1) (spelled (v ∷ us) a.1)

-- ---- from code points to code units and back

-- the first unit is a trail where the first code point is
head_units : (cs : List ℕ) → AreCodePoints cs → is_trail (get_or (flat_map encode_utf16 cs) 0 0) ≡ is_trail (get_or cs 0 0)
head_units [] a = refl
head_units (c ∷ cs) a = ⊎_elim
    (λ (h : c < 65536). rw (encode_utf16-short c h) refl)
    (λ (h : 65536 ≤ c).
    let low : 55296 + (c - 65536) / 1024 < 56320 = omega (arith, a.0) in
    rw (encode_utf16-long c h) (no_trail _ (inl low) ∙ sym (no_trail c (inr (omega arith)))))
    (cases_lt c 65536)

joins : (c : ℕ) → 65536 ≤ c → IsCodePoint c → (is_pair (55296 + (c - 65536) / 1024) (56320 + (c - 65536) % 1024) ≡ true) × (joined (55296 + (c - 65536) / 1024) (56320 + (c - 65536) % 1024) ≡ c)
joins c h top =
    let u = 55296 + (c - 65536) / 1024 in
    let v = 56320 + (c - 65536) % 1024 in
    let a : u < 56320 = omega arith in
    let b : v < 57344 = omega arith in
    let d : 55296 ≤ u = omega arith in
    let e : 56320 ≤ v = omega arith in
    (grind (arith, nat_tests), omega arith)

pub code_points-of_units : (cs : List ℕ) → AreCodePoints cs → Unsplit cs → code_points (flat_map encode_utf16 cs) ≡ cs
code_points-of_units [] a p = code_points-nil
code_points-of_units (c ∷ cs) a p =
    let more = code_points-of_units cs a.1 p.1 in
    ⊎_elim
    (λ (h : c < 65536).
    let lone = ap (λ (b : Bool). is_lead c && b) (head_units cs a.1) ∙ p.0 in
    rw (encode_utf16-short c h) (code_points_alone c (flat_map encode_utf16 cs) lone ∙ ap (λ (l : List ℕ). c ∷ l) more))
    (λ (h : 65536 ≤ c).
    let j = joins c h a.0 in
    rw (encode_utf16-long c h) (code_points_pair _ _ (flat_map encode_utf16 cs) j.0 ∙ ap (λ (d : ℕ). d ∷ code_points (flat_map encode_utf16 cs)) j.1 ∙ ap (λ (l : List ℕ). c ∷ l) more))
    (cases_lt c 65536)

pub AreCodeUnits-of_code_points : (cs : List ℕ) → AreCodePoints cs → AreCodeUnits (flat_map encode_utf16 cs)
AreCodeUnits-of_code_points [] a = tt
AreCodeUnits-of_code_points (c ∷ cs) a = AreCodeUnits-append (encode_utf16 c) (flat_map encode_utf16 cs)
    (⊎_elim
    (λ (h : c < 65536). subst AreCodeUnits (sym (encode_utf16-short c h)) (h, tt))
    (λ (h : 65536 ≤ c). subst AreCodeUnits (sym (encode_utf16-long c h)) (omega (arith, a.0), (omega arith, tt)))
    (cases_lt c 65536))
    (AreCodeUnits-of_code_points cs a.1)
